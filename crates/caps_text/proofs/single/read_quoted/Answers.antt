-- Character by character.
use Rattle.std.proofs.Common.{◌∙◌, sym, ap, false, arith}
use Rattle.std.specs.String.{string_bytes}
use Rattle.caps_text.specs.Reading.{read_quoted}
use Rattle.caps_text.proofs.Characters.{quoted_plain, quoted_taken}
use Rattle.caps_text.proofs.single.read_quoted.Goals as goal
use Rattle.gst_value.proofs.Characters.{shorter_by}

pub loop-next-preserved-in-Continue-1 : goal.loop-next-preserved-in-Continue-1
loop-next-preserved-in-Continue-1 c =
    ap (λ l. read_quoted false l c.take-in-92.new.self.rest.now) c.in_ok-push-in-Some-take.ensures.bytes
    ∙ sym (quoted_taken c.in-Some.next c.in-Some-take.escaped (string_bytes c.loop-next.characters) c.loop-next.scanner.rest.now c.take.new.self.rest.now c.take-in-92.new.self.rest.now c.in-Some.ensures c.in-92.is c.in-Some-take.ensures)
    ∙ c.loop-next.invariant

pub loop-next-smaller : goal.loop-next-smaller
loop-next-smaller c = shorter_by c.in-Some.next c.loop-next.scanner.rest.now c.take.new.self.rest.now c.in-Some.ensures

pub loop-next-preserved : goal.loop-next-preserved
loop-next-preserved c =
    ap (λ l. read_quoted false l c.take.new.self.rest.now) c.in_ok-push-in_default-next.ensures.bytes
    ∙ sym (quoted_plain c.in-Some.next (string_bytes c.loop-next.characters) c.loop-next.scanner.rest.now c.take.new.self.rest.now c.in-Some.ensures (λ e. omega (arith, e, c.in_default-next)) (λ e. omega (arith, e, c.in_default-next)))
    ∙ c.loop-next.invariant
