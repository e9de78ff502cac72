-- A part more, the end, or a refusal.
use Rattle.std.proofs.Common.{sym, ◌∙◌, arith, length}
use Rattle.std.proofs.lemmas.Bool.{eqb-false, eqb-true}
use Rattle.caps_text.specs.Reading.{read_more, repeat, caps_step}
use Rattle.caps_text.proofs.Loops.{caps_again, caps_refused, caps_shorter, gives_end, gives_same, refused_too}
use Rattle.caps_text.proofs.structures.read_structures.Goals as goal

pub loop-scanner-smaller : goal.loop-scanner-smaller
loop-scanner-smaller c =
    let full = eqb-false (length c.loop-scanner.scanner.rest.now) 0 (sym c.is_at_end.ensures ∙ c.loop-scanner-test.true) in
    caps_shorter (c.loop-scanner.made.whole, c.loop-scanner.made.structure) (c.in-Ok.more.whole, c.in-Ok.more.structure) c.loop-scanner.scanner.rest.now c.read_more.new.scanner.rest.now (omega (arith, full)) c.in-Ok.ensures

pub loop-scanner-preserved : goal.loop-scanner-preserved
loop-scanner-preserved c =
    let full = eqb-false (length c.loop-scanner.scanner.rest.now) 0 (sym c.is_at_end.ensures ∙ c.loop-scanner-test.true) in
    sym (caps_again (c.loop-scanner.made.whole, c.loop-scanner.made.structure) (c.in-Ok.more.whole, c.in-Ok.more.structure) c.loop-scanner.scanner.rest.now c.read_more.new.scanner.rest.now (omega (arith, full)) c.in-Ok.ensures) ∙ c.loop-scanner.invariant

pub returns-in-Err : goal.returns-in-Err
returns-in-Err c =
    let full = eqb-false (length c.loop-scanner.scanner.rest.now) 0 (sym c.is_at_end.ensures ∙ c.loop-scanner-test.true) in
    refused_too c.in-Err.refusal c.read_more.new.scanner.rest.now (read_more (c.loop-scanner.made.whole, c.loop-scanner.made.structure) c.loop-scanner.scanner.rest.now) _ (λ s e. sym c.loop-scanner.invariant ∙ caps_refused (c.loop-scanner.made.whole, c.loop-scanner.made.structure) c.loop-scanner.scanner.rest.now s (omega (arith, full)) e) c.in-Err.ensures

pub returns : goal.returns
returns c =
    let none = eqb-true (length c.loop-scanner.scanner.rest.now) 0 (sym c.is_at_end.ensures ∙ c.loop-scanner-test.false) in
    gives_same (λ z. z) c.finish.result c.loop-scanner.scanner.rest.now (repeat caps_step (c.loop-scanner.made.whole, c.loop-scanner.made.structure) c.loop-scanner.scanner.rest.now) _ c.loop-scanner.invariant (gives_end c.finish.result (c.loop-scanner.made.whole, c.loop-scanner.made.structure) c.loop-scanner.scanner.rest.now none (c.finish.ensures c.loop-scanner.scanner.rest.now))
