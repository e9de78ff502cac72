use Rattle.std.proofs.Common.{◌≡◌, ℕ, false, sym, arith, ◌∙◌}
use Rattle.std.proofs.lemmas.Option.{slice_get_within}
use Rattle.task_pads.specs.declared.pad.Pad.{Pad}
use Rattle.task_pads.specs.Behind.{leads_on}
use Rattle.task_pads.specs.Pads.{rest_of}
use Rattle.task_pads.proofs.Lists.{some_at}
use Rattle.task_parts.proofs.Outs.{all_next, else_no, else_yes, linked_no, linked_yes}
use Rattle.task_parts.proofs.gather.is_linked_else.Goals as goal

pub loop-other-init : goal.loop-other-init
loop-other-init g c = λ j pad less at ne. absurd (omega (arith, less))

pub returns-then-leads_on_else : goal.returns-then-leads_on_else
returns-then-leads_on_else g c =
    let w = else_yes c.loop-other.other c.args.port (leads_on (rest_of c.index-pads-other.result).behind) (sym c.leads_on_else.ensures ∙ c.if-leads_on_else.true) in
    sym (linked_yes c.args.pads.now c.args.port c.loop-other.other c.index-pads-other.result (some_at c.args.pads.now c.loop-other.other c.index-pads-other.result c.loop-other-test.true c.index-pads-other.is) w.0 w.1)

pub loop-other-preserved : goal.loop-other-preserved
loop-other-preserved g c =
    all_next (λ (j : ℕ) (pad : Pad g.row.O.Denot). (j ≡ c.args.port → ⊥) → leads_on (rest_of pad).behind ≡ false) c.args.pads.now c.loop-other.other c.index-pads-other.result
    (some_at c.args.pads.now c.loop-other.other c.index-pads-other.result c.loop-other-test.true c.index-pads-other.is)
    (else_no c.loop-other.other c.args.port (leads_on (rest_of c.index-pads-other.result).behind) (sym c.leads_on_else.ensures ∙ c.if-leads_on_else.false)) c.loop-other.invariant

pub returns : goal.returns
returns g c = sym (linked_no c.args.pads.now c.args.port (λ j pad ne at. c.loop-other.invariant j pad (let low = slice_get_within c.args.pads.now j pad at in omega (arith, low, c.loop-other-test.false)) at ne))
