use Rattle.std.proofs.Common.{◌≡◌, ℕ, [], Some, sym, ◌∙◌, subst}
use Rattle.graph_pads.specs.declared.pad.PadPlace.{PadPlace}
use Rattle.std.specs.Prelude.{slice_get}
use Rattle.graph_core.specs.GraphPlan.{pad_id}
use Rattle.graph_core.proofs.Orders.{few_pads}
use Rattle.graph_edits.specs.Graph.{made}
use Rattle.graph_edits.specs.Names.{source_when}
use Rattle.net_edits.specs.Nets.{NoneHas}
use Rattle.net_edits.specs.Seeing.{SeesPad}
use Rattle.task_edits.specs.Seeing.{SeenAt}
use Rattle.edit_core.specs.Judging.{IsVerdict}
use Rattle.edit_core.specs.declared.judging.Verdict.{Verdict}
use Rattle.edit_core.proofs.Judged.{fresh_when, judged, judged_now}
use Rattle.edit_core.proofs.judging.judge.Goals as goal

pub returns-then-not-branch : goal.returns-then-not-branch
returns-then-not-branch g c = λ e m tells edited stands fresh. IsVerdict.missing c.args.command.now (sym (c.in_ok-has_all.ensures e edited) ∙ c.if-not-branch.true)

pub returns-in-Some-source_number : goal.returns-in-Some-source_number
returns-in-Some-source_number g c = λ e m tells edited stands fresh.
    let named : source_when e c.args.command.now.when ≡ Some c.in-Some.source = sym (c.in_ok-source.ensures.found e edited) ∙ c.in-Some.is in
    let number : c.in-Some-source_number.pad ≡ pad_id c.in-Some.source = c.in-Some-source_number.ensures.number in
    subst (λ (v : Verdict). IsVerdict e m c.args.tasks.now c.args.command.now v) (sym c.by_pad.ensures)
    (judged e m c.args.tasks.now c.args.command.now.when c.args.command.now.act c.in-Some.source c.see_pad.result (sym (c.in_ok-has_all.ensures e edited) ∙ c.if-not-branch.false) named
    (subst (λ (p : ℕ). SeesPad c.args.tasks.now p c.see_pad.result) number c.see_pad.ensures.sees)
    (subst (λ (p : ℕ). SeenAt m p c.see_pad.result) number (c.see_pad.ensures.at m tells stands
    (subst (λ (p : ℕ). NoneHas c.args.tasks.now p → m.history p ≡ []) (sym number)
    (fresh_when e c.args.command.now.when c.in-Some.source (λ (source : PadPlace). NoneHas c.args.tasks.now (pad_id source) → m.history (pad_id source) ≡ []) named fresh)))))

pub returns-in-None : goal.returns-in-None
returns-in-None g c = λ e m tells edited stands fresh.
    judged_now e m c.args.tasks.now c.args.command.now.when c.args.command.now.act (sym (c.in_ok-has_all.ensures e edited) ∙ c.if-not-branch.false) (sym (c.in_ok-source.ensures.found e edited) ∙ c.in-None.is)

pub unreachable-requires : goal.unreachable-requires
unreachable-requires g c =
    c.in_default.not-Some (pad_id c.in-Some.source)
    (c.source_number.ensures.there (rw c.in-Some.is at c.in_ok-source.ensures.made)
    (few_pads (slice_get (made c.args.graph.now) c.in-Some.source.element) c.in-Some.source.pad (rw c.in-Some.is at c.in_ok-source.ensures.there)))
