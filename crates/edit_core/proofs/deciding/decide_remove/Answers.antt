use Rattle.std.proofs.Common.{sym, ◌∙◌, subst}
use Rattle.script_text.specs.declared.answer.Reason.TheVariants.{WasLinked}
use Rattle.script_text.specs.declared.command.Act.TheVariants.{Remove}
use Rattle.graph_edits.specs.Lawful.{IsRefusedFor, command}
use Rattle.graph_edits.specs.Names.{source_when}
use Rattle.edit_core.specs.Deciding.{IsDeed, IsRuledAnyhow}
use Rattle.edit_core.specs.declared.deciding.Ruling.{Ruling}
use Rattle.edit_core.proofs.Decided.{refuse}
use Rattle.edit_core.proofs.deciding.decide_remove.Goals as goal

pub returns-then-has_link : goal.returns-then-has_link
returns-then-has_link c = λ e m when edited at.
    subst (λ (r : Ruling). IsRuledAnyhow e m (command when (Remove c.args.name.now)) r) (sym c.refused.ensures)
    (refuse e m when (Remove c.args.name.now) c.args.items c.args.places WasLinked at
    (IsRefusedFor.linked (source_when e when) c.args.name.now c.in-Some.element (sym (c.find.ensures.found e edited) ∙ c.in-Some.is) (sym (c.has_link.ensures e edited) ∙ c.if-has_link.true))
    (λ sink from to act named there. cc))

pub returns : goal.returns
returns c = λ e m when edited at. record {
  reached = at;
  deed_is = IsDeed.removes c.args.name.now c.in-Some.element (sym (c.find.ensures.found e edited) ∙ c.in-Some.is) (sym (c.has_link.ensures e edited) ∙ c.if-has_link.false);
}
