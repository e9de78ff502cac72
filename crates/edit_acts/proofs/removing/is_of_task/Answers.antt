use Rattle.std.proofs.Common.{subst, sym, ◌∙◌}
use Rattle.task_parts.specs.declared.head.Head.{Head}
use Rattle.net_groups.proofs.Wiring.{number_part, part_has}
use Rattle.edit_acts.specs.Removed.{IsSourceOf}
use Rattle.edit_acts.proofs.Members.{has_it_not, source_has}
use Rattle.edit_acts.proofs.removing.is_of_task.Goals as goal

pub returns-then-is_source-clause-there : goal.returns-then-is_source-clause-there
returns-then-is_source-clause-there g c = λ is.
    source_has g.O.Outlet c.args.task.now.head c.args.task.now.parts.items c.args.element (subst (λ (h : Head _ _ _ _). IsSourceOf h c.args.element) c.head.ensures (c.is_source.ensures.is c.if-is_source.true))

pub returns-clause-there : goal.returns-clause-there
returns-clause-there g c = λ is.
    part_has g.O.Outlet c.args.task.now.head c.args.task.now.parts.items c.args.element (number_part c.args.task.now.parts.items c.args.element (sym c.has_element.ensures ∙ is))

pub returns-clause-none : goal.returns-clause-none
returns-clause-none g c = λ none.
    has_it_not g.O.Outlet c.args.task.now.head c.args.task.now.parts.items c.args.element
    (λ same. c.is_source.ensures.not c.if-is_source.false (subst (λ (h : Head _ _ _ _). IsSourceOf h c.args.element) (sym c.head.ensures) same))
    (sym c.has_element.ensures ∙ none)
