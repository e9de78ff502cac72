use Rattle.std.proofs.Common.{◌≡◌, ℕ, List, Some, subst}
use Rattle.std.specs.Prelude.{slice_get}
use Rattle.task_parts.specs.declared.head.Head.{Head}
use Rattle.task_parts.specs.declared.part.Part.{Part}
use Rattle.edit_acts.specs.Removed.{HasOther, IsSourceOf}
use Rattle.edit_acts.proofs.Members.{only_one, part_there, source_has}
use Rattle.edit_acts.proofs.removing.is_shared.Goals as goal

pub returns-then-not-is_of_task-clause-alone : goal.returns-then-not-is_of_task-clause-alone
returns-then-not-is_of_task-clause-alone g c = λ told has. absurd (c.is_of_task.ensures.none c.if-not-is_of_task.true has)

pub returns-then-has_other_source-clause-shared : goal.returns-then-has_other_source-clause-shared
returns-then-has_other_source-clause-shared g c = λ told.
    let z = c.has_other_source.ensures.other c.if-has_other_source.true in
    record {
      has = c.is_of_task.ensures.there c.if-not-is_of_task.false;
      other = z.0;
      with_it = source_has g.O.Outlet c.args.task.now.head c.args.task.now.parts.items z.0 (subst (λ (h : Head _ _ _ _). IsSourceOf h z.0) c.head.ensures z.1);
      another = z.2;
    }

pub returns-clause-shared : goal.returns-clause-shared
returns-clause-shared g c = λ told.
    let z = subst (λ (parts : List (Part _ _ _)). HasOther parts c.args.element) c.parts.ensures (c.has_other.ensures.other told) in
    record {
      has = c.is_of_task.ensures.there c.if-not-is_of_task.false;
      other = z.part.number;
      with_it = part_there g.O.Outlet c.args.task.now.head c.args.task.now.parts.items z.place z.part z.at;
      another = z.other;
    }

pub returns-clause-alone : goal.returns-clause-alone
returns-clause-alone g c = λ told has.
    only_one g.O.Outlet c.args.task.now.head c.args.task.now.parts.items c.args.element
    (subst (λ (h : Head _ _ _ _). (k : ℕ) → IsSourceOf h k → k ≡ c.args.element) c.head.ensures (c.has_other_source.ensures.none c.if-has_other_source.false))
    (subst (λ (parts : List (Part _ _ _)). (j : ℕ) (part : Part _ _ _) → slice_get parts j ≡ Some part → part.number ≡ c.args.element) c.parts.ensures (c.has_other.ensures.none told))
