use Rattle.std.proofs.Common.{List, refl, subst}
use Rattle.net_task.specs.declared.task.Task.{Task}
use Rattle.net_edits.specs.Nets.{NoneHas, TaskHas}
use Rattle.net_edits.proofs.Acts.{left_set, unlinked_none, unlinked_stands, unlinked_ready, size_set}
use Rattle.net_edits.proofs.net.unlink.Goals as goal

pub returns-in-Some-clause-stands : goal.returns-in-Some-clause-stands
returns-in-Some-clause-stands g c = λ m tells stands.
    unlinked_stands c.args.tasks.now.items c.unlink_at.new.tasks.items c.in-Some.place c.args.pad c.unlink_at.result
    (subst (λ (ts : List (Task _ _ _ _ _ _ _ _ _)). TaskHas ts c.args.pad c.in-Some.place) c.as_slice.ensures.value c.in-Some.ensures.there) c.unlink_at.ensures.undone m tells stands

pub returns-in-Some-clause-ready : goal.returns-in-Some-clause-ready
returns-in-Some-clause-ready g c = λ tells ready. unlinked_ready c.args.tasks.now.items c.unlink_at.new.tasks.items c.in-Some.place c.args.pad c.unlink_at.result c.unlink_at.ensures.undone tells ready

pub returns-in-Some-clause-moves : goal.returns-in-Some-clause-moves
returns-in-Some-clause-moves g c = left_set c.args.tasks.now.items c.unlink_at.new.tasks.items c.in-Some.place c.args.pad _ _ c.unlink_at.ensures.undone.at c.unlink_at.ensures.undone.set c.unlink_at.ensures.undone.moves

pub returns-in-Some-clause-count : goal.returns-in-Some-clause-count
returns-in-Some-clause-count g c = size_set c.args.tasks.now.items c.unlink_at.new.tasks.items c.in-Some.place c.args.pad _ c.unlink_at.ensures.undone.set

pub returns-in-None-clause-stands : goal.returns-in-None-clause-stands
returns-in-None-clause-stands g c = λ m tells stands. unlinked_none c.args.tasks.now.items c.args.pad (subst (λ (ts : List (Task _ _ _ _ _ _ _ _ _)). NoneHas ts c.args.pad) c.as_slice.ensures.value (c.in-None.ensures.none refl)) m tells stands

pub returns-in-Some-clause-undone : goal.returns-in-Some-clause-undone
returns-in-Some-clause-undone g c = (c.in-Some.place, subst (λ (ts : List (Task _ _ _ _ _ _ _ _ _)). TaskHas ts c.args.pad c.in-Some.place) c.as_slice.ensures.value c.in-Some.ensures.there, c.unlink_at.ensures.undone)

pub returns-in-None-clause-none : goal.returns-in-None-clause-none
returns-in-None-clause-none g c = λ none. (subst (λ (ts : List (Task _ _ _ _ _ _ _ _ _)). NoneHas ts c.args.pad) c.as_slice.ensures.value (c.in-None.ensures.none refl), refl)
