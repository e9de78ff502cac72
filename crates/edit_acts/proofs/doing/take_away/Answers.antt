use Rattle.std.proofs.Common.{◌∙◌, List, refl, subst, sym}
use Rattle.std.proofs.lemmas.Bool.{true≢false}
use Rattle.net_task.specs.declared.task.Task.{Task}
use Rattle.edit_acts.specs.Removed.{IsFree}
use Rattle.edit_acts.proofs.Deeds.{remove_done, to_remove}
use Rattle.edit_acts.proofs.Without.{free_to_go}
use Rattle.edit_acts.proofs.Files.{files_none, files_same}
use Rattle.edit_acts.proofs.doing.take_away.Goals as goal

pub returns-then-not-is_free-clause-done : goal.returns-then-not-is_free-clause-done
returns-then-not-is_free-clause-done g c = λ feeds graph m tells items w.
    let free =
    subst (λ (ts : List (Task _ _ _ _ _ _ _ _ _)). IsFree ts c.args.element) (sym c.as_slice.ensures.value)
    (free_to_go c.args.graph.now feeds c.args.tasks.now.items graph m tells c.args.element (to_remove c.args.graph.now feeds c.args.tasks.now.items graph m tells c.args.element items w)) in
    absurd (true≢false (sym (c.is_free.ensures.1 free) ∙ c.if-not-is_free.true))

pub returns-in-Some-clause-done : goal.returns-in-Some-clause-done
returns-in-Some-clause-done g c = λ feeds graph m tells items w. (
  tt,
  remove_done c.args.graph.now feeds c.args.tasks.now.items graph m tells c.args.element items w c.remove.new.graph c.remove.new.tasks.items c.remove.result
      (c.remove.ensures.run feeds graph m tells (to_remove c.args.graph.now feeds c.args.tasks.now.items graph m tells c.args.element items w)),
)

pub returns-in-None-clause-done : goal.returns-in-None-clause-done
returns-in-None-clause-done g c = λ feeds graph m tells items w. (
  tt,
  remove_done c.args.graph.now feeds c.args.tasks.now.items graph m tells c.args.element items w c.remove.new.graph c.remove.new.tasks.items c.remove.result
      (c.remove.ensures.run feeds graph m tells (to_remove c.args.graph.now feeds c.args.tasks.now.items graph m tells c.args.element items w)),
)

pub returns-in-Some-clause-ready : goal.returns-in-Some-clause-ready
returns-in-Some-clause-ready g c = λ tells ready.
    c.remove.ensures.ready tells ready (subst (λ (ts : List (Task _ _ _ _ _ _ _ _ _)). IsFree ts c.args.element) c.as_slice.ensures.value (c.is_free.ensures.0 c.if-not-is_free.false))

pub returns-in-None-clause-ready : goal.returns-in-None-clause-ready
returns-in-None-clause-ready g c = λ tells ready.
    c.remove.ensures.ready tells ready (subst (λ (ts : List (Task _ _ _ _ _ _ _ _ _)). IsFree ts c.args.element) c.as_slice.ensures.value (c.is_free.ensures.0 c.if-not-is_free.false))

pub returns-then-not-is_free-clause-files : goal.returns-then-not-is_free-clause-files
returns-then-not-is_free-clause-files g c = files_none c.args.tasks.now.items c.args.tasks.now.items (files_same c.args.tasks.now.items c.args.tasks.now.items refl)

pub returns-in-Some-clause-files : goal.returns-in-Some-clause-files
returns-in-Some-clause-files g c = rw c.in-Some.is at c.remove.ensures.files

pub returns-in-None-clause-files : goal.returns-in-None-clause-files
returns-in-None-clause-files g c = rw c.in-None.is at c.remove.ensures.files

pub returns-then-not-is_free-clause-stays : goal.returns-then-not-is_free-clause-stays
returns-then-not-is_free-clause-stays g c = λ feeds. (refl, refl, refl)

pub returns-in-Some-clause-stays : goal.returns-in-Some-clause-stays
returns-in-Some-clause-stays g c = λ feeds. tt

pub returns-in-None-clause-stays : goal.returns-in-None-clause-stays
returns-in-None-clause-stays g c = λ feeds. tt
