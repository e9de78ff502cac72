use Rattle.std.proofs.Common.{arith, length, sym, subst, ◌∙◌}
use Rattle.std.proofs.lemmas.Option.{slice_get_within}
use Rattle.gst_value.proofs.Basics.{some_same}
use Rattle.task_pads.proofs.Lists.{some_at}
use Rattle.net_task.specs.declared.task.Task.{Task}
use Rattle.net_task.specs.Frame.{frame_of}
use Rattle.net_turns.specs.Net.{HasElement, Owns}
use Rattle.net_groups.proofs.Lists.{loop_done, loop_next}
use Rattle.edit_acts.proofs.removing.place_of.Goals as goal

pub loop-place-init : goal.loop-place-init
loop-place-init g c = λ j less own. absurd (omega (arith, less))

pub returns-then-is_of_task-clause-there : goal.returns-then-is_of_task-clause-there
returns-then-is_of_task-clause-there g c = record {
  task = c.index-tasks-place.result;
  at = some_at c.args.tasks.now c.loop-place.place c.index-tasks-place.result c.loop-place-test.true c.index-tasks-place.is;
  has = c.is_of_task.ensures.there c.if-is_of_task.true;
}

pub loop-place-preserved : goal.loop-place-preserved
loop-place-preserved g c =
    loop_next (λ j. Owns c.args.tasks.now j c.args.element) c.loop-place.place
    (λ own. c.is_of_task.ensures.none c.if-is_of_task.false
    (subst (λ (t : Task _ _ _ _ _ _ _ _ _). HasElement (frame_of t) c.args.element)
    (some_same (sym own.at ∙ some_at c.args.tasks.now c.loop-place.place c.index-tasks-place.result c.loop-place-test.true c.index-tasks-place.is)) own.has))
    c.loop-place.invariant

pub returns-clause-none : goal.returns-clause-none
returns-clause-none g c = λ none.
    loop_done (λ j. Owns c.args.tasks.now j c.args.element) (length c.args.tasks.now) c.loop-place.place (omega (arith, c.loop-place-test.false)) (λ j own. slice_get_within c.args.tasks.now j _ own.at) c.loop-place.invariant
