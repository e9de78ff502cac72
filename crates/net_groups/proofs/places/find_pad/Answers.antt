use Rattle.std.proofs.Common.{arith, length, sym, subst, ◌∙◌}
use Rattle.std.proofs.lemmas.Option.{slice_get_within}
use Rattle.gst_value.proofs.Basics.{some_same}
use Rattle.task_pads.proofs.Lists.{some_at}
use Rattle.net_task.specs.declared.task.Task.{Task}
use Rattle.net_task.specs.Frame.{frame_of}
use Rattle.net_groups.specs.Places.{HasPad, PadOf}
use Rattle.net_groups.proofs.Lists.{loop_done, loop_next}
use Rattle.net_groups.proofs.places.find_pad.Goals as goal

pub loop-place-init : goal.loop-place-init
loop-place-init g c = λ j less p. absurd (omega (arith, less))

pub returns-then-has_pad-clause-there : goal.returns-then-has_pad-clause-there
returns-then-has_pad-clause-there g c = record { task = c.index-tasks-place.result; at = some_at c.args.tasks.now c.loop-place.place c.index-tasks-place.result c.loop-place-test.true c.index-tasks-place.is; has = c.has_pad.ensures.there c.if-has_pad.true }

pub loop-place-preserved : goal.loop-place-preserved
loop-place-preserved g c = loop_next (λ j. PadOf c.args.tasks.now j c.args.pad) c.loop-place.place (λ p. let has = subst (λ (t : Task _ _ _ _ _ _ _ _ _). HasPad (frame_of t) c.args.pad) (some_same (sym p.at ∙ some_at c.args.tasks.now c.loop-place.place c.index-tasks-place.result c.loop-place-test.true c.index-tasks-place.is)) p.has in c.has_pad.ensures.none c.if-has_pad.false has.wire has.is has.number_is) c.loop-place.invariant

pub returns-clause-none : goal.returns-clause-none
returns-clause-none g c = λ none. loop_done (λ j. PadOf c.args.tasks.now j c.args.pad) (length c.args.tasks.now) c.loop-place.place (omega (arith, c.loop-place-test.false)) (λ j p. slice_get_within c.args.tasks.now j _ p.at) c.loop-place.invariant
