use Rattle.std.proofs.Common.{arith, length, subst, sym, ◌∙◌}
use Rattle.std.proofs.lemmas.Option.{slice_get_within}
use Rattle.gst_value.proofs.Basics.{some_same}
use Rattle.task_pads.proofs.Lists.{some_at}
use Rattle.net_task.specs.declared.task.Task.{Task}
use Rattle.net_task.specs.Frame.{frame_of}
use Rattle.net_groups.specs.Lanes.{Sends, SendsAt}
use Rattle.net_groups.proofs.Lists.{loop_done, loop_next}
use Rattle.net_groups.proofs.lanes.is_sent_to.Goals as goal

pub loop-place-init : goal.loop-place-init
loop-place-init g c = λ j less p. absurd (omega (arith, less))

pub returns-then-sends-clause-sends : goal.returns-then-sends-clause-sends
returns-then-sends-clause-sends g c = λ is. (c.loop-place.place, record { task = c.index-tasks-place.result; at = some_at c.args.tasks.now c.loop-place.place c.index-tasks-place.result c.loop-place-test.true c.index-tasks-place.is; sends = c.sends.ensures.sends c.if-sends.true })

pub loop-place-preserved : goal.loop-place-preserved
loop-place-preserved g c = loop_next (λ j. SendsAt c.args.tasks.now j c.args.number) c.loop-place.place (λ p. c.sends.ensures.none c.if-sends.false (subst (λ (t : Task _ _ _ _ _ _ _ _ _). Sends (frame_of t) c.args.number) (some_same (sym p.at ∙ some_at c.args.tasks.now c.loop-place.place c.index-tasks-place.result c.loop-place-test.true c.index-tasks-place.is)) p.sends)) c.loop-place.invariant

pub returns-clause-none : goal.returns-clause-none
returns-clause-none g c = λ none. loop_done (λ j. SendsAt c.args.tasks.now j c.args.number) (length c.args.tasks.now) c.loop-place.place (omega (arith, c.loop-place-test.false)) (λ j p. slice_get_within c.args.tasks.now j _ p.at) c.loop-place.invariant
