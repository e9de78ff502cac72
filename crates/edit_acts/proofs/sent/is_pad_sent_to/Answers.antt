use Rattle.std.proofs.Common.{arith, length, subst, sym, ◌∙◌}
use Rattle.std.proofs.lemmas.Option.{slice_get_within}
use Rattle.gst_value.proofs.Basics.{some_same}
use Rattle.task_pads.proofs.Lists.{some_at}
use Rattle.net_task.specs.declared.task.Task.{Task}
use Rattle.net_task.specs.Frame.{frame_of}
use Rattle.net_groups.proofs.Lists.{loop_done, loop_next}
use Rattle.edit_acts.specs.Sent.{SendsAt, TaskSends}
use Rattle.edit_acts.proofs.sent.is_pad_sent_to.Goals as goal

pub loop-place-init : goal.loop-place-init
loop-place-init g c = λ j less p. absurd (omega (arith, less))

pub returns-then-sends-clause-sends : goal.returns-then-sends-clause-sends
returns-then-sends-clause-sends g c = λ is.
    let z = c.sends.ensures.sends c.if-sends.true in (
      c.loop-place.place,
      (z.0, z.1, z.2, record { task = c.index-tasks-place.result; at = some_at c.args.tasks.now c.loop-place.place c.index-tasks-place.result c.loop-place-test.true c.index-tasks-place.is; out = z.3 }),
    )

pub loop-place-preserved : goal.loop-place-preserved
loop-place-preserved g c =
    loop_next (λ j. SendsAt c.args.tasks.now j c.args.element c.args.pad) c.loop-place.place
    (λ p. c.sends.ensures.none c.if-sends.false
    (subst (λ (t : Task _ _ _ _ _ _ _ _ _). TaskSends (frame_of t) c.args.element c.args.pad)
    (some_same (sym p.3.at ∙ some_at c.args.tasks.now c.loop-place.place c.index-tasks-place.result c.loop-place-test.true c.index-tasks-place.is)) (p.0, p.1, p.2, p.3.out)))
    c.loop-place.invariant

pub returns-clause-none : goal.returns-clause-none
returns-clause-none g c = λ none k p place from sends.
    loop_done (λ j. SendsAt c.args.tasks.now j c.args.element c.args.pad) (length c.args.tasks.now) c.loop-place.place (omega (arith, c.loop-place-test.false)) (λ j p. slice_get_within c.args.tasks.now j _ p.3.at) c.loop-place.invariant
    k (p, place, from, sends)
