use Rattle.std.proofs.Common.{arith, refl}
use Rattle.task_pads.proofs.Lists.{some_at}
use Rattle.task_edits.proofs.Earlier.{before_all, before_next}
use Rattle.net_edits.specs.Adding.{IsOnly}
use Rattle.net_task.specs.Frame.{frame_of}
use Rattle.net_turns.specs.Net.{HasElement}
use Rattle.edit_acts.proofs.removing.is_free.Goals as goal

pub returns-then-is_sent_to : goal.returns-then-is_sent_to
returns-then-is_sent_to g c = (
  λ told. absurd cc,
  λ free. let z = c.is_sent_to.ensures.sends c.if-is_sent_to.true in absurd (free.unsent z.0 z.1),
)

pub loop-place-init : goal.loop-place-init
loop-place-init g c = λ j task less at. absurd (omega (arith, less))

pub returns-then-is_shared : goal.returns-then-is_shared
returns-then-is_shared g c = (
  λ told. absurd cc,
  λ free.
      let s = c.is_shared.ensures.shared c.if-is_shared.true in
      absurd
      (s.another
      (free.alone c.loop-place.place c.index-tasks-place.result (some_at c.args.tasks.now c.loop-place.place c.index-tasks-place.result c.loop-place-test.true c.index-tasks-place.is) s.has s.other s.with_it)),
)

pub loop-place-preserved : goal.loop-place-preserved
loop-place-preserved g c =
    before_next (λ task. HasElement (frame_of task) c.args.element → IsOnly (frame_of task) c.args.element) c.args.tasks.now c.loop-place.place c.index-tasks-place.result
    (some_at c.args.tasks.now c.loop-place.place c.index-tasks-place.result c.loop-place-test.true c.index-tasks-place.is) (c.is_shared.ensures.alone c.if-is_shared.false) c.loop-place.invariant

pub returns : goal.returns
returns g c = (
  λ told. record {
    alone = before_all (λ task. HasElement (frame_of task) c.args.element → IsOnly (frame_of task) c.args.element) c.args.tasks.now c.loop-place.place (omega (arith, c.loop-place-test.false)) c.loop-place.invariant;
    unsent = λ k s. c.is_sent_to.ensures.none c.if-is_sent_to.false k s;
  },
  λ free. refl,
)
