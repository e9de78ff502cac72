use Rattle.std.proofs.Common.{arith, refl}
use Rattle.task_pads.proofs.Lists.{some_at}
use Rattle.task_edits.specs.Inside.{NotInside}
use Rattle.task_edits.proofs.Earlier.{before_all, before_next}
use Rattle.edit_acts.proofs.undoing.leads_inside.Goals as goal

pub loop-place-init : goal.loop-place-init
loop-place-init g c = λ j task less at. absurd (omega (arith, less))

pub returns-in-Some-clause-leads : goal.returns-in-Some-clause-leads
returns-in-Some-clause-leads g c = (
  c.loop-place.place,
  record {
    task = c.index-tasks-place.result;
    at = some_at c.args.tasks.now c.loop-place.place c.index-tasks-place.result c.loop-place-test.true c.index-tasks-place.is;
    leads = c.in-Some.ensures.leads;
  },
)

pub loop-place-preserved : goal.loop-place-preserved
loop-place-preserved g c =
    before_next (λ task. NotInside task.head task.parts.items c.args.pad) c.args.tasks.now c.loop-place.place c.index-tasks-place.result
    (some_at c.args.tasks.now c.loop-place.place c.index-tasks-place.result c.loop-place-test.true c.index-tasks-place.is) (c.in_default.ensures.none refl) c.loop-place.invariant

pub returns-clause-none : goal.returns-clause-none
returns-clause-none g c = λ none. before_all (λ task. NotInside task.head task.parts.items c.args.pad) c.args.tasks.now c.loop-place.place (omega (arith, c.loop-place-test.false)) c.loop-place.invariant
