use Rattle.graph_core.specs.Elements.{all_made}
use Rattle.world_core.proofs.StallTasks.{told_all, told_next, told_none}
use Rattle.world_core.proofs.stall.stalled_tasks.Goals as goal

pub loop-place-init : goal.loop-place-init
loop-place-init g c = told_none (all_made c.args.elements.now) c.args.tasks.now c.args.steps.now c.new-stalled.result c.new-stalled.ensures

pub loop-place-preserved : goal.loop-place-preserved
loop-place-preserved g c =
    told_next (all_made c.args.elements.now) c.args.tasks.now c.args.steps.now c.loop-place.place c.index-tasks-place.result _ c.in_ok-told.told
    c.loop-place.stalled c.push.new.self c.loop-place-test.true c.requires c.index-tasks-place.is c.in_ok-told.ensures c.in_ok-push.ensures.ok
    c.loop-place.invariant

pub returns : goal.returns
returns g c =
    told_all (all_made c.args.elements.now) c.args.tasks.now c.args.steps.now c.loop-place.place c.loop-place.stalled c.loop-place-test.false c.loop-place.auto.place-end
    c.loop-place.invariant
