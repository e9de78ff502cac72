use Rattle.graph_tasks.proofs.Begun.{closed_as}
use Rattle.graph_tasks.proofs.making.task_from.Goals as goal

pub new-requires-clause-closed : goal.new-requires-clause-closed
new-requires-clause-closed g c κs within =
    closed_as c.args.elements.now.items c.args.sources.now.items c.args.slot.wired c.head_from-head.result c.parts_from-parts.result.items c.head_from-head.ensures.head c.parts_from-parts.ensures.parts c.requires.there.closed
