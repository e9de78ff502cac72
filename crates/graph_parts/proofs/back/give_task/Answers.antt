use Rattle.std.proofs.Common.{ap}
use Rattle.graph_core.specs.Elements.{all_made}
use Rattle.graph_parts.proofs.Giving.{task_gives, task_lengths}
use Rattle.graph_parts.proofs.back.give_task.Goals as goal

pub returns-clause-ends : goal.returns-clause-ends
returns-clause-ends g c =
    task_gives (all_made c.args.elements.now) c.args.task c.into_parts-head.result.0 c.into_parts-head.result.1.items c.args.ends.now.items c.give_head.new.ends.items c.give_parts.new.ends.items
    c.into_parts-head.ensures.head (ap (λ parts. parts.items) c.into_parts-head.ensures.parts) c.give_head.ensures c.give_parts.ensures.ends

pub returns-clause-lengths : goal.returns-clause-lengths
returns-clause-lengths g c =
    task_lengths c.args.task c.into_parts-head.result.1.items c.args.lengths.now.items c.give_parts.new.lengths.items (ap (λ parts. parts.items) c.into_parts-head.ensures.parts) c.give_parts.ensures.lengths
