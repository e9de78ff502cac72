use Rattle.std.proofs.Common.{ap}
use Rattle.net_edits.proofs.Rowed.{task_exchanged}
use Rattle.net_edits.proofs.over.exchange.Goals as goal

pub returns : goal.returns
returns g c =
    task_exchanged c.args.task c.new.result c.into_parts-head.result.0 c.exchange_of_head-head.result.0 c.into_parts-head.result.1.items c.args.port c.args.row c.exchange_of_head-head.result.1 c.into_parts-head.ensures.head c.new.ensures.head (ap (λ (v : _). v.items) c.into_parts-head.ensures.parts)
    (ap (λ (v : _). v.items) c.new.ensures.parts) c.exchange_of_head-head.ensures
