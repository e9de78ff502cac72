use Rattle.graph_parts.proofs.Counting.{head_counted}
use Rattle.graph_parts.proofs.counts.count_head.Goals as goal

pub returns-in-Source : goal.returns-in-Source
returns-in-Source g c = head_counted c.args.head.now c.in-Source.head c.pad.result.now c.args.counts.now.items c.count_pad.new.counts.items c.in-Source.is c.pad.ensures c.count_pad.ensures
