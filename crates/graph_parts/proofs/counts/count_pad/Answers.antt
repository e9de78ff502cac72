use Rattle.graph_parts.proofs.Counting.{pad_counted}
use Rattle.graph_parts.proofs.counts.count_pad.Goals as goal

pub returns : goal.returns
returns g c = pad_counted c.args.pad.now c.number.result c.count_of.result c.args.counts.now.items c.put_some.new.list.items c.number.ensures c.count_of.ensures c.put_some.ensures
