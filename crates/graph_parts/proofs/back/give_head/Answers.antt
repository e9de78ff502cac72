use Rattle.graph_core.specs.Elements.{all_made}
use Rattle.graph_parts.proofs.Giving.{head_gives, inlets_give}
use Rattle.graph_parts.proofs.back.give_head.Goals as goal

pub returns-in-Source : goal.returns-in-Source
returns-in-Source g c =
    head_gives (all_made c.args.elements.now) c.args.head c.in-Source.head c.number-number.result c.into_source.result c.source_end_of-end.result c.args.ends.now.items c.put_some.new.list.items
    c.in-Source.is c.number-number.ensures c.into_source.ensures c.source_end_of-end.ensures c.put_some.ensures

pub returns : goal.returns
returns g c = inlets_give (all_made c.args.elements.now) c.args.head c.args.ends.now.items c.in_default.not-Source
