use Rattle.graph_core.specs.Elements.{all_made}
use Rattle.graph_parts.proofs.Giving.{element_gives, element_length}
use Rattle.graph_parts.proofs.back.give_element.Goals as goal

pub returns-clause-ends : goal.returns-clause-ends
returns-clause-ends g c = element_gives (all_made c.args.elements.now) c.args.number c.args.element c.end_of.result c.args.ends.now.items c.put_some-2.new.list.items c.end_of.ensures c.put_some-2.ensures

pub returns-clause-lengths : goal.returns-clause-lengths
returns-clause-lengths g c = element_length c.args.number c.args.element c.len.result c.args.lengths.now.items c.put_some.new.list.items c.len.ensures c.put_some.ensures
