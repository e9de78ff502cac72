use Rattle.graph_core.specs.Elements.{all_made}
use Rattle.graph_core.proofs.Marking.{are_live}
use Rattle.graph_core.proofs.live.live_elements.Goals as goal

pub returns : goal.returns
returns c = are_live (all_made c.args.elements.now) c.args.links.now c.in_ok-live.live.items c.spread_marks.new.marks.items c.in_ok-live.ensures c.requires.to c.spread_marks.ensures
