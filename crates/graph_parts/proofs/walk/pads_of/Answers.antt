use Rattle.std.proofs.Common.{◌∙◌, ap}
use Rattle.graph_core.specs.Graph.{made, links}
use Rattle.graph_parts.specs.Links.{link_to}
use Rattle.graph_parts.proofs.Trees.{pads_more}
use Rattle.graph_parts.proofs.walk.pads_of.Goals as goal

pub loop-pad-preserved : goal.loop-pad-preserved
loop-pad-preserved c =
    pads_more (made c.args.graph.now) (links c.args.graph.now) c.args.element c.loop-pad.pad c.loop-pad.pads.items c.push.new.self.items c.link_to-leads.result c.loop-pad.invariant
    (c.link_to-leads.ensures ∙ ap (link_to (made c.args.graph.now)) c.sink_behind.ensures.pad) c.in_ok-push.ensures.items
