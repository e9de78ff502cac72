use Rattle.std.proofs.Common.{◌∙◌, sym}
use Rattle.std.specs.Prelude.{slice_get}
use Rattle.graph_core.specs.Graph.{made, links}
use Rattle.el_settings.specs.Asked.{is_source}
use Rattle.graph_parts.proofs.BagHeads.{has_by, is_bag}
use Rattle.graph_parts.proofs.bags.bag_from.Goals as goal

pub returns : goal.returns
returns c = λ sound once is.
    is_bag (made c.args.graph.now) (links c.args.graph.now) c.args.head c.bag_with.result c.in_ok-elements.elements.items (c.in_ok-elements.ensures sound once is) c.is_source.result is
    (has_by is_source (slice_get (made c.args.graph.now) c.args.head) c.settings.result.now c.settings.ensures ∙ sym c.is_source.ensures) c.bag_with.ensures.all c.bag_with.ensures.source c.bag_with.ensures.inlets
