use Rattle.std.proofs.Common.{◌≡◌, map}
use Rattle.std.specs.List.{range_with_len}
use Rattle.graph_core.specs.Graph.{made, links}
use Rattle.graph_parts.specs.Links.{pad_at}
use Rattle.graph_parts.proofs.walk.pads_of.Given as goal

abbrev pub invariant-loop-pad : goal.invariant-loop-pad
invariant-loop-pad l = l.pads.items ≡ map (pad_at (made l.graph) (links l.graph) l.element) (range_with_len 0 l.pad)
