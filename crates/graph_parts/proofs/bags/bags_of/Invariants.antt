use Rattle.std.proofs.Common.{◌≡◌, All, filter, map}
use Rattle.std.specs.List.{range_with_len}
use Rattle.graph_core.specs.Graph.{IsSound, made, links}
use Rattle.graph_core.specs.LinkedOnce.{AreOnce}
use Rattle.graph_parts.specs.Links.{is_head}
use Rattle.graph_parts.specs.Bags.{IsBag, head_of}
use Rattle.graph_parts.proofs.bags.bags_of.Given as goal
use Rattle.graph_core.specs.Elements.{has}

abbrev pub invariant-loop-element : goal.invariant-loop-element
invariant-loop-element l = record {
  heads : IsSound l.graph → AreOnce (links l.graph) → map head_of l.bags.items ≡ filter (has is_head (made l.graph)) (range_with_len 0 l.element);
  are : IsSound l.graph → AreOnce (links l.graph) → All (IsBag (made l.graph) (links l.graph)) l.bags.items;
}
