use Rattle.std.proofs.Common.{◌≡◌, ◌++◌, All, filter, map}
use Rattle.std.specs.List.{range_with_len}
use Rattle.graph_core.specs.Graph.{IsSound, made, links}
use Rattle.graph_core.specs.LinkedOnce.{AreOnce}
use Rattle.graph_parts.specs.Links.{is_loose}
use Rattle.graph_parts.specs.Bags.{IsBag, head_of, heads_in}
use Rattle.graph_parts.proofs.bags.all_bags_of.Given as goal

abbrev pub invariant-loop-element : goal.invariant-loop-element
invariant-loop-element l = record {
  heads : IsSound l.graph → AreOnce (links l.graph) → map head_of l.bags.items ≡ heads_in (made l.graph) ++ filter (is_loose (made l.graph) (links l.graph)) (range_with_len 0 l.element);
  are : IsSound l.graph → AreOnce (links l.graph) → All (IsBag (made l.graph) (links l.graph)) l.bags.items;
}
