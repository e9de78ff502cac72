use Rattle.std.proofs.Common.{◌≡◌, ◌⊎◌, [], length, reverse}
use Rattle.graph_core.specs.Graph.{made, links}
use Rattle.graph_parts.proofs.Reaching.{HasCome}
use Rattle.graph_parts.proofs.walk.reached.Given as goal

abbrev pub invariant-loop : goal.invariant-loop
invariant-loop l = record {
  come : HasCome (made l.graph) (links l.graph) l.head l.next.items (reverse l.found.items);
  counted : (l.next.items ≡ []) ⊎ (length l.found.items ≡ l.counter);
}
