use Rattle.std.proofs.Common.{◌≡◌, []}
use Rattle.graph_order.specs.Forward.{IsForward, count_of, links_of}
use Rattle.graph_core.proofs.links.unlinked.Given as goal

abbrev pub invariant-loop : goal.invariant-loop
invariant-loop l = record {
  count : count_of l.order ≡ l.counter;
  links : links_of l.order ≡ [];
  forward : IsForward l.order;
}
