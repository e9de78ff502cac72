use Rattle.std.proofs.Common.{drop}
use Rattle.graph_order.specs.Forward.{links_of}
use Rattle.graph_order.specs.Links.{IsLink}
use Rattle.graph_order.proofs.order.Order.has_link.Given as goal

abbrev pub invariant-loop-place : goal.invariant-loop-place
invariant-loop-place l = IsLink l.from l.to (links_of l.self) → IsLink l.from l.to (drop l.place (links_of l.self))
