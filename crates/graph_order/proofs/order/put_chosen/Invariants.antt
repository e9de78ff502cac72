use Rattle.std.proofs.Common.{◌≡◌, ◌++◌, take, filter}
use Rattle.graph_order.specs.Marks.{is_chosen}
use Rattle.graph_order.proofs.order.put_chosen.Given as goal

abbrev pub invariant-loop-element : goal.invariant-loop-element
invariant-loop-element l = l.into.items ≡ l.initial.into.items ++ filter (is_chosen l.marks l.wanted) (take l.element-index l.elements)
