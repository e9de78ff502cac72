use Rattle.std.proofs.Common.{◌≡◌, true, vec_len}
use Rattle.graph_order.specs.Marks.{is_marked, unmarked, AllReached}
use Rattle.graph_order.proofs.marks.reached.Given as goal

abbrev pub invariant-loop : goal.invariant-loop
invariant-loop l = record {
  size : vec_len l.marks ≡ l.count;
  reached : AllReached l.links l.from l.marks.items;
  start : is_marked l.marks.items l.from ≡ true;
}

abbrev pub decreases-loop : goal.decreases-loop
decreases-loop l = unmarked l.marks.items
