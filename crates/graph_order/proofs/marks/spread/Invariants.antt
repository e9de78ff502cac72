use Rattle.std.proofs.Common.{◌≡◌, ◌<◌, ℕ, true, false, take, vec_len}
use Rattle.graph_order.specs.Marks.{is_marked, unmarked, AllReached, IsClosed}
use Rattle.graph_order.proofs.marks.spread.Given as goal

abbrev pub invariant-loop-link : goal.invariant-loop-link
invariant-loop-link l = record {
  size : vec_len l.marks ≡ vec_len l.initial.marks;
  reached : (a : ℕ) → AllReached l.links a l.initial.marks.items → AllReached l.links a l.marks.items;
  stay : (e : ℕ) → is_marked l.initial.marks.items e ≡ true → is_marked l.marks.items e ≡ true;
  same : l.is_new ≡ false → l.marks.items ≡ l.initial.marks.items;
  closed : l.is_new ≡ false → IsClosed (take l.link-index l.links) l.marks.items;
  fewer : l.is_new ≡ true → unmarked l.marks.items < unmarked l.initial.marks.items;
}
