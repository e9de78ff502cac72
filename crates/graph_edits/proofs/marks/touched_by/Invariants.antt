use Rattle.std.proofs.Common.{◌≡◌, ℕ, take, vec_len}
use Rattle.std.specs.List.{list_any}
use Rattle.graph_order.specs.Marks.{is_marked}
use Rattle.graph_edits.specs.Edited.{touches}
use Rattle.graph_edits.proofs.marks.touched_by.Given as goal

-- the elements that the links so far touch are marked
abbrev pub invariant-loop-link : goal.invariant-loop-link
invariant-loop-link l = record {
  size : vec_len l.marks ≡ l.count;
  touched : (e : ℕ) → is_marked l.marks.items e ≡ list_any (touches e) (take l.link-index l.links);
}
