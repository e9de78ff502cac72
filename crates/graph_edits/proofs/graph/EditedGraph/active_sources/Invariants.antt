use Rattle.std.proofs.Common.{◌≡◌, ◌<◌, ℕ, vec_len}
use Rattle.graph_order.specs.Marks.{is_marked}
use Rattle.graph_edits.specs.Edited.{Edited}
use Rattle.graph_edits.specs.Graph.{IsEdited}
use Rattle.graph_edits.specs.Live.{is_active_source}
use Rattle.graph_edits.proofs.graph.EditedGraph.active_sources.Given as goal

abbrev pub invariant-loop-element : goal.invariant-loop-element
invariant-loop-element l = record {
  size : vec_len l.marks ≡ l.element;
  marked : (g : Edited) → IsEdited l.self g → (e : ℕ) → e < l.element → is_marked l.marks.items e ≡ is_active_source g e;
}
