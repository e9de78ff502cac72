-- For which edited graph the graph of a run stands.
use Rattle.std.specs.Prelude.{◌≡◌, ◌<◌, ◌==◌, ℕ, List, length}
use Rattle.std.specs.List.{list_any}
use Rattle.graph_edits.specs.Edited.{Edited, touches}
use Rattle.graph_core.specs.Elements.{Made, all_made}
use Rattle.graph_core.specs.Ends.{pads_at}
use Rattle.graph_core.specs.Links.{ways}
use Rattle.graph_edits.specs.declared.graph.EditedGraph.{EditedGraph}
use Rattle.graph_order.specs.Forward.{IsForward, count_of, links_of}
use Rattle.graph_order.specs.Links.{AreSameLinks}
use Rattle.graph_order.specs.Marks.{is_marked}
use Rattle.graph_pads.specs.declared.pad.Direction.{Direction}
use Rattle.graph_pads.specs.declared.pad.PadPlace.{PadPlace}

-- all elements that ever were
abbrev pub made : EditedGraph → List Made
made graph = all_made graph.elements

-- the pad is one that its element has
abbrev pub IsPad : EditedGraph → Direction → PadPlace → Type 0
IsPad graph direction place = place.pad < pads_at (made graph) direction place.element

-- The graph stands for an edited one. What sink pads were given it does not keep, and of the links that ever were made only between which elements they were.
pub record IsEdited (graph : EditedGraph) (g : Edited) : Type 0 where
  pub lined : graph.lined ≡ g.lined
  pub elements : made graph ≡ g.made
  pub removed : (e : ℕ) → is_marked graph.removed.items e ≡ list_any (λ gone. gone == e) g.removed
  pub links : graph.links.items ≡ g.links
  pub ever : AreSameLinks (links_of graph.order) (ways g.ever)
  pub count : count_of graph.order ≡ length g.made
  pub forward : IsForward graph.order
  pub touched : (e : ℕ) → is_marked graph.touched.items e ≡ list_any (touches e) g.ever
  pub ended : graph.ended.items ≡ g.ended
