-- Pads that are linked once.
use Rattle.std.specs.Prelude.{◌≡◌, ◌⊎◌, ℕ, List, Some, slice_get}
use Rattle.launch_text.specs.declared.tree.Tree.{Tree}
use Rattle.graph_core.specs.Graph.{IsGraph, links as links_in}
use Rattle.graph_pads.specs.Links.{sink_behind, source_before}
use Rattle.graph_core.specs.declared.graph.Graph.{Graph}
use Rattle.graph_pads.specs.declared.pad.PadLink.{PadLink}
use Rattle.graph_pads.specs.declared.pad.PadPlace.{PadPlace}

-- Each pad stands in one link at the most: two links with a pad in common are one. And what is found from a pad leads
-- back to it.
pub record AreOnce (links : List PadLink) : Type 0 where
  pub one : (j k : ℕ) (link other : PadLink) → slice_get links j ≡ Some link → slice_get links k ≡ Some other → (link.source ≡ other.source) ⊎ (link.sink ≡ other.sink) → j ≡ k
  pub there : (source sink : PadPlace) → sink_behind links source ≡ Some sink → source_before links sink ≡ Some source
  pub back : (source sink : PadPlace) → source_before links sink ≡ Some source → sink_behind links source ≡ Some sink

-- so it is with the pads of a graph that was built
abbrev pub PadsAreLinkedOnce : Type 0
PadsAreLinkedOnce = (tree : Tree) (graph : Graph) → IsGraph tree graph → AreOnce (links_in graph)
