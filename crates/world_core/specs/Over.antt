-- Whether the run of a graph is over, by what crossed its source pads and by what was taken of that.
use Rattle.std.specs.Prelude.{◌≡◌, ◌<◌, ℕ, true, List, slice_get}
use Rattle.flow_model.specs.Item.{Item, eos_among}
use Rattle.graph_parts.specs.Links.{is_head}
use Rattle.graph_core.specs.Graph.{is_live, made as made_in, links as links_in}
use Rattle.graph_core.specs.GraphPlan.{sink_count, sink_at as place_at}
use Rattle.graph_core.specs.declared.graph.Graph.{Graph}
use Rattle.graph_tasks.specs.Owed.{AreOver, came_to}
use Rattle.graph_tasks.specs.Stalled.{NothingWaits}
use Rattle.graph_core.specs.Elements.{has}

-- EOS came to each live sink; in no task anything waits, and all that came to its head was taken; and a live head, where it is no
-- source, took EOS at each of its sink pads.
pub record IsOver (contents : ℕ → List ℕ) (graph : Graph) (h took : ℕ → List Item) : Type 0 where
  pub sinks : AreOver graph h
  pub idle : (head : ℕ) → has is_head (made_in graph) head ≡ true → NothingWaits contents (made_in graph) (links_in graph) h took head
  pub empty : (head pad : ℕ) → has is_head (made_in graph) head ≡ true
      → came_to (links_in graph) took (place_at head pad) ≡ came_to (links_in graph) h (place_at head pad)
  pub ended : (head pad : ℕ) → has is_head (made_in graph) head ≡ true → is_live graph head ≡ true → pad < sink_count (slice_get (made_in graph) head)
      → eos_among (came_to (links_in graph) took (place_at head pad)) ≡ true
