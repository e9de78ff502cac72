-- What a run of a graph takes the memory for before a file is open.
use Rattle.std.specs.Prelude.{◌≡◌, ◌<◌, ◌*◌, ℕ, List, Option, Some, length, map, slice_get}
use Rattle.lane_core.specs.declared.ends.Inlet as inlets
use Rattle.lane_core.specs.declared.ends.Outlet as outlets
use Rattle.graph_core.specs.Graph.{made as made_in, links as links_in}
use Rattle.graph_core.specs.GraphPlan.{most_pads}
use Rattle.graph_core.specs.declared.graph.Graph.{Graph}
use Rattle.graph_parts.specs.Blanks.{AreBlanks}
use Rattle.graph_parts.specs.Files.{made_opening}
use Rattle.graph_parts.specs.declared.counts.Count.{Count}
use Rattle.lane_core.specs.Lane.{Lane}
use Rattle.run_files.specs.declared.end.Opening.{Opening}
use Rattle.graph_parts.specs.Bags.{AreHeadBags}
use Rattle.graph_parts.specs.declared.bag.Bag.{Bag}
use Rattle.graph_parts.specs.declared.blank.Blank.{Blank}
use Rattle.graph_tasks.specs.Wired.{AreWired}
use Rattle.graph_tasks.specs.declared.wired_task.WiredTask.{WiredTask}

-- so many numbers, all of them 0
abbrev pub NothingYet : ℕ → List ℕ → Type 0
NothingYet n numbers = (d : ℕ) → d < n → slice_get numbers d ≡ Some 0

abbrev pub AreUncounted : ℕ → List Count → Type 0
AreUncounted n counts = (d : ℕ) → d < n → slice_get counts d ≡ Some (record { items = 0; buffers = 0 })

-- room for what the pads and the files of so many elements count: each element has numbers for as many source pads as it can have
pub record HasRoom (n : ℕ) (counts : List Count) (lengths : List ℕ) : Type 0 where
  pub size : length counts ≡ n * most_pads
  pub uncounted : AreUncounted (n * most_pads) counts
  pub lengths_size : length lengths ≡ n
  pub nothing : NothingYet n lengths

-- The tasks of a graph without their elements, and the table of their lanes.
pub record ArePlanned {I O L : Type 0} (i : inlets.Ghosts I L O) (o : outlets.Ghosts O L) (graph : Graph) (tasks : List (WiredTask I O)) (table : List Lane) : Type 0 where
  pub bags : List Bag
  pub bags_are : AreHeadBags (made_in graph) (links_in graph) bags
  pub wired : AreWired i o (made_in graph) (links_in graph) bags tasks table

-- What is counted, what its elements are made of, and what they open.
pub record IsReserved (graph : Graph) (counts : List Count) (lengths : List ℕ) (blanks : List Blank) (openings : List (Option Opening)) : Type 0 where
  pub room : HasRoom (length (made_in graph)) counts lengths
  pub blanks_are : AreBlanks (made_in graph) blanks
  pub openings_are : openings ≡ map made_opening (made_in graph)
