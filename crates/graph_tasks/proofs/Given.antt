-- What is known of the tasks of a graph, and of the task at a place.
use Rattle.std.proofs.Common.{◌≡◌, ◌<◌, ℕ, List, Option, Some, length, arith}
use Rattle.std.specs.Prelude.{slice_get}
use Rattle.std.proofs.lemmas.Option.{slice_get_within}
use Rattle.flow_model.specs.Account.{IsMember}
use Rattle.lane_core.specs.Lane.{Lane}
use Rattle.lane_core.specs.declared.ends.Inlet as inlets
use Rattle.lane_core.specs.declared.ends.Outlet as outlets
use Rattle.flow_model.specs.declared.element.TaskElement as elements
use Rattle.flow_model.specs.declared.source.TaskSource as sources
use Rattle.graph_core.specs.Graph.{IsSound, made as made_in, links as links_in}
use Rattle.graph_core.specs.declared.graph.Graph.{Graph}
use Rattle.graph_core.specs.LinkedOnce.{AreOnce}
use Rattle.graph_parts.specs.Bags.{AreBags, IsBag, numbers}
use Rattle.graph_parts.specs.declared.bag.Bag.{Bag}
use Rattle.graph_parts.specs.Links.{source_count}
use Rattle.graph_parts.specs.declared.bag.BagElement.{BagElement}
use Rattle.graph_parts.proofs.Apart.{bags_are_apart, bags_are_there}
use Rattle.task_pads.specs.declared.pad.Pad.{Pad}
use Rattle.task_parts.specs.declared.part.Part.{Part}
use Rattle.net_task.specs.declared.task.Task.{Task}
use Rattle.graph_tasks.specs.Tasks.{AreTasks, IsPartOf, IsTaskOf}
use Rattle.graph_tasks.specs.Start.{ElementsStand, SourcesStand}
use Rattle.graph_tasks.proofs.BlamedFrames.{all_at}
use Rattle.gst_value.proofs.Places.{found_at as got_within}

module _ {S E I O L : Type 0} {s : sources.Ghosts S} {e : elements.Ghosts E} (i : inlets.Ghosts I L O) (o : outlets.Ghosts O L) where
  pub record IsKnown (graph : Graph) (bags : List Bag) (ends : List (Option E)) (files : List (Option S)) (tasks : List (Task S E I O L s e i o)) (table : List Lane) : Type 0 where
    pub sound : IsSound graph
    pub once : AreOnce (links_in graph)
    pub are : AreBags (made_in graph) (links_in graph) bags
    pub made_of : AreTasks i o (made_in graph) (links_in graph) ends files bags tasks table

  -- and where the run begins their elements stand for nothing taken, and their sources for nothing given
  pub record IsBegun (contents : ℕ → List ℕ) (graph : Graph) (bags : List Bag) (ends : List (Option E)) (files : List (Option S)) (tasks : List (Task S E I O L s e i o)) (table : List Lane) : Type 0 where
    pub known : IsKnown graph bags ends files tasks table
    pub stood : ElementsStand e contents graph ends
    pub gave : SourcesStand s contents graph files

  -- the task at a place, with its bag
  pub record IsPlaced (graph : Graph) (bags : List Bag) (ends : List (Option E)) (files : List (Option S)) (k : ℕ) (task : Task S E I O L s e i o) : Type 0 where
    pub bag : Bag
    pub at : slice_get bags k ≡ Some bag
    pub is : IsBag (made_in graph) (links_in graph) bag
    pub of : IsTaskOf i o (made_in graph) (links_in graph) ends files bag task

module _ {E O L : Type 0} {e : elements.Ghosts E} (o : outlets.Ghosts O L) where
  -- an element of a task, with that of its bag
  pub record IsCell (graph : Graph) (ends : List (Option E)) (bag : Bag) (j : ℕ) (part : Part E O e) : Type 0 where
    pub cell : BagElement
    pub at : slice_get bag.elements.items j ≡ Some cell
    pub of : IsPartOf o (made_in graph) (links_in graph) ends cell part

module _ {S E I O L : Type 0} {s : sources.Ghosts S} {e : elements.Ghosts E} {i : inlets.Ghosts I L O} {o : outlets.Ghosts O L}
    {graph : Graph} {bags : List Bag} {ends : List (Option E)} {files : List (Option S)} {tasks : List (Task S E I O L s e i o)} {table : List Lane}
    (g : IsKnown i o graph bags ends files tasks table) where
  pub placed : (k : ℕ) (task : Task S E I O L s e i o) → slice_get tasks k ≡ Some task → IsPlaced i o graph bags ends files k task
  placed k task at =
      let count = g.made_of.count in
      let w = slice_get_within tasks k task at in
      let b = got_within bags k (omega (arith, w, count)) in
      record { bag = b.0; at = b.1; is = all_at (IsBag (made_in graph) (links_in graph)) bags g.are.are k b.0 b.1; of = g.made_of.each k b.0 task b.1 at }

  -- its elements are there
  pub there : (k n : ℕ) (task : Task S E I O L s e i o) (p : IsPlaced i o graph bags ends files k task) → IsMember n (numbers p.bag) → n < length (made_in graph)
  there k n task p m = bags_are_there (made_in graph) (links_in graph) bags g.sound.pads g.are k n (record { bag = p.bag; is = p.at; among = m })

  -- and of no other task
  pub one_task : (k j n : ℕ) (task other : Task S E I O L s e i o) (p : IsPlaced i o graph bags ends files k task) (q : IsPlaced i o graph bags ends files j other)
      → IsMember n (numbers p.bag) → IsMember n (numbers q.bag) → k ≡ j
  one_task k j n task other p q m l =
      bags_are_apart (made_in graph) (links_in graph) bags g.sound.pads g.once g.are k j n (record { bag = p.bag; is = p.at; among = m }) (record { bag = q.bag; is = q.at; among = l })

  pub cell_of : (k j : ℕ) (task : Task S E I O L s e i o) (p : IsPlaced i o graph bags ends files k task) (part : Part E O e) → slice_get task.parts.items j ≡ Some part
      → IsCell o graph ends p.bag j part
  cell_of k j task p part at =
      let count = p.of.count in
      let w = slice_get_within task.parts.items j part at in
      let c = got_within p.bag.elements.items j (omega (arith, w, count)) in
      record { cell = c.0; at = c.1; of = p.of.parts j c.0 part c.1 at }

  -- each pad of an element
  pub pad_there : (cell : BagElement) (part : Part E O e) → IsPartOf o (made_in graph) (links_in graph) ends cell part → (port : ℕ) (pad : Pad O) → slice_get part.pads.items port ≡ Some pad
      → port < source_count (made_in graph) cell.element
  pad_there cell part is port pad at =
      let w = slice_get_within part.pads.items port pad at in
      let all = is.all in
      omega (arith, w, all)
