-- What the tasks of a graph are made of: elements and sources, each under its number.
use Rattle.std.specs.Prelude.{◌≡◌, ◌==◌, ℕ, true, false, List, Option, None, Some, if◌then◌else◌, length, map, slice_get, slice_index_or}
use Rattle.std.specs.List.{list_any, range_with_len}
use Rattle.lane_core.specs.Lane.{Lane}
use Rattle.lane_core.specs.declared.ends.Inlet as inlets
use Rattle.lane_core.specs.declared.ends.Outlet as outlets
use Rattle.flow_model.specs.declared.element.TaskElement as elements
use Rattle.flow_model.specs.declared.source.TaskSource as sources
use Rattle.el_settings.specs.Asked.{source_pads, is_source}
use Rattle.graph_core.specs.Elements.{Made}
use Rattle.graph_core.specs.Graph.{IsSound, made as made_in, links as links_in}
use Rattle.graph_core.specs.declared.graph.Graph.{Graph}
use Rattle.graph_core.specs.LinkedOnce.{AreOnce}
use Rattle.graph_parts.specs.Bags.{AreBags, Once}
use Rattle.graph_parts.specs.declared.bag.Bag.{Bag}
use Rattle.task_parts.specs.Shape.{is_closed}
use Rattle.graph_tasks.specs.Tasks.{IsOf}
use Rattle.graph_tasks.specs.Wired.{AreWired, part_numbers, source_numbers, wired_shape}
use Rattle.graph_tasks.specs.declared.wired_task.WiredHead.{WiredHead}
use Rattle.graph_tasks.specs.declared.wired_task.WiredHead.TheVariants.{Source, Inlets}
use Rattle.graph_tasks.specs.declared.wired_task.WiredPart.{WiredPart}
use Rattle.graph_tasks.specs.declared.wired_task.WiredTask.{WiredTask}

-- Nothing stands under these numbers, and under each other number what stood there.
abbrev pub without : {A : Type 0} → List ℕ → List (Option A) → List (Option A)
without ns xs = map (λ k. if list_any (λ n. n == k) ns then None else slice_index_or xs k None) (range_with_len 0 (length xs))

module _ {E : Type 0} (e : elements.Ghosts E) where
  -- under a number stands an element with so many source pads
  pub record ElementAt (ends : List (Option E)) (n ports : ℕ) : Type 0 where
    pub element : E
    pub at : IsOf ends n element
    pub has : e.ports element ≡ ports

  -- so it is with each element of a task
  abbrev pub AreAt : {O : Type 0} → List (Option E) → List (WiredPart O) → Type 0
  AreAt {O = O} ends parts = (j : ℕ) (part : WiredPart O) → slice_get parts j ≡ Some part → ElementAt ends part.number (length part.pads.items)

module _ {S : Type 0} (s : sources.Ghosts S) where
  -- under a number stands a source that gave nothing
  pub record SourceAt (files : List (Option S)) (n : ℕ) : Type 0 where
    pub source : S
    pub at : IsOf files n source
    pub fresh : s.count source ≡ 0

  abbrev pub HeadAt : {I O : Type 0} → List (Option S) → WiredHead I O → Type 0
  HeadAt files (Source number pad) = SourceAt files number
  HeadAt files (Inlets number hint rows) = Unit {0}

module _ {S E : Type 0} (s : sources.Ghosts S) (e : elements.Ghosts E) where
  -- The elements of a task are there, or its source; and each element that its head or a pad names is one of it.
  pub record IsThere {I O : Type 0} (ends : List (Option E)) (files : List (Option S)) (task : WiredTask I O) : Type 0 where
    pub closed : is_closed (wired_shape task) ≡ true
    pub parts : AreAt e ends task.parts.items
    pub head : HeadAt s files task.head

  -- So it is with all tasks, and no element and no source is of two.
  pub record AreThere {I O : Type 0} (tasks : List (WiredTask I O)) (ends : List (Option E)) (files : List (Option S)) : Type 0 where
    pub each : (k : ℕ) (task : WiredTask I O) → slice_get tasks k ≡ Some task → IsThere ends files task
    pub parts_once : Once (part_numbers tasks)
    pub sources_once : Once (source_numbers tasks)

  -- Under the number of each element of a graph that has sink pads stands an element, and under that of each source a source.
  pub record AreAtHand (made : List Made) (ends : List (Option E)) (files : List (Option S)) : Type 0 where
    pub elements : (n : ℕ) (m : Made) → slice_get made n ≡ Some m → is_source m.settings ≡ false → ElementAt e ends n (source_pads m.settings)
    pub sources : (n : ℕ) (m : Made) → slice_get made n ≡ Some m → is_source m.settings ≡ true → SourceAt s files n

-- What the wired tasks of a graph are made of is there where each element of the graph is at hand.
abbrev pub ElementsAreThere : {S E I O L : Type 0} → sources.Ghosts S → elements.Ghosts E → inlets.Ghosts I L O → outlets.Ghosts O L → Type 0
ElementsAreThere {S = S} {E = E} {I = I} {O = O} s e i o =
    (graph : Graph) (bags : List Bag) (ends : List (Option E)) (files : List (Option S)) (tasks : List (WiredTask I O)) (table : List Lane)
    → IsSound graph → AreOnce (links_in graph) → AreBags (made_in graph) (links_in graph) bags
    → AreWired i o (made_in graph) (links_in graph) bags tasks table → AreAtHand s e (made_in graph) ends files → AreThere s e tasks ends files
