-- Why the run of a graph met a fault.
use Rattle.std.specs.Prelude.{◌≡◌, ◌<◌, ℕ, List, Option, None, Some, length, slice_get}
use Rattle.flow_model.specs.declared.fault.ElementFault.{ElementFault}
use Rattle.flow_model.specs.Item.{Item}
use Rattle.lane_core.specs.Lane.{Lane}
use Rattle.lane_core.specs.declared.ends.Inlet as inlets
use Rattle.lane_core.specs.declared.ends.Outlet as outlets
use Rattle.flow_model.specs.Moment.{Moment}
use Rattle.flow_model.specs.declared.element.TaskElement as elements
use Rattle.flow_model.specs.declared.refusal.Refusal.{Refusal}
use Rattle.flow_model.specs.declared.refusal.Refusal.TheVariants.{Fault, Unwritten}
use Rattle.flow_model.specs.declared.refusal.Unread.{Unread}
use Rattle.flow_model.specs.declared.source.TaskSource as sources
use Rattle.gst_outside.specs.declared.sink.Sink as sinks
use Rattle.el_settings.specs.Asked.{source_pads}
use Rattle.graph_core.specs.Elements.{Made}
use Rattle.graph_core.specs.Graph.{IsSound, made as made_in, links as links_in}
use Rattle.graph_pads.specs.Links.{sink_behind}
use Rattle.graph_core.specs.declared.graph.Graph.{Graph}
use Rattle.graph_pads.specs.declared.pad.PadLink.{PadLink}
use Rattle.graph_pads.specs.declared.pad.PadPlace.{PadPlace}
use Rattle.graph_parts.specs.Bags.{AreBags}
use Rattle.graph_parts.specs.declared.bag.Bag.{Bag}
use Rattle.graph_core.specs.Allowed.{first_pad}
use Rattle.graph_core.specs.GraphPlan.{pad_id}
use Rattle.task_elements.specs.declared.element.StreamElement.{StreamElement}
use Rattle.task_parts.specs.Fault.{refusal_fault, unread_fault}
use Rattle.task_parts.specs.declared.fault.TaskFault.{TaskFault}
use Rattle.task_parts.specs.declared.fault.TaskFault.TheVariants.{NotLinked, OutOfMemory, TooLong}
use Rattle.net_task.specs.declared.task.Task.{Task}
use Rattle.net_task.specs.Failed.{Failed, HasRefused, IsCause, IsUnread}
use Rattle.net_task.specs.Frame.{frame_of}
use Rattle.graph_tasks.specs.Frames.{HaveBags}
use Rattle.graph_tasks.specs.Owed.{IsAwaited, IsOwedMore, Refuses, WantsLink, went_from}
use Rattle.graph_tasks.specs.Runs.{RunsAt, crossed_in}
use Rattle.graph_tasks.specs.Short.{UnreadAt}
use Rattle.graph_tasks.specs.Written.{AreStreams}

-- The rule of an element has this fault at its next item; or a write of that failed; or a source could not be read, and what
-- crossed its pad ends short; or a buffer is owed to a pad of an element of which no source pad is linked; or another item is owed to
-- a pad that 2^40 items crossed; or memory was wanting.
pub data IsBlamed (contents : ℕ → List ℕ) (graph : Graph) (m : Moment) : TaskFault → Type 0 where
  refused : (d : ℕ) (element : Made) (own : ElementFault) → slice_get (made_in graph) d ≡ Some element
      → Refuses contents (made_in graph) (links_in graph) (crossed_in graph m) d element.settings own
      → IsBlamed contents graph m (refusal_fault d (Fault own))
  unwritten : (d before after : ℕ) (x : Item) → IsAwaited contents (made_in graph) (links_in graph) (crossed_in graph m) (first_pad d) x
      → IsBlamed contents graph m (refusal_fault d (Unwritten before after))
  unread : (n : ℕ) (why : Unread) → UnreadAt contents (made_in graph) (crossed_in graph m) n why → IsBlamed contents graph m (unread_fault n why)
  not_linked : (source : PadPlace) (place : ℕ) → length (went_from (crossed_in graph m) source) ≡ place
      → WantsLink contents (made_in graph) (links_in graph) (crossed_in graph m) source → IsBlamed contents graph m (NotLinked (pad_id source) place)
  full : (source : PadPlace) → length (went_from (crossed_in graph m) source) ≡ 1099511627776
      → IsOwedMore contents (made_in graph) (links_in graph) (crossed_in graph m) source
      → IsBlamed contents graph m (TooLong source.element 1099511627776 1)
  no_memory : IsBlamed contents graph m OutOfMemory

module _ {S K I O L : Type 0} (k : sinks.Ghosts K) (s : sources.Ghosts S) (e : elements.Ghosts (StreamElement K)) (i : inlets.Ghosts I L O)
    (o : outlets.Ghosts O L) where
  -- That is so where a task of a graph met a fault, which left its frame.
  abbrev pub FaultsAreBlamed : Type 0
  FaultsAreBlamed = AreStreams k e → (contents : ℕ → List ℕ) (graph : Graph) (bags : List Bag) (m : Moment)
      (tasks : List (Task S (StreamElement K) I O L s e i o)) (tells over : Option (List Lane)) → RunsAt contents graph bags m tasks tells
      → (place : ℕ) (before after : Task S (StreamElement K) I O L s e i o) (fault : TaskFault) → slice_get tasks place ≡ Some before
      → frame_of after ≡ frame_of before → Failed tells over before after m fault → IsBlamed contents graph m fault

module _ {S E I O L : Type 0} {s : sources.Ghosts S} {e : elements.Ghosts E} {i : inlets.Ghosts I L O} {o : outlets.Ghosts O L} where
  -- What is known of a fault without the contents of files: an element of the task that is one of the graph refused an item, by its
  -- rule or by a write that failed in this very call; its source, one of the graph, could not be read in this very call; a pad that
  -- is not linked was to be crossed; the pad of an element of the graph was full; or memory was wanting.
  pub data IsTold (made : List Made) (links : List PadLink) (before after : Task S E I O L s e i o) : TaskFault → Type 0 where
    refused : (n : ℕ) (refusal : Refusal) → n < length made → HasRefused before.parts.items after.parts.items n refusal
        → IsTold made links before after (refusal_fault n refusal)
    unread : (n : ℕ) (why : Unread) → n < length made → IsUnread before.head after.head n why → IsTold made links before after (unread_fault n why)
    not_linked : (source : PadPlace) (place : ℕ) (element : Made) → slice_get made source.element ≡ Some element
        → source.pad < source_pads element.settings → sink_behind links source ≡ None → IsTold made links before after (NotLinked (pad_id source) place)
    full : (n : ℕ) → n < length made → IsTold made links before after (TooLong n 1099511627776 1)
    no_memory : IsTold made links before after OutOfMemory

module _ {S E I O L : Type 0} (s : sources.Ghosts S) (e : elements.Ghosts E) (i : inlets.Ghosts I L O) (o : outlets.Ghosts O L) where
  -- So much is known of each fault of a task of a graph that left its frame.
  abbrev pub CausesAreTold : Type 0
  CausesAreTold = (graph : Graph) (bags : List Bag) (tasks : List (Task S E I O L s e i o)) → IsSound graph
      → AreBags (made_in graph) (links_in graph) bags → HaveBags (made_in graph) (links_in graph) bags tasks
      → (place : ℕ) (before after : Task S E I O L s e i o) (fault : TaskFault) → slice_get tasks place ≡ Some before
      → frame_of after ≡ frame_of before → IsCause before after fault → IsTold (made_in graph) (links_in graph) before after fault
