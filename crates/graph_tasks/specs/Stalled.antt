-- Why the tasks of a graph cannot go on, by what crossed its source pads and by what was taken of that.
use Rattle.std.specs.Prelude.{◌≡◌, ◌<◌, ◌≤◌, ◌+◌, ◌++◌, ℕ, true, false, if◌then◌else◌, List, [], ◌∷◌, Option, None, Some, length, slice_get}
use Rattle.std.specs.Option.{option_map_or, unwrap_or}
use Rattle.flow_model.specs.Item.{Item, eos_among}
use Rattle.flow_model.specs.Prefix.{IsPrefix}
use Rattle.gst_outside.specs.declared.sink.Sink as sinks
use Rattle.lane_core.specs.Lane.{Lane}
use Rattle.lane_core.specs.declared.ends.Inlet as inlets
use Rattle.lane_core.specs.declared.ends.Outlet as outlets
use Rattle.flow_model.specs.Moment.{Moment}
use Rattle.flow_model.specs.declared.element.TaskElement as elements
use Rattle.flow_model.specs.declared.source.TaskSource as sources
use Rattle.el_settings.specs.Asked.{source_pads}
use Rattle.graph_core.specs.Elements.{Made, has}
use Rattle.graph_core.specs.Graph.{made as made_in, links as links_in}
use Rattle.graph_core.specs.GraphPlan.{pad_id, sink_count, sink_at as place_at}
use Rattle.graph_pads.specs.Links.{sink_behind, source_before}
use Rattle.graph_core.specs.declared.graph.Graph.{Graph}
use Rattle.graph_pads.specs.declared.pad.PadLink.{PadLink}
use Rattle.graph_pads.specs.declared.pad.PadPlace.{PadPlace}
use Rattle.graph_parts.specs.Links.{Reaches, has_inlets}
use Rattle.graph_parts.specs.declared.bag.Bag.{Bag}
use Rattle.graph_parts.specs.Lanes.{has_lane, lane_room}
use Rattle.task_elements.specs.declared.element.StreamElement.{StreamElement}
use Rattle.task_parts.specs.declared.step.Step.{Step}
use Rattle.task_parts.specs.declared.step.Step.TheVariants.{NeedsItem, NeedsRoom, Ended}
use Rattle.net_task.specs.declared.task.Task.{Task}
use Rattle.net_task.specs.Counted.{received_by}
use Rattle.net_task.specs.Frame.{frame_of}
use Rattle.net_turns.specs.Alone.{HoldLanes}
use Rattle.net_turns.specs.Ends.{head_number}
use Rattle.net_turns.specs.Rests.{NetRests}
use Rattle.graph_tasks.specs.Owed.{came_to, owed_by, went_from}
use Rattle.graph_tasks.specs.Runs.{RunsAt, crossed_in}
use Rattle.graph_tasks.specs.Written.{AreStreams}

-- Of what crossed each source pad the element behind it took a beginning, and all where no lane leads to that.
pub record AreTaken (made : List Made) (links : List PadLink) (h took : ℕ → List Item) : Type 0 where
  pub begins : (p : ℕ) → IsPrefix (took p) (h p)
  pub inside : (source sink : PadPlace) → sink_behind links source ≡ Some sink → has has_inlets made sink.element ≡ false
      → went_from took source ≡ went_from h source

-- the number of the lane into a sink pad; 4294967295 where it is not linked
abbrev pub lane_into : List PadLink → PadPlace → ℕ
lane_into links sink = option_map_or (λ (source : PadPlace). pad_id sink) (source_before links sink) 4294967295

module _ (contents : ℕ → List ℕ) (made : List Made) (links : List PadLink) (h took : ℕ → List Item) where
  -- For what was taken this is the next item that is owed to a source pad.
  pub record IsDue (source : PadPlace) (item : Item) : Type 0 where
    pub element : Made
    pub at : slice_get made source.element ≡ Some element
    pub there : source.pad < source_pads element.settings
    pub next : IsPrefix (went_from h source ++ item ∷ []) (owed_by contents made links took source element.settings)

  -- Nothing waits in the task of a head: all that is owed for what was taken to the source pads of its elements has crossed them.
  abbrev pub NothingWaits : ℕ → Type 0
  NothingWaits head = (source : PadPlace) (element : Made) → Reaches made links head source.element → slice_get made source.element ≡ Some element
      → source.pad < source_pads element.settings → went_from h source ≡ owed_by contents made links took source element.settings

  -- Why the task of a head cannot go on, by the step that it answers. It wants an item of a sink pad of its head, of which all that
  -- came was taken, and which had no EOS. Or an item waits at a source pad behind which the lane is
  -- full: of what crossed the pad, as many items as that holds were not taken. Or its head took EOS at each of its sink pads; a
  -- source, which has none, has given all.
  pub data IsStuck (head : ℕ) : Step → Type 0 where
    needs_item : (pad : ℕ) → pad < sink_count (slice_get made head) → NothingWaits head
        → came_to links took (place_at head pad) ≡ came_to links h (place_at head pad)
        → eos_among (came_to links h (place_at head pad)) ≡ false
        → IsStuck head (NeedsItem (lane_into links (place_at head pad)))
    needs_room : (source sink : PadPlace) (item : Item) (room : ℕ) → Reaches made links head source.element → sink_behind links source ≡ Some sink
        → IsDue source item → lane_room made links (pad_id sink) ≡ Some room → length (went_from took source) + room ≤ length (went_from h source)
        → IsStuck head (NeedsRoom (pad_id sink))
    ended : NothingWaits head → ((pad : ℕ) → pad < sink_count (slice_get made head) → eos_among (came_to links took (place_at head pad)) ≡ true)
        → IsStuck head Ended

-- how many items of those that came to a sink pad were taken
abbrev pub taken_count : List PadLink → (ℕ → List Item) → PadPlace → ℕ
taken_count links took sink = length (came_to links took sink)

-- the number of the lane into a sink pad of an element, where there is one
abbrev pub lane_at : List Made → List PadLink → ℕ → ℕ → Option ℕ
lane_at made links n pad = if has_lane made links (pad_id (place_at n pad)) then Some (pad_id (place_at n pad)) else None

module _ {S E I O L : Type 0} {s : sources.Ghosts S} {e : elements.Ghosts E} {i : inlets.Ghosts I L O} {o : outlets.Ghosts O L} where
  -- No task of a graph can go on, each for the reason that it answered, and each received so many items from the lanes into its head,
  -- none where a sink pad is not linked.
  pub record AreStuck (contents : ℕ → List ℕ) (graph : Graph) (m : Moment) (tasks : List (Task S E I O L s e i o)) (steps : List Step) : Type 0 where
    pub took : ℕ → List Item
    pub taken : AreTaken (made_in graph) (links_in graph) (crossed_in graph m) took
    pub stuck : (k : ℕ) (task : Task S E I O L s e i o) (step : Step) → slice_get tasks k ≡ Some task → slice_get steps k ≡ Some step
        → IsStuck contents (made_in graph) (links_in graph) (crossed_in graph m) took (head_number (frame_of task).head) step
    pub counted : (k : ℕ) (task : Task S E I O L s e i o) (pad : ℕ) → slice_get tasks k ≡ Some task
        → let head = head_number (frame_of task).head in pad < sink_count (slice_get (made_in graph) head)
        → unwrap_or (received_by i (pad_id (place_at head pad)) task.head) 0 ≡ taken_count (links_in graph) took (place_at head pad)

module _ {S K I O L : Type 0}
    (k : sinks.Ghosts K) (s : sources.Ghosts S) (e : elements.Ghosts (StreamElement K)) (i : inlets.Ghosts I L O) (o : outlets.Ghosts O L) where
  -- That is so where no task of a graph can move, and the rows of their heads hold the lanes into them and nothing else.
  abbrev pub TasksAreStuck : Type 0
  TasksAreStuck = AreStreams k e → (contents : ℕ → List ℕ) (graph : Graph) (bags : List Bag) (m : Moment)
      (tasks : List (Task S (StreamElement K) I O L s e i o)) (steps : List Step) (tells : Option (List Lane)) → RunsAt contents graph bags m tasks tells
      → HoldLanes (lane_at (made_in graph) (links_in graph)) tasks → NetRests (λ k. Unit {0}) m tasks steps tells → AreStuck contents graph m tasks steps
