-- What a report says of a run that is stalled.
use Rattle.std.specs.Prelude.{◌≡◌, ℕ, true, List, Some, if◌then◌else◌, length, map, nat_lt, slice_get}
use Rattle.std.specs.List.{range_with_len}
use Rattle.std.specs.Option.{unwrap_or}
use Rattle.flow_model.specs.Item.{Item}
use Rattle.lane_core.specs.declared.ends.Inlet as inlets
use Rattle.lane_core.specs.declared.ends.Outlet as outlets
use Rattle.flow_model.specs.declared.element.TaskElement as elements
use Rattle.flow_model.specs.declared.source.TaskSource as givers
use Rattle.graph_parts.specs.Bags.{heads_in}
use Rattle.graph_core.specs.Elements.{Made}
use Rattle.graph_core.specs.Ends.{name_at}
use Rattle.graph_core.specs.Graph.{made as made_in, links as links_in}
use Rattle.graph_core.specs.GraphPlan.{pad_id, sink_count, sink_at as place_at}
use Rattle.graph_core.specs.declared.graph.Graph.{Graph}
use Rattle.graph_pads.specs.declared.pad.PadLink.{PadLink}
use Rattle.graph_pads.specs.declared.pad.PadPlace.{PadPlace}
use Rattle.graph_tasks.specs.Over.{joins_in}
use Rattle.graph_tasks.specs.Stalled.{AreTaken, IsStuck, taken_count}
use Rattle.graph_parts.specs.MomentLaws.{place_of}
use Rattle.net_task.specs.Counted.{received_by}
use Rattle.net_task.specs.Frame.{frame_of}
use Rattle.net_task.specs.declared.task.Task.{Task}
use Rattle.net_turns.specs.Ends.{head_number}
use Rattle.script_text.specs.declared.answer.Place.{Place}
use Rattle.run_report.specs.declared.report.StallReason.{StallReason}
use Rattle.run_report.specs.declared.report.StallReason.TheVariants as reasons
use Rattle.run_report.specs.declared.report.StalledTask.{StalledTask}
use Rattle.task_parts.specs.declared.step.Step.{Step}
use Rattle.task_parts.specs.declared.step.Step.TheVariants.{Moved, NeedsItem, NeedsRoom, AtProbe, Ended}
use Rattle.world_core.specs.Over.{IsOver}
use Rattle.world_core.specs.Pads.{sink_name, sink_pad}

-- the sink pad into which the lane of a number leads; where it is none of the line, the first of the head
abbrev pub lane_pad : List Made → ℕ → ℕ → PadPlace
lane_pad made head lane = if nat_lt (place_of lane).element (length made) then place_of lane else place_at head 0

-- the reason that is told of a task with this head, by the step that it answered
abbrev pub stall_reason : List Made → ℕ → Step → StallReason
stall_reason made head (NeedsItem lane) = reasons.NeedsItem (sink_pad made (lane_pad made head lane))
stall_reason made head (NeedsRoom lane) = reasons.NeedsRoom (sink_pad made (lane_pad made head lane))
stall_reason made head (AtProbe command) = reasons.AtProbe command
stall_reason made head Moved = reasons.Ended
stall_reason made head Ended = reasons.Ended

-- a sink pad with the number of items that were taken there
abbrev pub place_told : List Made → (PadPlace → ℕ) → PadPlace → Place
place_told made count sink = record { pad = sink_name made sink; items = count sink }

-- all sink pads of an element
abbrev pub places_of : List Made → (PadPlace → ℕ) → ℕ → List Place
places_of made count e = map (λ pad. place_told made count (place_at e pad)) (range_with_len 0 (sink_count (slice_get made e)))

module _ (contents : ℕ → List ℕ) (made : List Made) (links : List PadLink) (h took : ℕ → List Item) where
  -- What is told of the task of a head: its name, why it cannot go on, which is true, and how many items were taken at each of its
  -- sink pads.
  pub record IsStalledTask (head : ℕ) (task : StalledTask) : Type 0 where
    pub named : task.head ≡ name_at made head
    pub step : Step
    pub stuck : IsStuck contents made links h took head step
    pub reason : task.reason ≡ stall_reason made head step
    pub taken : task.taken ≡ places_of made (taken_count links took) head

  -- so it is for the tasks of all heads, in their order
  pub record AreStalledTasks (tasks : List StalledTask) : Type 0 where
    pub count : length tasks ≡ length (heads_in made)
    pub each : (k head : ℕ) (task : StalledTask) → slice_get (heads_in made) k ≡ Some head → slice_get tasks k ≡ Some task → IsStalledTask head task

-- No task of a graph can go on, for the reasons that are told, and its run is not over. One of its elements joins streams.
pub record IsStalled (contents : ℕ → List ℕ) (graph : Graph) (h : ℕ → List Item) (tasks : List StalledTask) : Type 0 where
  pub took : ℕ → List Item
  pub taken : AreTaken (made_in graph) (links_in graph) h took
  pub tasks_are : AreStalledTasks contents (made_in graph) (links_in graph) h took tasks
  pub not_over : IsOver contents graph h took → ⊥
  pub joins : (n : ℕ) × (joins_in graph n ≡ true)

module _ {S E I O L : Type 0} {s : givers.Ghosts S} {e : elements.Ghosts E} {i : inlets.Ghosts I L O} {o : outlets.Ghosts O L} (made : List Made) where
  -- what is told of a task that answered this step
  abbrev pub stalled_task : Task S E I O L s e i o → Step → StalledTask
  stalled_task task step =
      let head = head_number (frame_of task).head in
      record {
        head = name_at made head;
        reason = stall_reason made head step;
        taken = places_of made (λ sink. unwrap_or (received_by i (pad_id sink) task.head) 0) head;
      }

  -- so it is of tasks that answered these steps, in their order
  pub record TellsTasks (tasks : List (Task S E I O L s e i o)) (steps : List Step) (told : List StalledTask) : Type 0 where
    pub count : length told ≡ length tasks
    pub each : (k : ℕ) (task : Task S E I O L s e i o) (step : Step) → slice_get tasks k ≡ Some task → slice_get steps k ≡ Some step
        → slice_get told k ≡ Some (stalled_task task step)
