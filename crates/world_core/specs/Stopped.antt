-- A run that stopped: how its tasks began, that they have the elements and files that they had, and what the step of one tells.
use Rattle.std.specs.Prelude.{◌≡◌, ◌&&◌, not, ℕ, Bool, true, false, List, Option, length}
use Rattle.flow_model.specs.declared.element.TaskElement as elements
use Rattle.flow_model.specs.declared.source.TaskSource as givers
use Rattle.graph_core.specs.declared.graph.Graph.{Graph}
use Rattle.gst_outside.specs.Seen.{Seen}
use Rattle.gst_outside.specs.declared.sink.Sink as sinks
use Rattle.gst_outside.specs.declared.source.Source as sources
use Rattle.lane_core.specs.Lane.{Lane}
use Rattle.lane_core.specs.declared.ends.Inlet as inlets
use Rattle.lane_core.specs.declared.ends.Outlet as outlets
use Rattle.net_task.specs.declared.task.Task.{Task}
use Rattle.net_turns.specs.Rests.{AllFramed}
use Rattle.run_files.specs.declared.end.End.{End}
use Rattle.task_elements.specs.declared.element.StreamElement.{StreamElement}
use Rattle.task_elements.specs.declared.source.StreamSource.{StreamSource}
use Rattle.task_parts.specs.declared.step.Step.{Step}
use Rattle.task_parts.specs.declared.step.Step.TheVariants.{Moved, NeedsItem, NeedsRoom, AtProbe, Ended}
use Rattle.world_core.specs.Start.{IsStarted}

module _ {S K I O L : Type 0} {giver : givers.Ghosts (StreamSource S)} {taker : elements.Ghosts (StreamElement K)} {i : inlets.Ghosts I L O} {o : outlets.Ghosts O L}
    (s : sources.Ghosts S) (k : sinks.Ghosts K) where
  pub record HasRun (graph : Graph) (first last : List (Task (StreamSource S) (StreamElement K) I O L giver taker i o))
      (rest : List (Option (StreamElement K))) (left : List (Option (End S K))) (tells : Option (List Lane)) (before : Seen) : Type 0 where
    pub started : IsStarted s k graph first rest left tells before
    pub framed : AllFramed first last
    pub count : length last ≡ length first

-- The step that a task with this head answered lets the run be over, by which elements are live and join streams.
abbrev pub step_over : (ℕ → Bool) → (ℕ → Bool) → ℕ → Step → Bool
step_over live joins head Moved = false
step_over live joins head (NeedsItem lane) = not (live head && joins head)
step_over live joins head (NeedsRoom lane) = false
step_over live joins head (AtProbe command) = false
step_over live joins head Ended = true
