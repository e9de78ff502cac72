-- How the tasks of a line ran, by the ends that they gave back and what is told of them.
use Rattle.std.specs.Prelude.{◌≡◌, ℕ, List, Option, None, Some, slice_get}
use Rattle.std.specs.Option.{ForSome}
use Rattle.gst_outside.specs.Causes.{Rose}
use Rattle.lane_core.specs.declared.ends.Inlet as inlets
use Rattle.lane_core.specs.declared.ends.Outlet as outlets
use Rattle.flow_model.specs.declared.element.TaskElement as elements
use Rattle.flow_model.specs.declared.source.TaskSource as givers
use Rattle.graph_core.specs.Elements.{Made}
use Rattle.graph_core.specs.Graph.{is_live, made as made_in}
use Rattle.graph_core.specs.declared.graph.Graph.{Graph}
use Rattle.graph_tasks.specs.Over.{joins_in}
use Rattle.graph_parts.specs.Files.{opening_of}
use Rattle.net_task.specs.declared.task.Task.{Task}
use Rattle.net_turns.specs.Ends.{TellsOver}
use Rattle.run_files.specs.Ends.{Known}
use Rattle.run_files.specs.declared.end.Opening.TheVariants.{Write}
use Rattle.run_report.specs.declared.report.Fault.{Fault}
use Rattle.run_report.specs.declared.report.Fault.TheVariants as faults
use Rattle.run_report.specs.declared.report.StalledTask.{StalledTask}
use Rattle.script_text.specs.declared.answer.Entry.{Entry}
use Rattle.task_parts.specs.declared.fault.TaskFault.{TaskFault}
use Rattle.task_parts.specs.declared.step.Step.{Step}
use Rattle.graph_parts.specs.declared.counts.Count.{Count}
use Rattle.world_core.specs.Stalled.{TellsTasks}
use Rattle.world_core.specs.Told.{pads_told, sinks_told, task_fault, task_status}
use Rattle.world_core.specs.declared.ended.WorldEnd.{WorldEnd}
use Rattle.world_core.specs.declared.report.Stop.{Stop}
use Rattle.world_core.specs.declared.report.Stop.TheVariants as stops

-- the end of each filesink holds its bytes, where they are told
abbrev pub KnownHold : Graph → List (Option Known) → (ℕ → List ℕ) → Type 0
KnownHold graph known bytes = (d : ℕ) (m : Made) (location : List ℕ) → slice_get (made_in graph) d ≡ Some m → opening_of m.settings ≡ Some (Write location)
    → (k : Known) × (slice_get known d ≡ Some (Some k)) × ForSome k.bytes (λ file. file ≡ bytes d)

-- calls of the end of an element failed, so many in all
abbrev pub KnownFailed : List (Option Known) → ℕ → ℕ → Type 0
KnownFailed known e n = (k : Known) × (slice_get known e ≡ Some (Some k)) × Rose 0 k.faults × (k.faults ≡ n)

-- the status and the fault that are told of how tasks stopped
abbrev pub stop_status : Stop → ℕ
stop_status stops.Over = 0
stop_status (stops.Stalled command tasks) = 12
stop_status (stops.Fault fault) = task_status fault

abbrev pub stop_fault : List Made → Stop → Fault
stop_fault made stops.Over = faults.Nothing
stop_fault made (stops.Stalled command tasks) = faults.Stalled command tasks
stop_fault made (stops.Fault fault) = task_fault made fault

-- What is told of a run: why it stopped, what its pads and the files of its filesinks count, and how commands were answered.
pub record TellsEnd (made : List Made) (stop : Stop) (pads : List Count) (lengths : List ℕ) (entries : List Entry) (end : WorldEnd) : Type 0 where
  pub status : end.status ≡ stop_status stop
  pub fault : end.report.fault ≡ stop_fault made stop
  pub entries_are : end.report.entries ≡ entries
  pub pads_are : end.report.pads ≡ pads_told made pads
  pub sinks_are : end.report.sinks ≡ sinks_told made lengths

-- How tasks stopped, by the fault that they met, if any, and by the steps that they answered at last. It was at that fault. Or none
-- could move, and the steps tell that the run is over, or else why each could not.
pub data StopsAs {S E I O L : Type 0} {s : givers.Ghosts S} {e : elements.Ghosts E} {i : inlets.Ghosts I L O} {o : outlets.Ghosts O L}
    (graph : Graph) (tasks : List (Task S E I O L s e i o)) (steps : List Step) : Option TaskFault → Stop → Type 0 where
  at_fault : (fault : TaskFault) → StopsAs graph tasks steps (Some fault) (stops.Fault fault)
  over : TellsOver (is_live graph) (joins_in graph) tasks steps → StopsAs graph tasks steps None stops.Over
  stalled : (told : List StalledTask) → (TellsOver (is_live graph) (joins_in graph) tasks steps → ⊥) → TellsTasks (made_in graph) tasks steps told
      → StopsAs graph tasks steps None (stops.Stalled None told)
