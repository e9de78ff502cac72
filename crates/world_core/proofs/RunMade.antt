-- A run of made tasks, from what its steps promise.
use Rattle.std.proofs.Common.{◌≡◌, ◌≢◌, ◌∙◌, ap, refl, ℕ, List, Option, Result, IfOk, IfErr, length}
use Rattle.std.specs.Option.{option_map}
use Rattle.el_set.specs.Gives.{source_faults, source_file}
use Rattle.el_set.specs.declared.source.SourceElement.{SourceElement}
use Rattle.el_set.specs.declared.source.SourceElement.TheVariants.{File, Ramp}
use Rattle.flow_model.specs.declared.element.TaskElement as elements
use Rattle.flow_model.specs.declared.source.TaskSource as givers
use Rattle.graph_core.specs.Elements.{Made}
use Rattle.graph_core.specs.Graph.{made as made_in}
use Rattle.graph_core.specs.declared.graph.Graph.{Graph}
use Rattle.graph_parts.specs.Back.{GivesBack}
use Rattle.graph_parts.specs.Files.{AreLocated}
use Rattle.graph_parts.specs.Put.{PutBack}
use Rattle.graph_parts.specs.declared.counts.Count.{Count}
use Rattle.gst_outside.specs.Seen.{Seen}
use Rattle.gst_outside.specs.declared.sink.Sink as sinks
use Rattle.gst_outside.specs.declared.source.Source as sources
use Rattle.lane_core.specs.Lane.{Lane}
use Rattle.lane_core.specs.declared.ends.Inlet as inlets
use Rattle.lane_core.specs.declared.ends.Outlet as outlets
use Rattle.flow_model.specs.Moment.{Moment}
use Rattle.net_task.specs.declared.task.Task.{Task}
use Rattle.net_turns.specs.Net.{NetStands}
use Rattle.net_turns.specs.Rests.{AllFramed, NetEnded, NetFaulted}
use Rattle.net_turns.specs.Turns.{RunBy, stop_of}
use Rattle.net_turns.specs.declared.net.Stopped.{Stopped}
use Rattle.run_files.specs.Ends.{known_ends}
use Rattle.run_files.specs.declared.end.End.{End}
use Rattle.task_elements.specs.Stands.{file_in}
use Rattle.task_elements.specs.declared.element.StreamElement.{StreamElement}
use Rattle.task_elements.specs.declared.source.StreamSource.{StreamSource}
use Rattle.script_text.specs.declared.answer.Entry.{Entry}
use Rattle.task_parts.specs.declared.step.Step.{Step}
use Rattle.turn_order.specs.declared.order.Order.{Order}
use Rattle.turn_order.specs.declared.turns.Turns.{Turns}
use Rattle.world_core.specs.Ended.{HasEnded}
use Rattle.world_core.specs.Laws.{Laws}
use Rattle.world_core.specs.Ran.{KnownFailed, KnownHold, StopsAs, TellsEnd, stop_fault, stop_status}
use Rattle.world_core.specs.Start.{IsStarted}
use Rattle.world_core.specs.Stopped.{HasRun}
use Rattle.world_core.specs.Told.{pads_told, sinks_told}
use Rattle.world_core.specs.declared.ended.WorldEnd.{WorldEnd}
use Rattle.world_core.specs.declared.report.Stop.{Stop}
use Rattle.world_core.proofs.AtHand.{MakesStreams}
use Rattle.world_core.proofs.Ending.{run_ended}
use Rattle.world_core.proofs.Files.{run_located}
use Rattle.world_core.proofs.Rested.{rested}
use Rattle.world_core.proofs.Settled.{IsTold}
use Rattle.world_core.proofs.Started.{started_at, started_once}

-- the failures of a source are those of its file
pub source_fails : {S : Type 0} (faults : S → ℕ) (x : SourceElement S) → source_faults faults x ≡ option_map faults (source_file x)
source_fails faults (File file) = refl
source_fails faults (Ramp ramp) = refl

-- what is told is so by what is equal
pub told_by : (made : List Made) (end : WorldEnd) {stop other : Stop} {counts pads : List Count} {lengths sizes : List ℕ} {entries : List Entry} → other ≡ stop → pads ≡ counts → sizes ≡ lengths
    → TellsEnd made other pads sizes entries end → TellsEnd made stop counts lengths entries end
told_by made end same pads sizes tells = record {
  status = tells.status ∙ ap stop_status same;
  fault = tells.fault ∙ ap (stop_fault made) same;
  entries_are = tells.entries_are;
  pads_are = tells.pads_are ∙ ap (pads_told made) pads;
  sinks_are = tells.sinks_are ∙ ap (sinks_told made) sizes;
}

module _ {S K I O L : Type 0} {giver : givers.Ghosts (StreamSource S)} {taker : elements.Ghosts (StreamElement K)} {i : inlets.Ghosts I L O} {o : outlets.Ghosts O L}
    (s : sources.Ghosts S) (k : sinks.Ghosts K) (are : MakesStreams s k giver taker)
    (taken : (x : StreamElement K) → taker.file x ≡ option_map k.location (file_in x)) (given : (x : StreamSource S) → giver.file x ≡ option_map s.location (source_file x.source))
    (graph : Graph) (first last : List (Task (StreamSource S) (StreamElement K) I O L giver taker i o))
    (rest : List (Option (StreamElement K))) (left : List (Option (End S K))) (tells : Option (List Lane)) (before : Seen)
    (started : IsStarted s k graph first rest left tells before) (framed : AllFramed first last) (count : length last ≡ length first) where
  abbrev run : HasRun s k graph first last rest left tells before
  run = record { started = started; framed = framed; count = count }

  -- where its files are
  pub made_located : (ends : List (Option (End S K))) → PutBack (GivesBack (made_in graph) last rest) left ends → AreLocated (made_in graph) (known_ends s k ends)
  made_located ends back = run_located s k graph first last rest left tells before run taken given ends back

  -- how it has ended
  pub made_ended : Laws giver taker i o k → ((x : StreamSource S) → giver.failures x ≡ option_map s.faults (source_file x.source)) → (ends : List (Option (End S K))) (end : WorldEnd)
      → {A : Type 0} (order : Order) (turns : Turns) (steps : List Step) (over : Option (List Lane)) (ran : Result A Stopped) (stop : Stop)
      → IfOk ran (λ done. (m : Moment) → NetStands m first tells → NetEnded m last steps over)
      → IfErr ran (λ stop. (m : Moment) → NetStands m first tells → NetFaulted m last stop.task stop.fault)
      → RunBy order 0 first tells turns (stop_of ran) last → StopsAs graph last steps (stop_of ran) stop → IsTold graph last rest left ends stop end → end.status ≢ 13
      → HasEnded graph before (KnownHold graph (known_ends s k ends)) (KnownFailed (known_ends s k ends)) end
  made_ended laws read_fails ends end order turns steps over ran stop ended faulted by stopped told some =
      run_ended s k laws graph first last rest left tells before run (started_once s k graph first rest left tells before started)
      (λ contents m settled. rested s k graph first rest left tells before started last contents m settled)
      (λ contents were. started_at s k graph first rest left tells before started are contents were)
      taken given read_fails ends end order turns steps over ran stop ended faulted by stopped told some
