-- How a run has ended, by what its tasks answered.
use Rattle.std.proofs.Common.{◌≡◌, ◌≢◌, ◌<◌, ℕ, List, Option, None, Some, Result, Ok, Err, IfOk, IfErr, refl, sym, ap, subst, inl, inr}
use Rattle.std.specs.Option.{option_map, option_map_or}
use Rattle.std.proofs.lemmas.Option.{none-some, same_Some}
use Rattle.el_set.specs.Gives.{source_file}
use Rattle.flow_model.specs.declared.element.TaskElement as elements
use Rattle.flow_model.specs.declared.source.TaskSource as givers
use Rattle.el_settings.specs.Asked.{source_pads}
use Rattle.graph_core.specs.Elements.{Made}
use Rattle.graph_core.specs.GraphPlan.{pad_id}
use Rattle.graph_core.specs.Graph.{made as made_in, links as links_in}
use Rattle.graph_core.specs.declared.graph.Graph.{Graph}
use Rattle.graph_tasks.specs.Runs.{RunsAt}
use Rattle.graph_tasks.specs.Stalled.{lane_at}
use Rattle.graph_parts.proofs.Sources.{place_is_pad}
use Rattle.graph_parts.specs.Files.{WereTold}
use Rattle.graph_parts.specs.Plans.{moment_answers, moment_plan}
use Rattle.graph_core.specs.LinkedOnce.{AreOnce}
use Rattle.gst_outside.specs.Seen.{Seen}
use Rattle.gst_outside.specs.declared.sink.Sink as sinks
use Rattle.gst_outside.specs.declared.source.Source as sources
use Rattle.lane_core.specs.Lane.{Lane}
use Rattle.lane_core.specs.declared.ends.Inlet as inlets
use Rattle.lane_core.specs.declared.ends.Outlet as outlets
use Rattle.flow_model.specs.Moment.{Moment}
use Rattle.flow_model.specs.Opening.{opening}
use Rattle.net_task.specs.declared.task.Task.{Task}
use Rattle.net_turns.specs.Alone.{HoldLanes}
use Rattle.net_turns.specs.Net.{NetStands}
use Rattle.net_turns.specs.Rests.{NetEnded, NetFaulted}
use Rattle.net_turns.specs.Turns.{RunBy, stop_of}
use Rattle.net_turns.specs.declared.net.Stopped.{Stopped}
use Rattle.run_files.specs.Ends.{known_ends}
use Rattle.run_files.specs.declared.end.End.{End}
use Rattle.task_elements.specs.Stands.{file_in}
use Rattle.task_elements.specs.declared.element.StreamElement.{StreamElement}
use Rattle.task_elements.specs.declared.source.StreamSource.{StreamSource}
use Rattle.task_parts.specs.declared.fault.TaskFault.{TaskFault}
use Rattle.task_parts.specs.declared.step.Step.{Step}
use Rattle.turn_order.specs.declared.order.Order.{Order}
use Rattle.turn_order.specs.declared.turns.Turns.{Turns}
use Rattle.world_core.specs.Ended.{HasEnded}
use Rattle.world_core.specs.Laws.{Laws}
use Rattle.world_core.specs.Ran.{KnownFailed, KnownHold, StopsAs}
use Rattle.world_core.specs.Stopped.{HasRun}
use Rattle.world_core.specs.declared.ended.WorldEnd.{WorldEnd}
use Rattle.world_core.specs.declared.report.Stop.{Stop}
use Rattle.world_core.specs.declared.report.Stop.TheVariants as stops
use Rattle.world_core.proofs.FaultEnds.{met_ends}
use Rattle.world_core.proofs.Files.{have_bags}
use Rattle.world_core.proofs.FirstRows.{first_rows}
use Rattle.world_core.proofs.Held.{RestHasCame}
use Rattle.world_core.proofs.Meeting.{Met, is_met, met_by}
use Rattle.world_core.proofs.PadCounts.{items_are, items_at}
use Rattle.world_core.proofs.Settled.{IsSettled, IsTold}
use Rattle.world_core.proofs.Stopping.{bags_before, is_faulted, is_over, is_stalled}

module _ {S K I O L : Type 0} {giver : givers.Ghosts (StreamSource S)} {taker : elements.Ghosts (StreamElement K)} {i : inlets.Ghosts I L O} {o : outlets.Ghosts O L}
    (s : sources.Ghosts S) (k : sinks.Ghosts K) (laws : Laws giver taker i o k) (graph : Graph)
    (first last : List (Task (StreamSource S) (StreamElement K) I O L giver taker i o))
    (rest : List (Option (StreamElement K))) (left : List (Option (End S K))) (tells : Option (List Lane)) (before : Seen)
    (run : HasRun s k graph first last rest left tells before) (once : AreOnce (links_in graph))
    (rested : (contents : ℕ → List ℕ) (m : Moment) → IsSettled contents graph run.started.bags m last → RestHasCame k graph last rest m)
    (started : (contents : ℕ → List ℕ) → WereTold (made_in graph) before contents
    → RunsAt contents graph run.started.bags (opening (moment_plan contents graph) (moment_answers graph)) first tells)
    (taken : (x : StreamElement K) → taker.file x ≡ option_map k.location (file_in x)) (given : (x : StreamSource S) → giver.file x ≡ option_map s.location (source_file x.source))
    (read_fails : (x : StreamSource S) → giver.failures x ≡ option_map s.faults (source_file x.source))
    (ends : List (Option (End S K))) (end : WorldEnd) where
  abbrev Ended : Type 0
  Ended = HasEnded graph before (KnownHold graph (known_ends s k ends)) (KnownFailed (known_ends s k ends)) end

  -- at a fault
  fault_ended : (order : Order) (turns : Turns) (stop : Stopped) → RunBy order 0 first tells turns (Some stop.fault) last
      → ((m : Moment) → NetStands m first tells → NetFaulted m last stop.task stop.fault) → IsTold graph last rest left ends (stops.Fault stop.fault) end → end.status ≢ 13
      → Ended
  fault_ended order turns stop ran faulted told some =
      met_ends s k graph first last rest left tells before run taken given laws.streams.failures read_fails ends stop.fault end told
      (λ contents were. is_faulted s k laws graph first last rest left tells before run once rested contents stop.task stop.fault
      (faulted (opening (moment_plan contents graph) (moment_answers graph)) (started contents were).net))
      (items_at told.counts)
      (λ contents f source one at there. items_are graph run.started.bags f.m last told.none told.counts told.zeros told.room told.counted
      (have_bags s k graph first last rest left tells before run) f.settled.crossed f.settled.quiet (pad_id source)
      (place_is_pad (made_in graph) source (subst (λ (found : Option Made). source.pad < option_map_or (λ (m : Made). source_pads m.settings) found 0) (sym at) there)))
      stop.fault
      (is_met (made_in graph) (links_in graph) last rest own.place own.met.before own.met.after stop.fault own.met.at_after own.met.frame
      (laws.causes graph run.started.bags own.was run.started.sound run.started.bags_are.are
      (bags_before graph run.started.bags last
      (record { place = own.place; was = own.was; before = own.met.before; after = own.met.after; others = own.met.others; at = own.met.at; at_after = own.met.at_after; frame = own.met.frame })
      (have_bags s k graph first last rest left tells before run))
      own.place own.met.before own.met.after stop.fault own.met.at own.met.frame own.met.cause))
      refl some
    where
      own : Met stop.fault last
      own = met_by order 0 ran.number first last tells (Some stop.fault) stop.fault ran.run refl

  -- the rows of the heads stay as they began
  rows_stay : (order : Order) (turns : Turns) → RunBy order 0 first tells turns None last → (contents : ℕ → List ℕ) → WereTold (made_in graph) before contents
      → HoldLanes (lane_at (made_in graph) (links_in graph)) last
  rows_stay order turns ran contents were =
      laws.rows (lane_at (made_in graph) (links_in graph)) (opening (moment_plan contents graph) (moment_answers graph)) order 0 first last tells turns (started contents were).net
      (first_rows (made_in graph) (links_in graph) run.started.elements_in run.started.sources_in run.started.bags first run.started.table run.started.tasks_are) ran

  -- where no task can move
  rest_ended : (order : Order) (turns : Turns) (steps : List Step) (over : Option (List Lane)) (met : Option TaskFault) (stop : Stop) → StopsAs graph last steps met stop → met ≡ None
      → ((m : Moment) → NetStands m first tells → NetEnded m last steps over) → RunBy order 0 first tells turns None last → IsTold graph last rest left ends stop end → Ended
  rest_ended order turns steps over met stop (StopsAs.at_fault fault) none ended ran told = absurd (none-some fault (sym none))
  rest_ended order turns steps over met stop (StopsAs.over tells_over) none ended ran told =
      inl (is_over s k laws graph first last rest left tells before run once rested taken given ends end stops.Over told steps over
      (λ contents were. ended (opening (moment_plan contents graph) (moment_answers graph)) (started contents were).net) refl tells_over)
  rest_ended order turns steps over met stop (StopsAs.stalled tasks not_over tells_tasks) none ended ran told =
      inr (inr (inr (inr (inr (inr
      (is_stalled s k laws graph first last rest left tells before run once rested taken given ends end (stops.Stalled None tasks) told steps over
      (λ contents were. ended (opening (moment_plan contents graph) (moment_answers graph)) (started contents were).net) tasks refl not_over tells_tasks
      (rows_stay order turns ran)))))))

  pub run_ended : {A : Type 0} (order : Order) (turns : Turns) (steps : List Step) (over : Option (List Lane)) (ran : Result A Stopped) (stop : Stop)
      → IfOk ran (λ done. (m : Moment) → NetStands m first tells → NetEnded m last steps over)
      → IfErr ran (λ stop. (m : Moment) → NetStands m first tells → NetFaulted m last stop.task stop.fault)
      → RunBy order 0 first tells turns (stop_of ran) last → StopsAs graph last steps (stop_of ran) stop → IsTold graph last rest left ends stop end → end.status ≢ 13 → Ended
  run_ended order turns steps over (Ok done) stop ended faulted by stopped told some = rest_ended order turns steps over None stop stopped refl ended by told
  run_ended order turns steps over (Err why) stop ended faulted by stopped told some =
      fault_ended order turns why by faulted (subst (λ (x : Stop). IsTold graph last rest left ends x end) (at_its_fault (Some why.fault) stop stopped refl) told) some
    where
      at_its_fault : (met : Option TaskFault) (how : Stop) → StopsAs graph last steps met how → met ≡ Some why.fault → how ≡ stops.Fault why.fault
      at_its_fault met how (StopsAs.at_fault fault) is = ap (λ (f : TaskFault). stops.Fault f) (same_Some fault why.fault is)
      at_its_fault met how (StopsAs.over tells_over) is = absurd (none-some why.fault is)
      at_its_fault met how (StopsAs.stalled tasks not_over tells_tasks) is = absurd (none-some why.fault is)
