-- What is told of a run of a script that has ended.
use Rattle.std.proofs.Common.{◌≡◌, ◌≢◌, ◌⊎◌, ◌*◌, ◌∙◌, ℕ, Bool, true, All, List, [], Option, None, Some, Result, IfErr, OnOk, refl, inl, inr, length, sym, ap, subst}
use Rattle.std.specs.Prelude.{slice_get, unwrap_or}
use Rattle.std.specs.Option.{option_map_or}
use Rattle.el_settings.specs.Asked.{location_of}
use Rattle.flow_model.specs.declared.element.TaskElement as elements
use Rattle.flow_model.specs.declared.source.TaskSource as givers
use Rattle.graph_core.specs.Elements.{Made}
use Rattle.graph_core.specs.Graph.{made as made_in}
use Rattle.graph_core.specs.declared.graph.Graph.{Graph}
use Rattle.graph_edits.specs.Graph.{made as made_of}
use Rattle.graph_edits.specs.declared.graph.EditedGraph.{EditedGraph}
use Rattle.graph_order.specs.Forward.{forward_of}
use Rattle.graph_parts.specs.Counts.{TasksCounted}
use Rattle.graph_parts.specs.Files.{opening_of}
use Rattle.graph_parts.specs.Put.{PutBack}
use Rattle.graph_parts.proofs.OwnFiles.{writer}
use Rattle.gst_value.proofs.Basics.{none_some, some_same}
use Rattle.graph_parts.specs.declared.counts.Count.{Count}
use Rattle.lane_core.specs.declared.ends.Inlet as inlets
use Rattle.lane_core.specs.declared.ends.Outlet as outlets
use Rattle.net_task.specs.declared.task.Task.{Task}
use Rattle.run_files.specs.declared.end.Opening.TheVariants.{Write}
use Rattle.run_report.specs.declared.report.Fault.TheVariants as faults
use Rattle.script_text.specs.declared.answer.Entry.{Entry}
use Rattle.script_text.specs.declared.command.Command.{Command}
use Rattle.task_parts.specs.declared.fault.TaskFault.{TaskFault}
use Rattle.task_parts.specs.declared.fault.TaskFault.TheVariants as tasks
use Rattle.turn_loop.specs.Turns.{GoesFrom}
use Rattle.turn_loop.specs.declared.taking.TakesTurns.{Ghosts}
use Rattle.turn_order.specs.declared.order.Order.{Order}
use Rattle.turn_order.specs.declared.turns.Turns.{Turns}
use Rattle.edit_core.specs.Deciding.{names_its_pad}
use Rattle.edit_acts.specs.Evaluated.{OweInOrder, RunsAreEvaluated as HistoriesAreEvaluated}
use Rattle.world_core.specs.Begins.{line_graph}
use Rattle.world_core.specs.Evaluated.{AreWhole, EndsWithDone, IsEditedReport, IsRunAt, IsRunOf, RunsAreEvaluated}
use Rattle.world_core.specs.Ran.{TellsEnd as TellsReport, stop_fault, stop_status}
use Rattle.world_core.specs.Running.{KeepsElements}
use Rattle.world_core.specs.Scripts.{FailsInEdit, LiveIn, ScriptStops, TellsEnd}
use Rattle.world_core.specs.Told.{pads_told, sinks_told, task_fault, task_status}
use Rattle.world_core.specs.declared.ended.WorldEnd.{WorldEnd}
use Rattle.world_core.specs.declared.report.Stop.{Stop}
use Rattle.world_core.specs.declared.report.Stop.TheVariants as stops
use Rattle.world_core.specs.declared.running.Ended.{Ended}
use Rattle.world_core.specs.declared.running.RunFault.{RunFault}
use Rattle.world_core.specs.declared.running.Running.{Running}
use Rattle.world_core.proofs.ScriptEnds.{HasMetIn, HasRunTo, faulty}
use Rattle.world_core.proofs.ScriptTold.{FilesTold, edited_report}

-- the fault that tasks met, if any
abbrev met_of : Stop → Option TaskFault
met_of (stops.Fault fault) = Some fault
met_of _ = None

-- the status of a fault is not that of a run that is stalled
no_stall : (fault : TaskFault) → task_status fault ≡ 12 → ⊥
no_stall (tasks.ReadFault n before after) e = cc
no_stall (tasks.WriteFault n before after) e = cc
no_stall (tasks.Stream n place kind) e = cc
no_stall (tasks.Caps n offered wanted) e = cc
no_stall (tasks.TooLong n a b) e = cc
no_stall (tasks.NotLinked p place) e = cc
no_stall tasks.OutOfMemory e = cc

module _ {S E I O L : Type 0} {s : givers.Ghosts S} {e : elements.Ghosts E} {i : inlets.Ghosts I L O} {o : outlets.Ghosts O L} (t : Ghosts (Running S E I O L s e i o) RunFault) (order : Order) (turns next : Turns)
    (goes : GoesFrom order 0 turns) (first last : Running S E I O L s e i o) (law : RunsAreEvaluated t) (owes : OweInOrder e) (contents : ℕ → List ℕ) (script : List Command) (graph : Graph)
    (names : All (λ c. names_its_pad c ≡ true) script) (w : IsRunOf contents script (line_graph graph) first) (ended : Ended S E I O L s e i o) where
  -- it is known where it stopped, or an element met a fault in an edit
  stopped_at : (ran : Result (Unit {0}) RunFault) (own : Stop) → ScriptStops ended ran own → OnOk ran (HasRunTo t turns next first last) → IfErr ran (HasMetIn t turns next first last)
      → IsRunAt contents script (line_graph graph) (met_of own) last ⊎ (EndsWithDone last.entries.items × (stop_status own ≢ 0) × (stop_status own ≢ 12))
  stopped_at _ _ (ScriptStops.at_fault stopped fault same) over met = by (law.stopped owes order 0 first last next contents script (line_graph graph) stopped (met order 0 goes) names w)
    where
      by : IsRunAt contents script (line_graph graph) (Some stopped.fault) last ⊎ EndsWithDone last.entries.items
          → IsRunAt contents script (line_graph graph) (Some fault) last ⊎ (EndsWithDone last.entries.items × (task_status fault ≢ 0) × (task_status fault ≢ 12))
      by (inl at) = inl (subst (λ (f : TaskFault). IsRunAt contents script (line_graph graph) (Some f) last) (sym same) at)
      by (inr done) = inr (done, faulty fault, no_stall fault)
  stopped_at _ _ (ScriptStops.over live live_is told) over met = inl (law.ended owes order 0 first last next contents script (line_graph graph) (over order 0 goes) names w)
  stopped_at _ _ (ScriptStops.stalled live told live_is other tells) over met = inl (law.ended owes order 0 first last next contents script (line_graph graph) (over order 0 goes) names w)

  module _ (histories : HistoriesAreEvaluated s e i o) (kept : KeepsElements first last) (line : made_of first.graph ≡ made_in graph) (tasks_are : ended.tasks ≡ last.tasks) (removed_is : ended.removed ≡ last.removed)
      (graph_is : ended.graph ≡ last.graph) (entries_are : ended.entries ≡ last.entries) (none mid counts : List Count) (size : length none ≡ length (made_in graph) * 64)
      (one : PutBack (TasksCounted ended.tasks.items) none mid) (other : PutBack (TasksCounted ended.removed.items) mid counts) (lengths : List ℕ) (Holds : (ℕ → List ℕ) → Type 0)
      (files : (met : Option TaskFault) (w : IsRunAt contents script (line_graph graph) met last) → met ≢ Some tasks.OutOfMemory → FilesTold histories owes contents script graph met last w lengths Holds)
      (whole : (w : IsRunAt contents script (line_graph graph) None last) (live : ℕ → Bool) → LiveIn ended.graph live → TellsEnd ended live → (forward : List ℕ) → AreWhole contents w.of.scripted.g forward w.of.scripted.m.history) where
    -- with status 0 no fault is told, and nothing is left
    faultless : (made : List Made) (own : Stop) → stop_status own ≡ 0 → stop_fault made own ≡ faults.Nothing
    faultless made (stops.Fault fault) none = absurd (faulty fault none)
    faultless made stops.Over none = refl
    faultless made (stops.Stalled command told) none = absurd (cc)

    all_whole : (ran : Result (Unit {0}) RunFault) (own : Stop) → ScriptStops ended ran own → (w : IsRunAt contents script (line_graph graph) (met_of own) last) → stop_status own ≡ 0 → (forward : List ℕ)
        → AreWhole contents w.of.scripted.g forward w.of.scripted.m.history
    all_whole _ _ (ScriptStops.at_fault stopped fault same) w none forward = absurd (faulty fault none)
    all_whole _ _ (ScriptStops.over live live_is told) w none forward = whole w live live_is told forward
    all_whole _ _ (ScriptStops.stalled live told live_is other tells) w none forward = absurd (cc)

    -- where a write failed that is told
    fails_so : (made : List Made) (own : Stop) (d : ℕ) (m : Made) (location : List ℕ) (a b : ℕ) → slice_get made d ≡ Some m → opening_of m.settings ≡ Some (Write location) → met_of own ≡ Some (tasks.WriteFault d a b)
        → stop_fault made own ≡ faults.WriteFault location a b
    fails_so made (stops.Fault fault) d m location a b at opens is =
        ap (λ (f : TaskFault). task_fault made f) (some_same is)
        ∙ ap (λ (l : List ℕ). faults.WriteFault l a b)
        (ap (λ (found : Option Made). option_map_or (λ (x : Made). unwrap_or (location_of x.settings) []) found []) at ∙ ap (λ (l : Option (List ℕ)). unwrap_or l []) (writer m.settings location opens).place)
    fails_so made stops.Over d m location a b at opens is = absurd (none_some is)
    fails_so made (stops.Stalled command told) d m location a b at opens is = absurd (none_some is)

    -- memory was not wanting where its status is another
    had_memory : (own : Stop) → stop_status own ≢ 13 → met_of own ≢ Some tasks.OutOfMemory
    had_memory (stops.Fault fault) other is = other (ap (λ (f : TaskFault). task_status f) (some_same is))
    had_memory stops.Over other is = none_some is
    had_memory (stops.Stalled command told) other is = none_some is

    -- so its report tells that
    pub script_reported : (ran : Result (Unit {0}) RunFault) (own : Stop) → ScriptStops ended ran own → OnOk ran (HasRunTo t turns next first last) → IfErr ran (HasMetIn t turns next first last)
        → (entries : List Entry) (end : WorldEnd) → entries ≡ ended.entries.items → TellsReport (made_of ended.graph) own counts lengths entries end → end.status ≢ 13
        → IsEditedReport contents graph script Holds end ⊎ FailsInEdit end
    script_reported ran own stops over met entries end same told some = by (stopped_at ran own stops over met)
      where
        entries_so : end.report.entries ≡ last.entries.items
        entries_so = told.entries_are ∙ same ∙ ap (λ es. es.items) entries_are

        by : IsRunAt contents script (line_graph graph) (met_of own) last ⊎ (EndsWithDone last.entries.items × (stop_status own ≢ 0) × (stop_status own ≢ 12))
            → IsEditedReport contents graph script Holds end ⊎ FailsInEdit end
        by (inr done) =
            inr (record {
              entries = subst (λ (es : List Entry). EndsWithDone es) (sym entries_so) done.0;
              failed = (λ none. done.1 (sym told.status ∙ none), λ stalled. done.2 (sym told.status ∙ stalled));
            })
        by (inl at) =
            let made_is : made_of last.graph ≡ at.of.scripted.g.made = ap (λ (edited : EditedGraph). made_of edited) at.graph ∙ at.of.scripted.has.current.edited.elements in
            let ended_is : made_of ended.graph ≡ at.of.scripted.g.made = ap (λ (edited : EditedGraph). made_of edited) graph_is ∙ made_is in
            let same_size : length (made_in graph) ≡ length at.of.scripted.g.made = ap length (sym (kept.made_of ∙ line) ∙ made_is) in
            inl (edited_report histories owes contents script graph (met_of own) last at none mid counts (size ∙ ap (λ (n : ℕ). n * 64) same_size)
            (subst (λ (ts : List (Task S E I O L s e i o)). PutBack (TasksCounted ts) none mid) (ap (λ ts. ts.items) tasks_are) one)
            (subst (λ (ts : List (Task S E I O L s e i o)). PutBack (TasksCounted ts) mid counts) (ap (λ ts. ts.items) removed_is) other)
            lengths Holds (files (met_of own) at (had_memory own (λ is. some (told.status ∙ is)))) end entries_so (told.pads_are ∙ ap (λ (made : List Made). pads_told made counts) ended_is)
            (told.sinks_are ∙ ap (λ (made : List Made). sinks_told made lengths) ended_is)
            (λ d m location a b here opens is. told.fault ∙ ap (λ (made : List Made). stop_fault made own) ended_is ∙ fails_so at.of.scripted.g.made own d m location a b here opens is)
            (λ none. told.fault ∙ faultless (made_of ended.graph) own (sym told.status ∙ none))
            (λ none. all_whole ran own stops at (sym told.status ∙ none) (forward_of at.was.graph.order)))
