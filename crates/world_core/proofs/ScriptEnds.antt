-- How a run of a script has ended, by what it leaves and what is told of that.
use Rattle.std.proofs.Common.{◌≡◌, ◌∙◌, ◌⊎◌, ℕ, true, false, All, List, Option, None, Some, Result, Ok, Err, IfErr, IfOk, OnOk, inl, inr, is_some, length, min, refl, sym, take, ap, subst}
use Rattle.std.proofs.lemmas.List.{take_min}
use Rattle.flow_model.specs.declared.element.TaskElement as elements
use Rattle.flow_model.specs.declared.source.TaskSource as givers
use Rattle.graph_core.specs.Elements.{Made}
use Rattle.graph_core.specs.Graph.{made as made_in}
use Rattle.graph_core.specs.declared.graph.Graph.{Graph}
use Rattle.graph_parts.specs.Files.{WereTold}
use Rattle.gst_outside.specs.Seen.{Seen}
use Rattle.lane_core.specs.declared.ends.Inlet as inlets
use Rattle.lane_core.specs.declared.ends.Outlet as outlets
use Rattle.net_task.specs.declared.task.Task.{Task}
use Rattle.net_turns.specs.declared.net.Stopped.{Stopped}
use Rattle.run_report.specs.declared.report.StalledTask.{StalledTask}
use Rattle.script_text.specs.declared.answer.Entry.{Entry}
use Rattle.script_text.specs.declared.command.Command.{Command}
use Rattle.task_parts.specs.declared.fault.TaskFault.{TaskFault}
use Rattle.task_parts.specs.declared.fault.TaskFault.TheVariants as tasks
use Rattle.task_parts.specs.declared.step.Step.{Step}
use Rattle.turn_loop.specs.Turns.{GoesFrom, HasEnded, HasFailed}
use Rattle.turn_loop.specs.declared.taking.TakesTurns.{Ghosts}
use Rattle.turn_order.specs.declared.order.Order.{Order}
use Rattle.turn_order.specs.declared.turns.Turns.{Turns}
use Rattle.edit_core.specs.Deciding.{names_its_pad}
use Rattle.edit_acts.specs.Scripted.{IsScripted}
use Rattle.world_core.specs.Begins.{line_graph}
use Rattle.world_core.specs.Evaluated.{IsEditedReport, IsRunOf}
use Rattle.world_core.specs.Ran.{stop_status}
use Rattle.world_core.specs.Running.{KeepsElements, view_of}
use Rattle.world_core.specs.Scripts.{AnswersScript, FailsInEdit, RunsAnswer, RunsKeep, ScriptEnded, ScriptStops}
use Rattle.world_core.specs.Stalled.{TellsTasks}
use Rattle.world_core.specs.Told.{task_status}
use Rattle.world_core.specs.declared.ended.WorldEnd.{WorldEnd}
use Rattle.world_core.specs.declared.report.Stop.{Stop}
use Rattle.world_core.specs.declared.report.Stop.TheVariants as stops
use Rattle.world_core.specs.declared.running.Ended.{Ended}
use Rattle.world_core.specs.declared.running.RunFault.{RunFault}
use Rattle.world_core.specs.declared.running.RunFault.TheVariants.{Stopped as AtFault}
use Rattle.world_core.specs.declared.running.Running.{Running}

-- the status of a fault is not 0
pub faulty : (fault : TaskFault) → task_status fault ≡ 0 → ⊥
faulty (tasks.ReadFault n before after) e = cc
faulty (tasks.WriteFault n before after) e = cc
faulty (tasks.Stream n place kind) e = cc
faulty (tasks.Caps n offered wanted) e = cc
faulty (tasks.TooLong n a b) e = cc
faulty (tasks.NotLinked p place) e = cc
faulty tasks.OutOfMemory e = cc

-- what is told of an answer, where it is known which that is
pub told_so : {A W : Type 0} (found : Result A W) (own : A) → found ≡ Ok own → (P : A → Type 0) → IfOk found P → P own
told_so found own is P told = subst (λ (r : Result _ _). IfOk r P) is told

-- whether there is one
pub some_none : {A : Type 0} (found : Option A) → is_some found ≡ true → found ≡ None → ⊥
some_none None so none = absurd cc
some_none (Some x) so none = absurd cc

pub none_there : {A : Type 0} (found : Option A) → is_some found ≡ false → found ≡ None
none_there None so = refl
none_there (Some x) so = absurd cc

module _ {S E I O L : Type 0} {s : givers.Ghosts S} {e : elements.Ghosts E} {i : inlets.Ghosts I L O} {o : outlets.Ghosts O L} where
  -- it stopped at a fault that a task met
  pub stops_at_fault : (ended : Ended S E I O L s e i o) (ran : Result (Unit {0}) RunFault) (why : RunFault) → ran ≡ Err why → {W : Type 0} (found : Result Stop W)
      → IfOk found (λ stop. (stopped : Stopped) × (why ≡ AtFault stopped) × (stop ≡ stops.Fault stopped.fault)) → IfOk found (ScriptStops ended ran)
  stops_at_fault ended ran why is (Ok stop) told =
      subst (λ (r : Result (Unit {0}) RunFault). ScriptStops ended r stop) (sym (is ∙ ap (λ (w : RunFault). Err w) told.1))
      (subst (λ (s : Stop). ScriptStops ended (Err (AtFault told.0)) s) (sym told.2) (ScriptStops.at_fault told.0 told.0.fault refl))
  stops_at_fault ended ran why is (Err none) told = tt

  -- of the first tasks is told why they can't move, and of no more than there are
  pub told_turns : (made line : List Made) (tasks lent : List (Task S E I O L s e i o)) (steps answered : List Step) (turns least count : ℕ) → made ≡ line → lent ≡ tasks → answered ≡ steps
      → length steps ≡ length tasks → least ≡ min turns count → count ≡ length tasks → {W : Type 0} (found : Result (List StalledTask) W) → IfOk found (TellsTasks made (take least lent) (take least answered))
      → IfOk found (TellsTasks line (take turns tasks) (take turns steps))
  told_turns made line tasks lent steps answered turns least count made_is lent_is answered_is size least_is count_is found told =
      let first : take least lent ≡ take turns tasks =
      ap (λ (ts : List (Task S E I O L s e i o)). take least ts) lent_is ∙ ap (λ (n : ℕ). take n tasks) (least_is ∙ ap (λ (n : ℕ). min turns n) count_is) ∙ take_min turns tasks in
      let behind : take least answered ≡ take turns steps =
      ap (λ (xs : List Step). take least xs) answered_is ∙ ap (λ (n : ℕ). take n steps) (least_is ∙ ap (λ (n : ℕ). min turns n) (count_is ∙ sym size)) ∙ take_min turns steps in
      subst (λ (ms : List Made). IfOk found (TellsTasks ms (take turns tasks) (take turns steps))) made_is
      (subst (λ (ts : List (Task S E I O L s e i o)). IfOk found (TellsTasks made ts (take turns steps))) first
      (subst (λ (xs : List Step). IfOk found (TellsTasks made (take least lent) xs)) behind told))

  -- where a run by turns has come to, from an order's first number on
  abbrev pub HasRunTo : Ghosts (Running S E I O L s e i o) RunFault → Turns → Turns → Running S E I O L s e i o → Running S E I O L s e i o → Type 0
  HasRunTo t turns next first last = (order : Order) (start : ℕ) → GoesFrom order start turns → HasEnded t order start first next last

  abbrev pub HasMetIn : Ghosts (Running S E I O L s e i o) RunFault → Turns → Turns → Running S E I O L s e i o → Running S E I O L s e i o → RunFault → Type 0
  HasMetIn t turns next first last fault = (order : Order) (start : ℕ) → GoesFrom order start turns → HasFailed t order start first next last fault

  module _ (t : Ghosts (Running S E I O L s e i o) RunFault) (order : Order) (turns next : Turns) (goes : GoesFrom order 0 turns) (first last : Running S E I O L s e i o) where
    -- its elements stay
    pub run_kept : RunsKeep t → (ran : Result (Unit {0}) RunFault) → OnOk ran (HasRunTo t turns next first last) → IfErr ran (HasMetIn t turns next first last) → KeepsElements first last
    run_kept law (Ok done) over met = law.ended order 0 first last next (over order 0 goes)
    run_kept law (Err fault) over met = law.failed order 0 first last next fault (met order 0 goes)

    -- each task was tried where it ended
    pub run_tried : RunsAnswer t → (ran : Result (Unit {0}) RunFault) → OnOk ran (HasRunTo t turns next first last) → ran ≡ Ok tt → length last.steps.items ≡ length last.tasks.items
    run_tried law (Ok done) over is = law.tried order 0 first last next (over order 0 goes)
    run_tried law (Err fault) over is = absurd cc

    module _ (law : RunsAnswer t) (graph : Graph) (script : List Command) (script_is : first.script.items ≡ script) (ended : Ended S E I O L s e i o) (entries_are : ended.entries ≡ last.entries)
        (all : ended.waits ≡ None → length last.entries.items ≡ length last.script.items) where
      -- with status 0 each command was answered
      all_answered : (ran : Result (Unit {0}) RunFault) (own : Stop) → ScriptStops ended ran own → OnOk ran (HasRunTo t turns next first last) → stop_status own ≡ 0
          → length ended.entries.items ≡ length script
      all_answered _ _ (ScriptStops.at_fault stopped fault same) over none = absurd (faulty fault none)
      all_answered _ _ (ScriptStops.over live live_is told) over none =
          ap (λ entries. length entries.items) entries_are ∙ all told.0 ∙ ap length (law.kept order 0 first last next (over order 0 goes) ∙ script_is)
      all_answered _ _ (ScriptStops.stalled live told live_is other tells) over none = absurd cc

      -- and the entries answer the first commands
      entries_answer : (ran : Result (Unit {0}) RunFault) (own : Stop) → ScriptStops ended ran own → OnOk ran (HasRunTo t turns next first last) → IfErr ran (HasMetIn t turns next first last)
          → All (λ c. names_its_pad c ≡ true) script → IsScripted script (line_graph graph) (view_of first) → AnswersScript graph script last.entries.items
      entries_answer _ _ (ScriptStops.at_fault stopped fault same) over met names w = law.stopped order 0 first last next graph script stopped (met order 0 goes) names w
      entries_answer _ _ (ScriptStops.over live live_is told) over met names w = law.ended order 0 first last next graph script (over order 0 goes) names w
      entries_answer _ _ (ScriptStops.stalled live told live_is other tells) over met names w = law.ended order 0 first last next graph script (over order 0 goes) names w

      pub script_ended : (before : Seen) (Holds : (ℕ → List ℕ) → Type 0) → ((contents : ℕ → List ℕ) → WereTold (made_in graph) before contents → IsRunOf contents script (line_graph graph) first)
          → (ran : Result (Unit {0}) RunFault) (own : Stop) → ScriptStops ended ran own → OnOk ran (HasRunTo t turns next first last) → IfErr ran (HasMetIn t turns next first last)
          → (end : WorldEnd) → end.status ≡ stop_status own → end.report.entries ≡ ended.entries.items
          → ((contents : ℕ → List ℕ) → IsRunOf contents script (line_graph graph) first → All (λ c. names_its_pad c ≡ true) script → IsEditedReport contents graph script Holds end ⊎ FailsInEdit end)
          → ScriptEnded graph script before Holds end
      script_ended before Holds evaluated ran own stops over met end status told reported = record {
        all = λ none. ap length told ∙ all_answered ran own stops over (sym status ∙ none);
        answered = λ contents were names.
            subst (λ (entries : List Entry). AnswersScript graph script entries) (sym (told ∙ ap (λ entries. entries.items) entries_are))
            (entries_answer ran own stops over met names (evaluated contents were).evaluated.scripted);
        told = λ contents were names. reported contents (evaluated contents were) names;
      }

-- the same is told of a run by what is known otherwise of its files
pub script_with : (graph : Graph) (script : List Command) (before : Seen) (Holds Other : (ℕ → List ℕ) → Type 0) (end : WorldEnd) → ((b : ℕ → List ℕ) → Holds b → Other b) → ScriptEnded graph script before Holds end
    → ScriptEnded graph script before Other end
script_with graph script before Holds Other end more ended = record { all = ended.all; answered = ended.answered; told = λ contents were names. by contents (ended.told contents were names) }
  where
    by : (contents : ℕ → List ℕ) → IsEditedReport contents graph script Holds end ⊎ FailsInEdit end → IsEditedReport contents graph script Other end ⊎ FailsInEdit end
    by contents (inr fails) = inr fails
    by contents (inl one) = inl (record {
      last = one.last;
      forward = one.forward;
      order = one.order;
      h = one.h;
      evaluated = one.evaluated;
      answered = one.answered;
      falls = one.falls;
      pads = one.pads;
      bytes = one.bytes;
      sinks = one.sinks;
      files = more one.bytes one.files;
      written = one.written;
      faultless = one.faultless;
      whole = one.whole;
    })
