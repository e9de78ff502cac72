-- How the moment of a run that commands edit goes with the evaluation of its graph.
use Rattle.std.specs.Prelude.{◌≡◌, ◌≤◌, ◌<◌, ◌%◌, ◌++◌, ℕ, Bool, true, false, List, [], length, map}
use Rattle.flow_model.specs.Call.{Call}
use Rattle.flow_model.specs.Eval.{eval}
use Rattle.flow_model.specs.Item.{Item}
use Rattle.flow_model.specs.Link.{input_of}
use Rattle.flow_model.specs.Moment.{Behavior, Moment}
use Rattle.flow_model.specs.Prefix.{ArePrefixes, IsPrefix}
use Rattle.flow_model.specs.Whole.{OwesInOrder}
use Rattle.flow_model.specs.declared.element.TaskElement as elements
use Rattle.flow_model.specs.declared.source.TaskSource as sources
use Rattle.graph_core.specs.Elements.{limit}
use Rattle.graph_core.specs.GraphPlan.{most_pads}
use Rattle.graph_edits.specs.Edited.{Edited, is_there}
use Rattle.graph_edits.specs.Lawful.{owed_by}
use Rattle.graph_edits.specs.Plans.{IsOrder, edited_plan, edited_rule, is_asleep}
use Rattle.graph_edits.specs.Refused.{has_lanes}
use Rattle.graph_parts.specs.Pads.{is_pad}
use Rattle.lane_core.specs.declared.ends.Inlet as inlets
use Rattle.lane_core.specs.declared.ends.Outlet as outlets
use Rattle.net_edits.specs.Adding.{owes_just}
use Rattle.net_turns.specs.Rests.{NetEnded, NetRests}
use Rattle.net_turns.specs.Turns.{AreTried, IsStepped}
use Rattle.script_text.specs.declared.command.Command.{Command}
use Rattle.task_parts.specs.declared.step.Step.{Step}
use Rattle.edit_core.specs.Deciding.{names_its_pad}
use Rattle.edit_core.specs.Whole.{moment_plan, owner_in}
use Rattle.edit_acts.specs.Planned.{givens}
use Rattle.edit_acts.specs.Scripted.{Has, IsActed, IsScripted, KeepsControl, ScriptRun}

-- An element that was taken away took just these lists, and owes what crossed its pads. By its own rule that begins what it owed for them, and that is due to its
-- pads; they begin what its links gave it, or are all of that where no lanes feed
-- it, and it would owe no less for more.
pub record IsGone (contents : ℕ → List ℕ) (g : Edited) (m : Moment) (due : ℕ → List Item) (a : ℕ) : Type 0 where
  pub cut : ℕ → List Item
  pub took : List (List Call)
  pub rule : m.plan.rule a ≡ owes_just cut
  pub sinks : m.plan.sinks a ≡ givens took
  pub owes : (p : ℕ) → owner_in g.made p ≡ a → IsPrefix (cut (p % most_pads)) (due p)
  pub due_is : (p : ℕ) → owner_in g.made p ≡ a → due p ≡ edited_rule contents g a took (p % most_pads) 0
  pub begins : ArePrefixes took (map (input_of m.history) (g.spans a))
  pub whole : has_lanes g a ≡ false → took ≡ map (input_of m.history) (g.spans a)
  pub in_order : OwesInOrder (edited_rule contents g a) took

-- The plan of a moment is that by which the edited graph is evaluated: pads are those of their elements, and each element that is there owes by its own rule. No
-- source is asleep. To a number without a pad nothing is due.
pub record FitsPlan (contents : ℕ → List ℕ) (g : Edited) (m : Moment) (due : ℕ → List Item) : Type 0 where
  pub owner : (p : ℕ) → m.plan.owner p ≡ owner_in g.made p
  pub port : (p : ℕ) → m.plan.port p ≡ p % most_pads
  pub rules : (a : ℕ) → is_there g a ≡ true → m.plan.rule a ≡ (moment_plan contents g).rule a
  pub awake : (a : ℕ) → is_asleep g a ≡ false
  pub gone : (a : ℕ) → a < length g.made → is_there g a ≡ false → IsGone contents g m due a
  pub bare : (p : ℕ) → is_pad g.made p ≡ false → due p ≡ []

-- for what it took an element owes a beginning of what it owes for more
abbrev pub OweInOrder : {E : Type 0} → elements.Ghosts E → Type 0
OweInOrder {E} e = (element : E) (behavior : Behavior) (took : List (List Call)) → e.stands element behavior took → OwesInOrder behavior.owes took

module _ {S E I O L : Type 0} {s : sources.Ghosts S} {e : elements.Ghosts E} {i : inlets.Ghosts I L O} {o : outlets.Ghosts O L} where
  -- A run of a script fits the evaluation of its graph, by these contents of what its sources read.
  pub record IsEvaluated (contents : ℕ → List ℕ) (script : List Command) (first : Edited) (run : ScriptRun s e i o) : Type 0 where
    pub scripted : IsScripted script first run
    pub fits : FitsPlan contents scripted.g scripted.m scripted.due
    pub few : length scripted.g.made ≤ limit

module _ {S E I O L : Type 0} {s : sources.Ghosts S} {e : elements.Ghosts E} {i : inlets.Ghosts I L O} {o : outlets.Ghosts O L}
    (contents : ℕ → List ℕ) (script : List Command) (first : Edited) (was is : ScriptRun s e i o) (w : IsEvaluated contents script first was) where
  -- Behind an answer it fits that too, with the graph and at the moment that the answer leaves.
  pub record GoesOnAnswered (acted : IsActed was is) (names : names_its_pad acted.command ≡ true) : Type 0 where
    pub run : IsEvaluated contents script first is
    pub graph : run.scripted.g ≡ (acted.answered w.scripted.g w.scripted.m names w.scripted.has).next
    pub moment : run.scripted.m ≡ (acted.answered w.scripted.g w.scripted.m names w.scripted.has).now
    pub took : (a : ℕ) → a < length run.scripted.g.made → is_there run.scripted.g a ≡ false → run.scripted.m.took a ≡ w.scripted.m.took a

  -- And so it does behind a turn, with the same graph: nothing more has crossed the pads of elements that are gone, and they took no more.
  pub record GoesOnTurned : Type 0 where
    pub run : IsEvaluated contents script first is
    pub graph : run.scripted.g ≡ w.scripted.g
    pub owner : run.scripted.m.plan.owner ≡ w.scripted.m.plan.owner
    pub crossed : (p : ℕ) → is_pad w.scripted.g.made p ≡ true → is_there w.scripted.g (w.scripted.m.plan.owner p) ≡ false → run.scripted.m.history p ≡ w.scripted.m.history p
    pub took : (a : ℕ) → a < length w.scripted.g.made → is_there w.scripted.g a ≡ false → run.scripted.m.took a ≡ w.scripted.m.took a

  -- Where each task was tried and none can move, it fits that at the moment at which they rest, for the reasons that they answered.
  pub record RestsEvaluated (steps : List Step) : Type 0 where
    pub goes : GoesOnTurned
    pub rests : NetRests (λ k. Unit {0}) goes.run.scripted.m is.tasks steps is.tells

module _ {S E I O L : Type 0} (s : sources.Ghosts S) (e : elements.Ghosts E) (i : inlets.Ghosts I L O) (o : outlets.Ghosts O L) where
  -- So it stays when the next command is answered, where it names its pad if it acts on one.
  abbrev pub ActsKeepEvaluated : Type 0
  ActsKeepEvaluated = OweInOrder e → (contents : ℕ → List ℕ) (script : List Command) (first : Edited) (was is : ScriptRun s e i o) (w : IsEvaluated contents script first was)
      (acted : IsActed was is) (names : names_its_pad acted.command ≡ true) → GoesOnAnswered contents script first was is w acted names

  -- So it stays in a turn, and where each task is tried.
  pub record TurnsKeepEvaluated : Type 0 where
    pub step : (contents : ℕ → List ℕ) (script : List Command) (first : Edited) (was is : ScriptRun s e i o) (place : ℕ) (step : Step) (w : IsEvaluated contents script first was)
        → IsStepped place step was.tasks is.tasks was.tells is.tells → KeepsControl was is → GoesOnTurned contents script first was is w
    pub trial : (contents : ℕ → List ℕ) (script : List Command) (first : Edited) (was is : ScriptRun s e i o) (place : ℕ) (moved : Bool) (w : IsEvaluated contents script first was)
        → AreTried was.tasks was.tells place moved is.tasks is.tells → KeepsControl was is → GoesOnTurned contents script first was is w
    pub rest : (contents : ℕ → List ℕ) (script : List Command) (first : Edited) (was is : ScriptRun s e i o) (place : ℕ) (moved : Bool) (steps : List Step) (w : IsEvaluated contents script first was)
        → AreTried was.tasks was.tells place moved is.tasks is.tells → NetEnded w.scripted.m is.tasks steps is.tells → KeepsControl was is → RestsEvaluated contents script first was is w steps

  -- What crossed the pads at any moment of such a run is what the evaluation of its graph gives, cut at these counts; and what is due to a pad begins what is owed to it by these
  -- histories.
  pub record RunsAreEvaluated : Type 0 where
    pub histories : OweInOrder e → (contents : ℕ → List ℕ) (forward : List ℕ) (g : Edited) (m : Moment) (due : ℕ → List Item) (run : ScriptRun s e i o) → Has run g m → FitsPlan contents g m due
        → length g.made ≤ limit → IsOrder g forward → (p : ℕ) → is_pad g.made p ≡ true → eval (edited_plan contents g forward (λ q. length (m.history q))) p ≡ m.history p
    pub due : OweInOrder e → (contents : ℕ → List ℕ) (forward : List ℕ) (g : Edited) (m : Moment) (due : ℕ → List Item) (run : ScriptRun s e i o) → Has run g m → FitsPlan contents g m due
        → ((p : ℕ) → is_there g (m.plan.owner p) ≡ true → IsPrefix (due p) (m.history p ++ m.waits p)) → (p : ℕ) → IsPrefix (due p) (owed_by (edited_plan contents g forward (λ q. length (m.history q))) m.history p)
    -- and an element that no lanes feed took all that its links gave it
    pub took : (contents : ℕ → List ℕ) (g : Edited) (m : Moment) (due : ℕ → List Item) (run : ScriptRun s e i o) → Has run g m → FitsPlan contents g m due
        → (a : ℕ) → a < length g.made → has_lanes g a ≡ false → m.took a ≡ map (input_of m.history) (g.spans a)
