-- A run that the commands of a script edit: how it goes on, and what holds of it from its start on.
use Rattle.std.specs.Prelude.{◌≡◌, ◌≤◌, ◌++◌, ℕ, Bool, true, false, List, [], ◌∷◌, All, Option, Some, drop, length, option_and_then, slice_get}
use Rattle.std.specs.List.{position_or_len}
use Rattle.flow_model.specs.Item.{Item}
use Rattle.flow_model.specs.Prefix.{IsPrefix}
use Rattle.gst_item.specs.Sticky.{has_flush_stop}
use Rattle.gst_value.specs.declared.name.PadName.{PadName}
use Rattle.graph_core.specs.Elements.{Made, is_named}
use Rattle.graph_core.specs.GraphPlan.{pad_id}
use Rattle.graph_edits.specs.declared.graph.EditedGraph.{EditedGraph}
use Rattle.graph_pads.specs.declared.pad.Direction.TheVariants.{Source}
use Rattle.graph_pads.specs.declared.pad.PadPlace.{PadPlace}
use Rattle.lane_core.specs.Lane.{Lane}
use Rattle.lane_core.specs.declared.ends.Inlet as inlets
use Rattle.lane_core.specs.declared.ends.Outlet as outlets
use Rattle.flow_model.specs.Moment.{Moment}
use Rattle.flow_model.specs.declared.element.TaskElement as elements
use Rattle.flow_model.specs.declared.source.TaskSource as sources
use Rattle.net_task.specs.declared.task.Task.{Task}
use Rattle.net_turns.specs.Turns.{AreTried, IsStepped}
use Rattle.script_text.specs.declared.answer.Answer.{Answer}
use Rattle.script_text.specs.declared.answer.Answer.TheVariants.{Done, Refused, Unreached}
use Rattle.script_text.specs.declared.answer.Entry.{Entry}
use Rattle.script_text.specs.declared.answer.Place.{Place}
use Rattle.script_text.specs.declared.command.Command.{Command}
use Rattle.task_parts.specs.declared.step.Step.{Step}
use Rattle.graph_edits.specs.Edited.{Edited, is_there}
use Rattle.graph_edits.specs.Growing.{IsKept}
use Rattle.graph_edits.specs.Lawful.{AreAnswered, IsAnswered, NeverFall, places_of}
use Rattle.graph_edits.specs.Names.{pad_in}
use Rattle.edit_core.specs.Deciding.{IsReached, TellsFirst, TellsPlace, names_its_pad}
use Rattle.edit_core.specs.Judging.{owed_then}
use Rattle.edit_core.specs.declared.feeds.Feeds.{Feeds}
use Rattle.edit_acts.specs.Controlled.{IsControlled}
use Rattle.edit_acts.specs.Planned.{KeepsPlan}

-- ---- places

-- the source pad that a name was given, also where its element was removed since
abbrev pub pad_once_named : List Made → PadName → Option PadPlace
pad_once_named made name = option_and_then (pad_in Source name.pad (position_or_len (is_named name.element) made)) (slice_get made (position_or_len (is_named name.element) made))

-- so many items have crossed the source pad of a place at least
pub record IsPassed (made : List Made) (h : ℕ → List Item) (place : Place) : Type 0 where
  pub source : PadPlace
  pub named : pad_once_named made place.pad ≡ Some source
  pub crossed : place.items ≤ length (h (pad_id source))

-- so it is of each place that entries name
abbrev pub ArePassed : List Made → (ℕ → List Item) → List Entry → Type 0
ArePassed made h entries = (j a : ℕ) (entry : Entry) (place : Place) → slice_get entries j ≡ Some entry → slice_get (places_of entry.answer) a ≡ Some place → IsPassed made h place

-- The places of an answer are those that its command has reached; and of the reasons against a link the first is told.
abbrev pub IsExact : Edited → Moment → Command → Answer → Type 0
IsExact g m c (Done places) = (items : ℕ) × IsReached g m c items places
IsExact g m c Unreached = Unit {0}
IsExact g m c (Refused reason places) = TellsPlace g m c (Refused reason places) × TellsFirst g m c (Refused reason places)

-- ---- runs

-- A run of a script: the graph and the notes that control keeps, the tasks with what the table of their lanes tells, the commands that are still to
-- come, and how those before were answered.
pub record ScriptRun {S E I O L : Type 0} (s : sources.Ghosts S) (e : elements.Ghosts E) (i : inlets.Ghosts I L O) (o : outlets.Ghosts O L) : Type 0 where
  pub graph : EditedGraph
  pub feeds : Feeds
  pub tasks : List (Task S E I O L s e i o)
  pub tells : Option (List Lane)
  pub commands : List Command
  pub entries : List Entry

module _ {S E I O L : Type 0} {s : sources.Ghosts S} {e : elements.Ghosts E} {i : inlets.Ghosts I L O} {o : outlets.Ghosts O L} where
  -- control has the run, edited so, at a moment
  abbrev pub Has : ScriptRun s e i o → Edited → Moment → Type 0
  Has run g m = IsControlled run.graph run.feeds run.tasks g m run.tells

  -- what control has stays
  pub record KeepsControl (was is : ScriptRun s e i o) : Type 0 where
    pub graph : is.graph ≡ was.graph
    pub feeds : is.feeds ≡ was.feeds
    pub commands : is.commands ≡ was.commands
    pub entries : is.entries ≡ was.entries

  -- A command is answered so, by the graph and the moment at which it is. Nothing crosses a pad in that, and what was owed to a pad still is, where
  -- its element is there behind it.
  pub record IsAnsweredBy (is : ScriptRun s e i o) (g : Edited) (m : Moment) (c : Command) (answer : Answer) : Type 0 where
    pub next : Edited
    pub now : Moment
    pub lawful : IsAnswered g m.history (owed_then m) c answer next
    pub exact : IsExact g m c answer
    pub crossed : now.history ≡ m.history
    pub owner : now.plan.owner ≡ m.plan.owner
    pub owed : (p : ℕ) → is_there next (m.plan.owner p) ≡ true → (is_there g (m.plan.owner p) ≡ true) × IsPrefix (owed_then m p) (owed_then now p)
    pub plan : KeepsPlan g next m now
    pub has : Has is next now

  -- The next command was answered.
  pub record IsActed (was is : ScriptRun s e i o) : Type 0 where
    pub command : Command
    pub entry : Entry
    pub next : was.commands ≡ command ∷ is.commands
    pub entered : is.entries ≡ was.entries ++ entry ∷ []
    pub answered : (g : Edited) (m : Moment) → names_its_pad command ≡ true → Has was g m → IsAnsweredBy is g m command entry.answer

  -- Control has a run of a graph that was edited by the first commands of a script, which its entries answer lawfully; the others are still to come.
  -- What is due to a pad is owed by the moment, where its element is there, and else it was when that was taken away.
  pub record IsScripted (script : List Command) (first : Edited) (run : ScriptRun s e i o) : Type 0 where
    pub g : Edited
    pub m : Moment
    pub has : Has run g m
    pub calm : (p : ℕ) → has_flush_stop (m.history p) ≡ false
    pub kept : IsKept m.history first
    pub due : ℕ → List Item
    pub owes : (p : ℕ) → is_there g (m.plan.owner p) ≡ true → due p ≡ owed_then m p
    pub answered : AreAnswered m.history due first script run.entries g
    pub left : run.commands ≡ drop (length run.entries) script
    pub falls : NeverFall run.entries
    pub passed : ArePassed g.made m.history run.entries

module _ {S E I O L : Type 0} (s : sources.Ghosts S) (e : elements.Ghosts E) (i : inlets.Ghosts I L O) (o : outlets.Ghosts O L) where
  -- So it stays when the next command is answered, where each command of the script that acts on a pad names one.
  abbrev pub ActsKeepScripts : Type 0
  ActsKeepScripts = (script : List Command) (first : Edited) (was is : ScriptRun s e i o) → All (λ c. names_its_pad c ≡ true) script → IsScripted script first was → IsActed was is → IsScripted script first is

  -- So it stays in a turn, and where each task is tried.
  pub record TurnsKeepScripts : Type 0 where
    pub step : (script : List Command) (first : Edited) (was is : ScriptRun s e i o) (place : ℕ) (step : Step)
        → IsScripted script first was → IsStepped place step was.tasks is.tasks was.tells is.tells → KeepsControl was is → IsScripted script first is
    pub trial : (script : List Command) (first : Edited) (was is : ScriptRun s e i o) (place : ℕ) (moved : Bool)
        → IsScripted script first was → AreTried was.tasks was.tells place moved is.tasks is.tells → KeepsControl was is → IsScripted script first is
