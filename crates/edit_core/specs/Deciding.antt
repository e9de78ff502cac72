-- What becomes of the next command at a moment.
use Rattle.std.specs.Prelude.{◌≡◌, ◌≢◌, ◌⊎◌, ℕ, Bool, true, List, [], Option, Some, if◌then◌else◌, is_some}
use Rattle.flow_model.specs.Item.{Item}
use Rattle.lane_core.specs.declared.ends.Inlet as inlets
use Rattle.lane_core.specs.declared.ends.Outlet as outlets
use Rattle.flow_model.specs.Moment.{Moment}
use Rattle.flow_model.specs.declared.element.TaskElement as elements
use Rattle.flow_model.specs.declared.source.TaskSource as sources
use Rattle.net_task.specs.declared.task.Task.{Task}
use Rattle.graph_pads.specs.Links.{sink_behind}
use Rattle.graph_pads.specs.declared.pad.Direction.TheVariants.{Sink}
use Rattle.graph_pads.specs.declared.pad.PadPlace.{PadPlace}
use Rattle.gst_value.specs.declared.name.PadName.{PadName}
use Rattle.gst_value.specs.declared.name.Prop.{Prop}
use Rattle.script_text.specs.declared.answer.Answer.{Answer}
use Rattle.script_text.specs.declared.answer.Answer.TheVariants.{Done, Refused, Unreached}
use Rattle.script_text.specs.declared.answer.Place.{Place}
use Rattle.script_text.specs.declared.answer.Reason.{Reason}
use Rattle.script_text.specs.declared.answer.Reason.TheVariants as reasons
use Rattle.script_text.specs.declared.command.Act.{Act}
use Rattle.script_text.specs.declared.command.Act.TheVariants as acts
use Rattle.script_text.specs.declared.command.Command.{Command}
use Rattle.script_text.specs.declared.command.When.{When}
use Rattle.graph_edits.specs.Edited.{Edited, relinked_at, unlinked_at, without_element}
use Rattle.graph_edits.specs.Lawful.{IsAnswered, IsLinkable, Reaches, command, has_link, is_all_there, places_at}
use Rattle.graph_edits.specs.Names.{element_named, named_when, pad_named, source_when}
use Rattle.graph_edits.specs.Refused.{IsFedElsewhere}
use Rattle.edit_core.specs.Judging.{IsLast, IsVerdict, owed_then}
use Rattle.edit_core.specs.Refusing.{IsRefusedSo}
use Rattle.edit_core.specs.declared.deciding.Deed.{Deed}
use Rattle.edit_core.specs.declared.deciding.Deed.TheVariants.{Relink, Unlink, Add, Remove}
use Rattle.edit_core.specs.declared.deciding.Ruling.{Ruling}
use Rattle.edit_core.specs.declared.deciding.Ruling.TheVariants.{Waits, Answered, ToDo}
use Rattle.edit_core.specs.declared.judging.Verdict.TheVariants as verdicts
use Rattle.edit_core.specs.declared.refusing.LinkReason.{LinkReason}
use Rattle.edit_core.specs.declared.refusing.LinkReason.TheVariants.{AfterEos, WasLinked, WouldLoop, FedElsewhere, NoFormat}

-- an act on the link of a source pad
abbrev pub is_of_pad : Act → Bool
is_of_pad (acts.Relink sink) = true
is_of_pad (acts.Unlink eos) = true
is_of_pad (acts.Add kind props) = Bool.false
is_of_pad (acts.Remove element) = Bool.false

-- a command of such an act names a pad
abbrev pub names_its_pad : Command → Bool
names_its_pad c = if is_of_pad c.act then is_some (named_when c.when) else true

-- why a link is refused, as a report tells it
abbrev pub reason_of : LinkReason → Reason
reason_of AfterEos = reasons.AfterEos
reason_of WasLinked = reasons.WasLinked
reason_of WouldLoop = reasons.WouldLoop
reason_of FedElsewhere = reasons.FedElsewhere
reason_of NoFormat = reasons.NoFormat

abbrev pub no_such : Ruling
no_such = Answered (Refused reasons.NoSuch [])

-- what a deed makes of the graph; what is added is told when it is made
abbrev pub made_by : Deed → ℕ → Edited → Edited
made_by (Relink source sink) items g = relinked_at source items sink g
made_by (Unlink source sink eos) items g = unlinked_at source items eos g
made_by Add items g = g
made_by (Remove element) items g = without_element element g

-- A deed is what a command asks for, and nothing speaks against it.
pub data IsDeed (g : Edited) (h : ℕ → List Item) (source : Option PadPlace) : Act → Deed → Type 0 where
  relinks : (sink : PadName) (from to : PadPlace) → source ≡ Some from → pad_named Sink g sink ≡ Some to → IsLinkable g h from to → ¬ IsFedElsewhere g h from to
      → IsDeed g h source (acts.Relink sink) (Relink from to)
  unlinks : (eos : Bool) (from to : PadPlace) → source ≡ Some from → sink_behind g.links from ≡ Some to → IsDeed g h source (acts.Unlink eos) (Unlink from to eos)
  adds : (kind : List ℕ) (props : List Prop) → IsDeed g h source (acts.Add kind props) Add
  removes : (name : List ℕ) (e : ℕ) → element_named g name ≡ Some e → has_link g e ≡ Bool.false → IsDeed g h source (acts.Remove name) (Remove e)

-- A command can be answered now: all that it names is there, and so many items have crossed the source pad that it names.
pub record IsReached (g : Edited) (m : Moment) (c : Command) (items : ℕ) (places : List Place) : Type 0 where
  pub all : is_all_there g c ≡ true
  pub reaches : Reaches g m.history (owed_then m) c.when (source_when g c.when) items
  pub last : IsLast m.history (source_when g c.when) items
  pub places_are : places ≡ places_at g (source_when g c.when) items

-- it names this source pad
abbrev pub IsReachedBy : Edited → Moment → Command → PadPlace → ℕ → List Place → Type 0
IsReachedBy g m c source items places = IsReached g m c items places × (source_when g c.when ≡ Some source)

-- It is to be done so.
pub record IsToDo (g : Edited) (m : Moment) (c : Command) (deed : Deed) (items : ℕ) (places : List Place) : Type 0 where
  pub reached : IsReached g m c items places
  pub deed_is : IsDeed g m.history (source_when g c.when) c.act deed

-- A refusal names the place that the command has reached, but where something is not there. Where nothing is done, nothing is told as done.
abbrev pub TellsPlace : Edited → Moment → Command → Answer → Type 0
TellsPlace g m c (Done places) = ⊥
TellsPlace g m c Unreached = Unit {0}
TellsPlace g m c (Refused reason places) = (reason ≡ reasons.NoSuch) ⊎ ((items : ℕ) × IsReached g m c items places)

-- Of the reasons against a link the first is told.
abbrev pub TellsFirst : Edited → Moment → Command → Answer → Type 0
TellsFirst g m c (Done places) = Unit {0}
TellsFirst g m c Unreached = Unit {0}
TellsFirst g m c (Refused reason places) =
    (sink : PadName) (from to : PadPlace) → c.act ≡ acts.Relink sink → source_when g c.when ≡ Some from → pad_named Sink g sink ≡ Some to → (why : LinkReason) × (reason ≡ reason_of why) × IsRefusedSo g m.history from to (Some why)

-- A command is answered so, and nothing is done.
pub record IsAnsweredNow (g : Edited) (m : Moment) (c : Command) (answer : Answer) : Type 0 where
  pub lawful : IsAnswered g m.history (owed_then m) c answer g
  pub place : TellsPlace g m c answer
  pub first : TellsFirst g m c answer

-- what becomes of a command that can be answered
abbrev pub IsRuledAnyhow : Edited → Moment → Command → Ruling → Type 0
IsRuledAnyhow g m c Waits = ⊥
IsRuledAnyhow g m c (Answered answer) = IsAnsweredNow g m c answer
IsRuledAnyhow g m c (ToDo deed items places) = IsToDo g m c deed items places

-- what becomes of a command
abbrev pub IsRuled : {S E I O L : Type 0} {s : sources.Ghosts S} {e : elements.Ghosts E} {i : inlets.Ghosts I L O} {o : outlets.Ghosts O L} → Edited → Moment → List (Task S E I O L s e i o) → Command → Ruling → Type 0
IsRuled g m tasks c Waits = IsVerdict g m tasks c verdicts.Waits
IsRuled g m tasks c (Answered answer) = IsRuledAnyhow g m c (Answered answer)
IsRuled g m tasks c (ToDo deed items places) = IsRuledAnyhow g m c (ToDo deed items places)

-- ---- a law

-- A command that is done so, but for one that adds an element, is answered by its places, and the graph is what the deed makes of it.
abbrev pub DeedsAreAnswers : Type 0
DeedsAreAnswers = (g : Edited) (m : Moment) (when : When) (act : Act) (deed : Deed) (items : ℕ) (places : List Place) → deed ≢ Add → IsToDo g m (command when act) deed items places
    → IsAnswered g m.history (owed_then m) (command when act) (Done places) (made_by deed items g)
