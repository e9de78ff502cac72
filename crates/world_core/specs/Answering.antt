-- How control answers the next command of a run.
use Rattle.std.specs.Prelude.{◌≡◌, ◌⊎◌, ◌++◌, ℕ, true, false, List, [], ◌∷◌, Option, None, Some, length, option_and_then, slice_get}
use Rattle.std.specs.Option.{option_map}
use Rattle.lane_core.specs.Lane.{Lane}
use Rattle.lane_core.specs.declared.ends.Inlet as inlets
use Rattle.lane_core.specs.declared.ends.Outlet as outlets
use Rattle.flow_model.specs.Moment.{Moment}
use Rattle.flow_model.specs.declared.element.TaskElement as elements
use Rattle.flow_model.specs.declared.source.TaskSource as sources
use Rattle.net_edits.specs.Adding.{NoneOwns}
use Rattle.net_edits.specs.NewLanes.{with_lane}
use Rattle.graph_core.specs.Elements.{Made}
use Rattle.graph_parts.specs.Lanes.{room_by}
use Rattle.script_text.specs.declared.answer.Answer.{Answer}
use Rattle.script_text.specs.declared.answer.Answer.TheVariants.{Done, Refused, Unreached}
use Rattle.script_text.specs.declared.answer.Place.{Place}
use Rattle.script_text.specs.declared.command.Command.{Command}
use Rattle.graph_edits.specs.Edited.{Edited}
use Rattle.graph_edits.specs.Lawful.{IsAnswered}
use Rattle.graph_edits.specs.Graph.{IsEdited}
use Rattle.graph_edits.specs.Plans.{is_asleep}
use Rattle.edit_core.specs.Deciding.{IsReached, IsRuled, IsToDo, made_by, names_its_pad}
use Rattle.edit_core.specs.declared.deciding.Deed.{Deed}
use Rattle.edit_core.specs.declared.deciding.Deed.TheVariants.{Relink, Unlink, Add, Remove}
use Rattle.edit_core.specs.declared.deciding.Ruling.{Ruling}
use Rattle.edit_core.specs.Judging.{IsVerdict, owed_then}
use Rattle.edit_core.specs.Notes.{IsCurrent}
use Rattle.edit_core.specs.declared.judging.Verdict.TheVariants as verdicts
use Rattle.edit_acts.specs.Controlled.{IsControlled}
use Rattle.edit_acts.specs.Deeds.{IsDone}
use Rattle.edit_acts.specs.Removed.{IsTakenOut}
use Rattle.edit_acts.specs.Scripted.{IsActed}
use Rattle.edit_acts.specs.declared.removing.TakenOut.{TakenOut}
use Rattle.world_core.specs.declared.running.RunFault.{RunFault}
use Rattle.world_core.specs.declared.running.RunFault.TheVariants.{Stopped, OutOfMemory, Undone}
use Rattle.world_core.specs.declared.running.Running.{Running}
use Rattle.world_core.specs.declared.watching.Watch.TheVariants.{Unasked}
use Rattle.world_core.specs.Running.{KeepsScript, KeepsTurns, taking_without, tells_of, view_of}

-- Control can do what a command asks for: it can't add an element yet, or link a source that is asleep.
abbrev pub CanBeAnswered : Edited → Deed → Type 0
CanBeAnswered g (Relink source sink) = is_asleep g source.element ≡ false
CanBeAnswered g (Unlink source sink eos) = Unit {0}
CanBeAnswered g Add = ⊥
CanBeAnswered g (Remove element) = Unit {0}

-- how many items a lane to an element holds, where lanes feed it
abbrev pub room_into : Edited → ℕ → Option ℕ
room_into g e = option_and_then (λ (made : Made). room_by made.settings) (slice_get g.made e)

-- how many items the lane holds that a deed makes, where it makes one
abbrev pub room_for : Edited → Deed → Option ℕ
room_for g (Relink source sink) = room_into g sink.element
room_for g (Unlink source sink eos) = None
room_for g Add = None
room_for g (Remove element) = None

-- nothing is told as done
abbrev pub TellsNothingDone : Answer → Type 0
TellsNothingDone (Done places) = ⊥
TellsNothingDone Unreached = Unit {0}
TellsNothingDone (Refused reason places) = Unit {0}

-- A command that is answered so asks for no deed; or it asks for this one, and counts as done.
abbrev pub AsksFor : Edited → Moment → Command → Answer → Option Deed → Type 0
AsksFor g m command answer None = TellsNothingDone answer
AsksFor g m command answer (Some deed) = (items : ℕ) × (places : List Place) × IsToDo g m command deed items places × (answer ≡ Done places)

module _ {S E I O L : Type 0} {s : sources.Ghosts S} {e : elements.Ghosts E} {i : inlets.Ghosts I L O} {o : outlets.Ghosts O L} where
  -- control has the run, edited so, at a moment
  abbrev pub Controls : Running S E I O L s e i o → Edited → Moment → Type 0
  Controls run g m = IsControlled run.graph run.feeds run.tasks.items g m (tells_of run)

  -- the next command, behind those that were answered
  abbrev pub IsNext : Running S E I O L s e i o → Command → Type 0
  IsNext run command = slice_get run.script.items (length run.entries.items) ≡ Some command

  -- This becomes of a command.
  abbrev pub Decides : Running S E I O L s e i o → Command → Ruling → Type 0
  Decides run command ruling = (g : Edited) (m : Moment) (tells : Option (List Lane)) → IsCurrent run.graph run.feeds run.tasks.items g m tells → names_its_pad command ≡ true
      → IsRuled g m run.tasks.items command ruling

  -- this becomes of the next command; or no command is left
  abbrev pub RulesNext : Running S E I O L s e i o → Option Ruling → Type 0
  RulesNext run None = (view_of run).commands ≡ []
  RulesNext run (Some ruling) = (command : Command) × IsNext run command × Decides run command ruling

  -- The task of an element that was taken away is kept among those that were set aside, and one fewer takes turns where it did.
  pub record HasSetAside (was is : Running S E I O L s e i o) (element : ℕ) : Type 0 where
    pub taken : TakenOut S E I O L s e i o
    pub out : IsTakenOut was.tasks.items is.tasks.items element taken
    pub removed : is.removed.items ≡ was.removed.items ++ taken.task ∷ []
    pub taking : is.taking ≡ taking_without taken.place was.taking

  -- a deed sets the task of the element aside that it takes away, where one has it, and no other
  abbrev pub SetsAside : Running S E I O L s e i o → Running S E I O L s e i o → Deed → Type 0
  SetsAside was is (Relink source sink) = KeepsTurns was is
  SetsAside was is (Unlink source sink eos) = KeepsTurns was is
  SetsAside was is Add = KeepsTurns was is
  SetsAside was is (Remove element) = HasSetAside was is element ⊎ (NoneOwns was.tasks.items element × KeepsTurns was is)

  abbrev pub SetsAsideFor : Running S E I O L s e i o → Running S E I O L s e i o → Option Deed → Type 0
  SetsAsideFor was is None = KeepsTurns was is
  SetsAsideFor was is (Some deed) = SetsAside was is deed

  -- the table of lanes has one lane more, which is empty, where so many items are told that it holds; and else it is as it was
  abbrev pub HasLanes : Option ℕ → Running S E I O L s e i o → Running S E I O L s e i o → Type 0
  HasLanes None was is = is.lanes ≡ was.lanes
  HasLanes (Some room) was is = tells_of is ≡ option_map (with_lane room) (tells_of was)

  -- The next command was answered.
  pub record ActsOn (was is : Running S E I O L s e i o) : Type 0 where
    pub acted : IsActed (view_of was) (view_of is)
    pub script : is.script.items ≡ was.script.items
    pub deed : Option Deed
    pub lanes : (g : Edited) → IsEdited was.graph g → HasLanes (option_and_then (room_for g) deed) was is
    pub asks : (g : Edited) (m : Moment) → names_its_pad acted.command ≡ true → Controls was g m → AsksFor g m acted.command acted.entry.answer deed
    pub aside : SetsAsideFor was is deed

  -- No command is left, or the next one can't be answered yet.
  pub data NothingCanBeDone (run : Running S E I O L s e i o) : Type 0 where
    none_left : (view_of run).commands ≡ [] → NothingCanBeDone run
    waits : (command : Command) (rest : List Command) → (view_of run).commands ≡ command ∷ rest
        → ((g : Edited) (m : Moment) → names_its_pad command ≡ true → Controls run g m → IsVerdict g m run.tasks.items command verdicts.Waits) → NothingCanBeDone run

  -- The next command is answered so, and no other. Of the one behind it nothing is known yet.
  pub record IsEntered (was is : Running S E I O L s e i o) (answer : Answer) : Type 0 where
    pub entered : is.entries.items ≡ was.entries.items ++ record { answer = answer } ∷ []
    pub keeps : KeepsScript was is
    pub probing : is.probing ≡ was.probing
    pub watch : is.watch ≡ Unasked
    pub graph : is.graph ≡ was.graph
    pub feeds : is.feeds ≡ was.feeds
    pub tasks : is.tasks ≡ was.tasks
    pub lanes : is.lanes ≡ was.lanes

  -- The next command counts as done at these places. Where it asks for this deed control can do that, and did it.
  pub record IsCarriedOut (was is : Running S E I O L s e i o) (deed : Deed) (items : ℕ) (places : List Place) : Type 0 where
    pub entered : is.entries.items ≡ was.entries.items ++ record { answer = Done places } ∷ []
    pub script : is.script.items ≡ was.script.items
    pub lanes : (g : Edited) → IsEdited was.graph g → HasLanes (room_for g deed) was is
    pub done : (g : Edited) (m : Moment) (command : Command) → Controls was g m → IsToDo g m command deed items places
        → CanBeAnswered g deed × IsDone is.graph is.feeds is.tasks.items g m (tells_of is) deed items

  -- The next command counts as done, and the graph has what it asks for; an element that was given something for it met a fault.
  pub record IsActedShort (was is : Running S E I O L s e i o) : Type 0 where
    pub command : Command
    pub rest : List Command
    pub places : List Place
    pub next : (view_of was).commands ≡ command ∷ rest
    pub entered : is.entries.items ≡ was.entries.items ++ record { answer = Done places } ∷ []
    pub lanes : is.lanes ≡ was.lanes
    pub answered : (g : Edited) (m : Moment) → names_its_pad command ≡ true → Controls was g m
        → (after : Edited) × IsAnswered g m.history (owed_then m) command (Done places) after × ((items : ℕ) × IsReached g m command items places) × IsEdited is.graph after

  -- The next command asks for something that control can't do yet.
  pub record IsUnbuilt (run : Running S E I O L s e i o) : Type 0 where
    pub command : Command
    pub rest : List Command
    pub next : (view_of run).commands ≡ command ∷ rest
    pub asks : (g : Edited) (m : Moment) → names_its_pad command ≡ true → Controls run g m
        → (deed : Deed) × (items : ℕ) × (places : List Place) × IsToDo g m command deed items places × (CanBeAnswered g deed → ⊥)

  -- Where memory was wanting control has the run as it was, and the command is still to come. The table of lanes may have one lane more.
  pub record IsAsItWas (was is : Running S E I O L s e i o) : Type 0 where
    pub entries : is.entries.items ≡ was.entries.items
    pub keeps : KeepsScript was is
    pub room : Option ℕ
    pub lanes : HasLanes room was is
    pub control : (g : Edited) (m : Moment) → Controls was g m → Controls is g m

  -- why the next command was not answered whole
  abbrev pub ActFails : Running S E I O L s e i o → Running S E I O L s e i o → RunFault → Type 0
  ActFails was is (Stopped stopped) = IsActedShort was is
  ActFails was is OutOfMemory = IsAsItWas was is
  ActFails was is Undone = IsUnbuilt was

  -- a deed that the next command asks for was not done whole
  pub record IsCarriedShort (was is : Running S E I O L s e i o) (deed : Deed) (items : ℕ) (places : List Place) : Type 0 where
    pub entered : is.entries.items ≡ was.entries.items ++ record { answer = Done places } ∷ []
    pub lanes : is.lanes ≡ was.lanes
    pub edited : (g : Edited) (m : Moment) (command : Command) → Controls was g m → IsToDo g m command deed items places → CanBeAnswered g deed × IsEdited is.graph (made_by deed items g)

  -- why a deed was not done
  abbrev pub CarryFails : Running S E I O L s e i o → Running S E I O L s e i o → Deed → ℕ → List Place → RunFault → Type 0
  CarryFails was is deed items places (Stopped stopped) = IsCarriedShort was is deed items places
  CarryFails was is deed items places OutOfMemory = IsAsItWas was is
  CarryFails was is deed items places Undone = (g : Edited) (m : Moment) (command : Command) → Controls was g m → IsToDo g m command deed items places → CanBeAnswered g deed → ⊥
