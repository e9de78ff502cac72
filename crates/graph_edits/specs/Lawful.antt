-- Lawful entries: what a report may say of a script's commands, by the graph as the commands before left it and by what crossed its
-- pads. `h` has what crossed each source pad in the end, and `owed` what is owed to it.
use Rattle.std.specs.Prelude.{◌≡◌, ◌≤◌, ◌<◌, ℕ, Bool, true, false, List, [], ◌∷◌, ◌&&◌, Option, None, Some, drop, length, slice_get, take}
use Rattle.std.specs.List.{list_any}
use Rattle.flow_model.specs.Item.{Item, buffers, is_buffer}
use Rattle.flow_model.specs.Eval.{Plan, inputs}
use Rattle.gst_value.specs.declared.name.PadName.{PadName}
use Rattle.gst_value.specs.declared.name.Prop.{Prop}
use Rattle.pad_core.specs.Crossing.{has_ended}
use Rattle.el_settings.specs.Asked.{is_converter, makes_sinks}
use Rattle.graph_core.specs.Asked.{Declared}
use Rattle.graph_core.specs.Elements.{IsMade, IsUnmade, Made, has}
use Rattle.graph_core.specs.Ends.{pad_name}
use Rattle.graph_core.specs.GraphPlan.{pad_id}
use Rattle.graph_core.specs.declared.fault.BuildFault.{BuildFault}
use Rattle.graph_core.specs.declared.fault.BuildFault.TheVariants.{NoSuch as Missing, BadValue as WrongValue, NameTaken as SameName, LocationTaken as SameLocation, TooMany as Limit, LinkRefused as NoLink, OutOfMemory}
use Rattle.graph_pads.specs.Links.{sink_behind}
use Rattle.graph_pads.specs.Pads.{pad_at}
use Rattle.graph_pads.specs.declared.pad.Direction.TheVariants.{Source, Sink}
use Rattle.graph_pads.specs.declared.pad.PadPlace.{PadPlace}
use Rattle.script_text.specs.declared.answer.Answer.{Answer}
use Rattle.script_text.specs.declared.answer.Answer.TheVariants.{Done, Unreached, Refused}
use Rattle.script_text.specs.declared.answer.Entry.{Entry}
use Rattle.script_text.specs.declared.answer.Place.{Place}
use Rattle.script_text.specs.declared.answer.Reason.{Reason}
use Rattle.script_text.specs.declared.answer.Reason.TheVariants.{NoSuch, BadValue, NameTaken, LocationTaken, TooMany, NotPlain, AfterEos, WasLinked, WouldLoop, FedElsewhere, NoFormat}
use Rattle.script_text.specs.declared.command.Act.{Act}
use Rattle.script_text.specs.declared.command.Act.TheVariants.{Relink, Unlink, Add, Remove}
use Rattle.script_text.specs.declared.command.Command.{Command}
use Rattle.script_text.specs.declared.command.When.{When}
use Rattle.script_text.specs.declared.command.When.TheVariants.{At, NowPad, Now}
use Rattle.graph_edits.specs.Edited.{Edited, added, relinked_at, touches, unlinked_at, without_element}
use Rattle.graph_edits.specs.Names.{element_named, is_act_there, is_when_there, pad_named}
use Rattle.graph_edits.specs.Refused.{IsAfterEos, IsFedElsewhere, IsTaken, LacksFormat, Loops}

abbrev pub command : When → Act → Command
command when act = record { when = when; act = act }

-- ---- places

-- a source pad with so many items
abbrev pub place_at : Edited → PadPlace → ℕ → Place
place_at g source items = record { pad = pad_name g.made (pad_at Source source.element source.pad); items = items }

-- the place of the source pad that a command names, where it names one
abbrev pub places_at : Edited → Option PadPlace → ℕ → List Place
places_at g None items = []
places_at g (Some source) items = place_at g source items ∷ []

abbrev pub begins_with_buffer : List Item → Bool
begins_with_buffer [] = false
begins_with_buffer (x ∷ xs) = is_buffer x

-- so many items crossed the pad, with so many buffers, and a buffer is the next one that is owed to it
pub record IsAtBuffer (h owed : ℕ → List Item) (p n place : ℕ) : Type 0 where
  pub crossed : place ≤ length (h p)
  pub counted : buffers (take place (h p)) ≡ n
  pub next : begins_with_buffer (drop place (owed p)) ≡ true

-- so many items crossed the pad, and no EOS among them
pub record IsBeforeEos (h : ℕ → List Item) (p place : ℕ) : Type 0 where
  pub crossed : place ≤ length (h p)
  pub open_yet : has_ended (take place (h p)) ≡ false

-- A command can be answered at a place of the source pad that it names, or anywhere where it names none.
pub data Reaches (g : Edited) (h owed : ℕ → List Item) : When → Option PadPlace → ℕ → Type 0 where
  at : (pad : PadName) (n place : ℕ) (source : PadPlace) → pad_named Source g pad ≡ Some source → IsAtBuffer h owed (pad_id source) n place → Reaches g h owed (At pad n) (Some source) place
  now_pad : (pad : PadName) (place : ℕ) (source : PadPlace) → pad_named Source g pad ≡ Some source → IsBeforeEos h (pad_id source) place → Reaches g h owed (NowPad pad) (Some source) place
  now : Reaches g h owed Now None 0

-- The stream ended before the place of a command.
pub data IsUnreached (g : Edited) (h : ℕ → List Item) : When → Type 0 where
  at : (pad : PadName) (n : ℕ) (source : PadPlace) → pad_named Source g pad ≡ Some source → has_ended (h (pad_id source)) ≡ true → buffers (h (pad_id source)) ≤ n → IsUnreached g h (At pad n)
  now_pad : (pad : PadName) (source : PadPlace) → pad_named Source g pad ≡ Some source → has_ended (h (pad_id source)) ≡ true → IsUnreached g h (NowPad pad)

-- ---- refusals

-- the element that an `add` asks for
abbrev pub asked : List ℕ → List Prop → Declared
asked kind props = record { kind = kind; props = props }

-- why an element is not made whose kind and properties there are, as a report tells it
abbrev pub reason_of : BuildFault → Option Reason
reason_of (Missing name what) = None
reason_of (WrongValue name property) = Some BadValue
reason_of (SameName name) = Some NameTaken
reason_of (SameLocation location) = Some LocationTaken
reason_of (Limit count) = Some (TooMany count)
reason_of (NoLink a b ret) = None
reason_of OutOfMemory = None

-- a link stands at some pad of an element
abbrev pub has_link : Edited → ℕ → Bool
has_link g e = list_any (touches e) g.links

-- A link from a source pad to a sink pad is refused for the first of these that the graph alone tells; that the sink pad had EOS is told
-- before them, and that its element was fed from another task before the last.
pub data IsUnlinkable (g : Edited) (h : ℕ → List Item) (source to : PadPlace) : Reason → Type 0 where
  ended : IsAfterEos g h to → IsUnlinkable g h source to AfterEos
  taken : IsTaken g to → IsUnlinkable g h source to WasLinked
  loops : ¬ IsTaken g to → Loops g source to → IsUnlinkable g h source to WouldLoop
  fed : ¬ IsTaken g to → ¬ Loops g source to → IsFedElsewhere g h source to → IsUnlinkable g h source to FedElsewhere
  formless : ¬ IsTaken g to → ¬ Loops g source to → LacksFormat g source to → IsUnlinkable g h source to NoFormat

-- Nothing that the graph tells speaks against a link. That the sink pad had EOS can be told: a pad without a link is given no more.
pub record IsLinkable (g : Edited) (h : ℕ → List Item) (source to : PadPlace) : Type 0 where
  pub unended : ¬ IsAfterEos g h to
  pub free : ¬ IsTaken g to
  pub forward : ¬ Loops g source to
  pub common : ¬ LacksFormat g source to

-- An act is refused for a reason, where all that it names is there.
pub data IsRefusedFor (g : Edited) (h : ℕ → List Item) : Option PadPlace → Act → Reason → Type 0 where
  unlinkable : (sink : PadName) (source to : PadPlace) (reason : Reason) → pad_named Sink g sink ≡ Some to → IsUnlinkable g h source to reason → IsRefusedFor g h (Some source) (Relink sink) reason
  unmade : (p : Option PadPlace) (kind : List ℕ) (props : List Prop) (fault : BuildFault) (reason : Reason) → IsUnmade g.made (asked kind props) fault → reason_of fault ≡ Some reason → IsRefusedFor g h p (Add kind props) reason
  gathering : (p : Option PadPlace) (kind : List ℕ) (props : List Prop) (m : Made) → IsMade g.made (asked kind props) m → makes_sinks m.settings ≡ true → IsRefusedFor g h p (Add kind props) NotPlain
  linked : (p : Option PadPlace) (name : List ℕ) (e : ℕ) → element_named g name ≡ Some e → has_link g e ≡ true → IsRefusedFor g h p (Remove name) WasLinked

-- ---- answers

abbrev pub is_all_there : Edited → Command → Bool
is_all_there g c = is_when_there g c.when && is_act_there g c.when c.act

-- what an act makes of the graph, at a place of the source pad of its command
pub data Makes (g : Edited) (h : ℕ → List Item) : Option PadPlace → ℕ → Act → Edited → Type 0 where
  relinks : (sink : PadName) (source to : PadPlace) (place : ℕ) → pad_named Sink g sink ≡ Some to → IsLinkable g h source to → Makes g h (Some source) place (Relink sink) (relinked_at source place to g)
  unlinks : (eos : Bool) (source to : PadPlace) (place : ℕ) → sink_behind g.links source ≡ Some to → Makes g h (Some source) place (Unlink eos) (unlinked_at source place eos g)
  adds : (p : Option PadPlace) (place : ℕ) (kind : List ℕ) (props : List Prop) (m : Made) → IsMade g.made (asked kind props) m → makes_sinks m.settings ≡ false → Makes g h p place (Add kind props) (added m g)
  removes : (p : Option PadPlace) (place : ℕ) (name : List ℕ) (e : ℕ) → element_named g name ≡ Some e → has_link g e ≡ false → Makes g h p place (Remove name) (without_element e g)

-- A command is answered so, and leaves the graph so. A refused one leaves it as it was.
pub data IsAnswered (g : Edited) (h owed : ℕ → List Item) : Command → Answer → Edited → Type 0 where
  done : (when : When) (act : Act) (p : Option PadPlace) (place : ℕ) (after : Edited) → Reaches g h owed when p place → Makes g h p place act after → IsAnswered g h owed (command when act) (Done (places_at g p place)) after
  unreached : (c : Command) → is_all_there g c ≡ true → IsUnreached g h c.when → IsAnswered g h owed c Unreached g
  nameless : (c : Command) → is_all_there g c ≡ false → IsAnswered g h owed c (Refused NoSuch []) g
  refused : (when : When) (act : Act) (p : Option PadPlace) (place : ℕ) (reason : Reason) → is_all_there g (command when act) ≡ true → Reaches g h owed when p place → IsRefusedFor g h p act reason → IsAnswered g h owed (command when act) (Refused reason (places_at g p place)) g

-- ---- reports

-- the entries answer the first commands, one after the other
pub data AreAnswered (h owed : ℕ → List Item) : Edited → List Command → List Entry → Edited → Type 0 where
  none : (g : Edited) (script : List Command) → AreAnswered h owed g script [] g
  more : (g next last : Edited) (c : Command) (script : List Command) (entry : Entry) (entries : List Entry) → IsAnswered g h owed c entry.answer next → AreAnswered h owed next script entries last → AreAnswered h owed g (c ∷ script) (entry ∷ entries) last

abbrev pub places_of : Answer → List Place
places_of (Done places) = places
places_of Unreached = []
places_of (Refused reason places) = places

-- of one pad a later entry has no lower place than an earlier one
abbrev pub NeverFall : List Entry → Type 0
NeverFall entries = (j k a b : ℕ) (one other : Entry) (before behind : Place) → j < k → slice_get entries j ≡ Some one → slice_get entries k ≡ Some other
    → slice_get (places_of one.answer) a ≡ Some before → slice_get (places_of other.answer) b ≡ Some behind → before.pad ≡ behind.pad → before.items ≤ behind.items

-- what is owed to a source pad, by the histories
abbrev pub owed_by : Plan → (ℕ → List Item) → ℕ → List Item
owed_by plan h p = plan.rule (plan.owner p) (inputs plan h (plan.owner p)) (plan.port p) 0

-- The entries of a report are lawful, and leave the graph so; the plan is that of the graph in the end. It has no converter: what commands
-- change of the caps that one is allowed is not told yet.
pub record AreLawful (first : Edited) (script : List Command) (entries : List Entry) (plan : Plan) (h : ℕ → List Item) (last : Edited) : Type 0 where
  pub answered : AreAnswered h (owed_by plan h) first script entries last
  pub falls : NeverFall entries
  pub plain : (e : ℕ) → has is_converter last.made e ≡ false
