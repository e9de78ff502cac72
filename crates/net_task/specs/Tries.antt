-- What the tries of a step tell: pads are tried one behind the other until an item moves.
use Rattle.std.specs.Prelude.{◌≡◌, ◌≢◌, ◌<◌, ◌≤◌, ◌⊎◌, ◌+◌, ℕ, List, [], Option, Some, map, slice_get, sum_by}
use Rattle.lane_core.specs.Lane.{Lane}
use Rattle.lane_core.specs.declared.ends.Inlet as inlets
use Rattle.lane_core.specs.declared.ends.Outlet as outlets
use Rattle.flow_model.specs.Moment.{Moment}
use Rattle.flow_model.specs.declared.element.TaskElement as elements
use Rattle.flow_model.specs.declared.source.TaskSource as sources
use Rattle.task_parts.specs.declared.part.Part.{Part}
use Rattle.task_parts.specs.declared.head.Head.{Head}
use Rattle.task_parts.specs.declared.head.Head.TheVariants.{Source, Inlets}
use Rattle.task_parts.specs.declared.step.Step.{Step}
use Rattle.task_parts.specs.declared.step.Step.TheVariants.{Moved, NeedsItem, NeedsRoom, AtProbe, Ended}
use Rattle.task_parts.specs.declared.step.Tried.{Tried}
use Rattle.task_parts.specs.declared.step.Tried.TheVariants as tried
use Rattle.task_parts.specs.declared.fault.TaskFault.{TaskFault}
use Rattle.task_parts.specs.declared.fault.TaskFault.TheVariants.{OutOfMemory}
use Rattle.task_parts.specs.Part.{IsSettled}
use Rattle.net_task.specs.declared.task.Task.{Task}
use Rattle.net_task.specs.Failed.{FailsAs, IsCause, LanesLeft, Origin, at_head, at_pad}
use Rattle.net_task.specs.Frame.{TaskFrame, Wire, WireAt, frame_in, frame_of, head_wire}
use Rattle.net_task.specs.Fuel.{Burns, head_left, part_left}
use Rattle.net_task.specs.Moves.{Act, Advances, LanesBy, Move, RowsKept, Unlawful, giving, given_by, given_in, leaving, passing, sending, taking}
use Rattle.net_task.specs.Ready.{AreReady, KeepsLanes, LanesGoOn}
use Rattle.net_task.specs.Reasons.{AllRest, HeadGaveAll, HeadIdle, HeadLacks, IsBlocked, IsFirst, IsStuck, OneHolds, PadHolds}
use Rattle.net_task.specs.Ties.{AreTied, Stands, Ties, nothing_lost}

-- an item crosses this pad
abbrev pub CrossesAt : ℕ → Act → Type 0
CrossesAt p (passing q) = q ≡ p
CrossesAt p (sending q x) = q ≡ p
CrossesAt p (leaving q) = q ≡ p
CrossesAt p (taking n i x) = ⊥
CrossesAt p giving = ⊥

-- a try that moved an item leaves fewer moves, and another no more
abbrev pub Spends : ℕ → ℕ → Tried → Type 0
Spends before after tried.Moved = after < before
Spends before after tried.Idle = after ≤ before
Spends before after (tried.Stuck step) = after ≤ before

-- where nothing moved the lanes are as they were
abbrev pub TableStays : Option (List Lane) → Option (List Lane) → Tried → Type 0
TableStays tells tells' tried.Moved = Unit {0}
TableStays tells tells' tried.Idle = tells' ≡ tells
TableStays tells tells' (tried.Stuck step) = (tells' ≡ tells) × (step ≢ Moved)

-- where nothing moved each element is as it was
abbrev pub elements_of : {E O : Type 0} {e : elements.Ghosts E} → List (Part E O e) → List E
elements_of parts = map (λ part. part.element) parts

abbrev pub ElementsStay : {E O : Type 0} {e : elements.Ghosts E} → List (Part E O e) → List (Part E O e) → Tried → Type 0
ElementsStay parts parts' tried.Moved = Unit {0}
ElementsStay parts parts' tried.Idle = elements_of parts' ≡ elements_of parts
ElementsStay parts parts' (tried.Stuck step) = elements_of parts' ≡ elements_of parts

-- no item crossed the pads that were tried
abbrev pub PadsTell : Option (List Lane) → Moment → TaskFrame → (Wire → Type 0) → Tried → Type 0
PadsTell tells m frame Was tried.Moved = ⊥
PadsTell tells m frame Was tried.Idle = (wire : Wire) → Was wire → m.waits wire.number ≡ []
PadsTell tells m frame Was (tried.Stuck step) = OneHolds tells m frame step × ((wire : Wire) → Was wire → IsBlocked tells m wire)

-- the pads of an element, and of all elements
abbrev pub IsOfPart : TaskFrame → ℕ → Wire → Type 0
IsOfPart frame place wire = (port : ℕ) × WireAt frame place port wire

abbrev pub IsOfAny : TaskFrame → Wire → Type 0
IsOfAny frame wire = (place : ℕ) × (port : ℕ) × WireAt frame place port wire

-- this is the pad of a port; it is the first of an element of which an item can cross; it is that of a source
abbrev pub IsAtPort : TaskFrame → ℕ → ℕ → ℕ → Type 0
IsAtPort frame place port p = (wire : Wire) × WireAt frame place port wire × (wire.number ≡ p)

abbrev pub IsFirstOf : Option (List Lane) → Moment → TaskFrame → ℕ → ℕ → Type 0
IsFirstOf tells m frame place p =
    (port : ℕ) × (wire : Wire) × WireAt frame place port wire × (wire.number ≡ p)
    × ((k : ℕ) (other : Wire) → k < port → WireAt frame place k other → IsBlocked tells m other)

abbrev pub IsHeadPad : TaskFrame → ℕ → Type 0
IsHeadPad frame p = (wire : Wire) × (head_wire frame.head ≡ Some wire) × (wire.number ≡ p)

-- what waits at the pad of a source waits on
abbrev pub HeadHolds : Option (List Lane) → Moment → TaskFrame → Step → Type 0
HeadHolds tells m frame step = (wire : Wire) × (head_wire frame.head ≡ Some wire) × PadHolds tells m wire step

-- a source stays as it was, and its element too
abbrev pub SourceStays : {S I O : Type 0} {s : sources.Ghosts S} → Head S I O s → Head S I O s → Type 0
SourceStays (Source old) (Source new) = (new.number ≡ old.number) × (new.source ≡ old.source) × (new.given ≡ old.given)
SourceStays (Source old) (Inlets new) = ⊥
SourceStays (Inlets old) (Source new) = ⊥
SourceStays (Inlets old) (Inlets new) = new ≡ old

-- nothing waits at the pad of a source, and it stays
abbrev pub HeadStays : {S I O : Type 0} {s : sources.Ghosts S} → Head S I O s → Head S I O s → Tried → Type 0
HeadStays old new tried.Moved = Unit {0}
HeadStays old new tried.Idle = HeadIdle old × HeadIdle new × SourceStays old new
HeadStays old new (tried.Stuck step) = RowsKept old new

-- where nothing waits at a pad of the element at a place, nothing that it put out is to go there
abbrev pub SettledAt : {E O : Type 0} {e : elements.Ghosts E} → List (Part E O e) → ℕ → Type 0
SettledAt {E = E} {O = O} {e = e} parts place = (part : Part E O e) → slice_get parts place ≡ Some part → IsSettled part

abbrev pub StaysSettled : {E O : Type 0} {e : elements.Ghosts E} → List (Part E O e) → ℕ → Tried → Type 0
StaysSettled parts place tried.Moved = Unit {0}
StaysSettled parts place tried.Idle = SettledAt parts place
StaysSettled parts place (tried.Stuck step) = SettledAt parts place

module _ {S E I O L : Type 0} {s : sources.Ghosts S} {e : elements.Ghosts E} (i : inlets.Ghosts I L O) (o : outlets.Ghosts O L) where
  -- One item crossed a pad, of which this is so.
  pub record PadMoves (tells tells' : Option (List Lane)) (frame : TaskFrame) (m : Moment) (head head' : Head S I O s) (parts' : List (Part E O e)) (Where : ℕ → Type 0) : Type 0 where
    pub pad : ℕ
    pub act : Act
    pub next : Moment
    pub move : Move m act next
    pub at : CrossesAt pad act
    pub given : given_in head' ≡ given_in head + given_by act
    pub lanes : LanesBy i frame head head' tells tells' act
    pub tied : AreTied i o (Stands next) nothing_lost next head' parts'
    pub first : Where pad

  -- A fault at a pad, of which this is so. Whatever the lanes hold, they are as they were.
  pub record PadFails (m : Moment) (head head' : Head S I O s) (parts parts' : List (Part E O e)) (Where : ℕ → Type 0) (fault : TaskFault) : Type 0 where
    pub origin : Origin
    pub fails : (tells : Option (List Lane)) → FailsAs i o tells tells m head head' parts parts' origin fault
    pub first : (fault ≡ OutOfMemory) ⊎ ((p : ℕ) × (origin ≡ at_pad p) × Where p)

  -- what a try of some pads of elements makes of a moment
  abbrev pub TriedAs : Option (List Lane) → Option (List Lane) → TaskFrame → Moment → Head S I O s → Head S I O s → List (Part E O e) → (ℕ → Type 0)
      → (Wire → Type 0) → Tried → Type 0
  TriedAs tells tells' frame m head head' parts' Where Was tried.Moved = PadMoves tells tells' frame m head head' parts' Where
  TriedAs tells tells' frame m head head' parts' Where Was tried.Idle = AreTied i o (Stands m) nothing_lost m head' parts'
      × PadsTell tells m frame Was tried.Idle
  TriedAs tells tells' frame m head head' parts' Where Was (tried.Stuck step) = AreTied i o (Stands m) nothing_lost m head' parts'
      × PadsTell tells m frame Was (tried.Stuck step)

  -- and one of the pad of a source
  abbrev pub HeadTriedAs : Option (List Lane) → Option (List Lane) → TaskFrame → Moment → Head S I O s → Head S I O s → List (Part E O e) → Tried → Type 0
  HeadTriedAs tells tells' frame m head head' parts' tried.Moved = PadMoves tells tells' frame m head head' parts' (IsHeadPad frame)
  HeadTriedAs tells tells' frame m head head' parts' tried.Idle = AreTied i o (Stands m) nothing_lost m head' parts'
  HeadTriedAs tells tells' frame m head head' parts' (tried.Stuck step) = AreTied i o (Stands m) nothing_lost m head' parts' × HeadHolds tells m frame step

  -- and one of all
  abbrev pub AllTriedAs : Option (List Lane) → Option (List Lane) → TaskFrame → Moment → Head S I O s → Head S I O s → List (Part E O e) → Tried → Type 0
  AllTriedAs tells tells' frame m head head' parts' tried.Moved = Advances i o tells tells' frame m head head' parts'
  AllTriedAs tells tells' frame m head head' parts' tried.Idle = AreTied i o (Stands m) nothing_lost m head' parts' × AllRest m frame
  AllTriedAs tells tells' frame m head head' parts' (tried.Stuck step) = AreTied i o (Stands m) nothing_lost m head' parts' × IsStuck tells m frame head step

  -- what a question to the head makes of a moment
  abbrev pub StepsAs : Option (List Lane) → Option (List Lane) → TaskFrame → Moment → Head S I O s → Head S I O s → List (Part E O e) → Step → Type 0
  StepsAs tells tells' frame m head head' parts' Moved = Advances i o tells tells' frame m head head' parts' ⊎ Unlawful i tells tells' m head head'
  StepsAs tells tells' frame m head head' parts' (NeedsItem lane) = AreTied i o (Stands m) nothing_lost m head' parts' × (tells' ≡ tells)
  StepsAs tells tells' frame m head head' parts' (NeedsRoom lane) = AreTied i o (Stands m) nothing_lost m head' parts' × (tells' ≡ tells) × RowsKept head head'
  StepsAs tells tells' frame m head head' parts' (AtProbe command) = AreTied i o (Stands m) nothing_lost m head' parts' × (tells' ≡ tells) × RowsKept head head'
  StepsAs tells tells' frame m head head' parts' Ended = AreTied i o (Stands m) nothing_lost m head' parts' × (tells' ≡ tells) × RowsKept head head'

  -- why a head that was asked moved nothing
  abbrev pub HeadWhy : Option (List Lane) → Moment → Head S I O s → Head S I O s → List (Part E O e) → Step → Type 0
  HeadWhy tells m head head' parts' Moved = Unit {0}
  HeadWhy tells m head head' parts' Ended = HeadGaveAll m head parts'
  HeadWhy tells m head head' parts' (NeedsItem lane) = HeadLacks i tells head head' parts' lane
  HeadWhy tells m head head' parts' (NeedsRoom lane) = ⊥
  HeadWhy tells m head head' parts' (AtProbe command) = ⊥

  abbrev pub left_in : Head S I O s → List (Part E O e) → ℕ
  left_in head parts = head_left i head + sum_by (λ part. part_left part) parts

  -- Some pads were tried. An item that crossed one did so at the first that could, of which `Where` tells.
  pub record Tries (tells tells' : Option (List Lane)) (head head' : Head S I O s) (parts parts' : List (Part E O e)) (Where : Moment → ℕ → Type 0) (Was : Wire → Type 0) (answer : Tried) : Type 0 where
    pub ready : AreReady i o tells' head' parts'
    pub spends : Spends (left_in head parts) (left_in head' parts') answer
    pub table : TableStays tells tells' answer
    pub kept : ElementsStay parts parts' answer
    pub lanes : KeepsLanes (frame_in o head parts) tells tells'
    pub tries : (m : Moment) → AreTied i o (Stands m) nothing_lost m head parts
        → TriedAs tells tells' (frame_in o head parts) m head head' parts' (Where m) Was answer

  -- The pad of a source was tried.
  pub record HeadTries (tells tells' : Option (List Lane)) (head head' : Head S I O s) (parts parts' : List (Part E O e)) (answer : Tried) : Type 0 where
    pub ready : AreReady i o tells' head' parts'
    pub spends : Spends (left_in head parts) (left_in head' parts') answer
    pub table : TableStays tells tells' answer
    pub kept : ElementsStay parts parts' answer
    pub lanes : LanesGoOn i (frame_in o head parts) head head' tells tells'
    pub stays : HeadStays head head' answer
    pub tries : (m : Moment) → AreTied i o (Stands m) nothing_lost m head parts → HeadTriedAs tells tells' (frame_in o head parts) m head head' parts' answer

  -- All pads were tried.
  pub record AllTry (tells tells' : Option (List Lane)) (head head' : Head S I O s) (parts parts' : List (Part E O e)) (answer : Tried) : Type 0 where
    pub ready : AreReady i o tells' head' parts'
    pub spends : Spends (left_in head parts) (left_in head' parts') answer
    pub table : TableStays tells tells' answer
    pub kept : ElementsStay parts parts' answer
    pub lanes : LanesGoOn i (frame_in o head parts) head head' tells tells'
    pub stays : HeadStays head head' answer
    pub tries : (m : Moment) → AreTied i o (Stands m) nothing_lost m head parts → AllTriedAs tells tells' (frame_in o head parts) m head head' parts' answer

  -- The head was asked, where nothing waits at any pad.
  pub record Asks (tells tells' : Option (List Lane)) (head head' : Head S I O s) (parts parts' : List (Part E O e)) (step : Step) : Type 0 where
    pub ready : AreReady i o tells' head' parts'
    pub burns : Burns (left_in head parts) (left_in head' parts') step
    pub lanes : LanesGoOn i (frame_in o head parts) head head' tells tells'
    pub steps : (m : Moment) → AreTied i o (Stands m) nothing_lost m head parts → AllRest m (frame_in o head parts)
        → StepsAs tells tells' (frame_in o head parts) m head head' parts' step
    pub why : (m : Moment) → AreTied i o (Stands m) nothing_lost m head parts → HeadWhy tells m head head' parts' step

-- the same of tasks
module _ {S E I O L : Type 0} {s : sources.Ghosts S} {e : elements.Ghosts E} {i : inlets.Ghosts I L O} {o : outlets.Ghosts O L} where
  abbrev pub TaskTries : Option (List Lane) → Option (List Lane) → Task S E I O L s e i o → Task S E I O L s e i o → (Moment → ℕ → Type 0) → (Wire → Type 0)
      → Tried → Type 0
  TaskTries tells tells' old new Where Was answer = Tries i o tells tells' old.head new.head old.parts.items new.parts.items Where Was answer

  -- Why pads that were tried met a fault, and at which of them that was.
  pub record TaskFails (tells tells' : Option (List Lane)) (old new : Task S E I O L s e i o) (Where : Moment → ℕ → Type 0) (fault : TaskFault) : Type 0 where
    pub cause : IsCause old new fault
    pub table : tells' ≡ tells
    pub fails : (m : Moment) → Ties old m → PadFails i o m old.head new.head old.parts.items new.parts.items (Where m) fault

  abbrev pub PadTries : Option (List Lane) → Option (List Lane) → Task S E I O L s e i o → Task S E I O L s e i o → ℕ → ℕ → Tried → Type 0
  PadTries tells tells' old new place port answer = TaskTries tells tells' old new (λ m. IsAtPort (frame_of old) place port) (WireAt (frame_of old) place port) answer

  abbrev pub PadFault : Option (List Lane) → Option (List Lane) → Task S E I O L s e i o → Task S E I O L s e i o → ℕ → ℕ → TaskFault → Type 0
  PadFault tells tells' old new place port fault = TaskFails tells tells' old new (λ m. IsAtPort (frame_of old) place port) fault

  abbrev pub PartTries : Option (List Lane) → Option (List Lane) → Task S E I O L s e i o → Task S E I O L s e i o → ℕ → Tried → Type 0
  PartTries tells tells' old new place answer = TaskTries tells tells' old new (λ m. IsFirstOf tells m (frame_of old) place) (IsOfPart (frame_of old) place) answer

  abbrev pub PartFault : Option (List Lane) → Option (List Lane) → Task S E I O L s e i o → Task S E I O L s e i o → ℕ → TaskFault → Type 0
  PartFault tells tells' old new place fault = TaskFails tells tells' old new (λ m. IsFirstOf tells m (frame_of old) place) fault

  abbrev pub PartsTry : Option (List Lane) → Option (List Lane) → Task S E I O L s e i o → Task S E I O L s e i o → Tried → Type 0
  PartsTry tells tells' old new answer = TaskTries tells tells' old new (λ m. IsFirst tells m (frame_of old)) (IsOfAny (frame_of old)) answer

  abbrev pub PartsFault : Option (List Lane) → Option (List Lane) → Task S E I O L s e i o → Task S E I O L s e i o → TaskFault → Type 0
  PartsFault tells tells' old new fault = TaskFails tells tells' old new (λ m. IsFirst tells m (frame_of old)) fault

  abbrev pub SourceTries : Option (List Lane) → Option (List Lane) → Task S E I O L s e i o → Task S E I O L s e i o → Tried → Type 0
  SourceTries tells tells' old new answer = HeadTries i o tells tells' old.head new.head old.parts.items new.parts.items answer

  abbrev pub SourceFault : Option (List Lane) → Option (List Lane) → Task S E I O L s e i o → Task S E I O L s e i o → TaskFault → Type 0
  SourceFault tells tells' old new fault = TaskFails tells tells' old new (λ m. IsHeadPad (frame_of old)) fault

  abbrev pub PadsTry : Option (List Lane) → Option (List Lane) → Task S E I O L s e i o → Task S E I O L s e i o → Tried → Type 0
  PadsTry tells tells' old new answer = AllTry i o tells tells' old.head new.head old.parts.items new.parts.items answer

  abbrev pub AsksHead : Option (List Lane) → Option (List Lane) → Task S E I O L s e i o → Task S E I O L s e i o → Step → Type 0
  AsksHead tells tells' old new step = Asks i o tells tells' old.head new.head old.parts.items new.parts.items step

  -- the head met a fault as it was asked
  pub record AskFault (tells tells' : Option (List Lane)) (old new : Task S E I O L s e i o) (fault : TaskFault) : Type 0 where
    pub cause : IsCause old new fault
    pub lanes : LanesLeft i tells tells' old.head new.head fault
    pub fails : (m : Moment) → Ties old m → FailsAs i o tells tells' m old.head new.head old.parts.items new.parts.items at_head fault
