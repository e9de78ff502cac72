-- What one try of a pad, or of a head, moves.
use Rattle.std.specs.Prelude.{◌≡◌, ◌≤◌, ◌⊎◌, ◌+◌, ◌++◌, ℕ, true, false, List, [], ◌∷◌, Option, None, Some, Result, Ok, Err, length, slice_get, slice_set}
use Rattle.flow_model.specs.Item.{Item, is_flush_stop}
use Rattle.lane_core.specs.Lane.{Lane}
use Rattle.lane_core.specs.declared.ends.Inlet as inlets
use Rattle.lane_core.specs.declared.ends.Outlet as outlets
use Rattle.flow_model.specs.declared.element.TaskElement as elements
use Rattle.flow_model.specs.declared.source.TaskSource as sources
use Rattle.flow_model.specs.declared.refusal.Refusal.{Refusal}
use Rattle.flow_model.specs.declared.refusal.Unread.{Unread}
use Rattle.flow_model.specs.Failures.{IsReadCause}
use Rattle.flow_model.specs.Short.{StopsShort}
use Rattle.inlet_row.specs.declared.row.InletRow.{InletRow}
use Rattle.inlet_row.specs.Taken.{Taken}
use Rattle.inlet_row.specs.Taken as takes
use Rattle.inlet_row.specs.Row.{AreApart, RowBetween, RowGave, RowIn}
use Rattle.inlet_row.specs.Take.{HoldsAfter, Moves, KeepsLanes, list_after}
use Rattle.task_pads.specs.declared.pad.Pad.{Pad}
use Rattle.task_pads.specs.declared.crossing.Crossing.{Crossing}
use Rattle.task_pads.specs.declared.crossing.Crossing.TheVariants.{Idle, To, Gone, Full, AtProbe, NotLinked, BehindEos, AtLimit, OutOfMemory}
use Rattle.task_pads.specs.Behind.{place_in}
use Rattle.task_pads.specs.Pads.{HasCrossed, KeepsTable, PadReady, crossed_count, end_of, number_of, pad_shape, probe_of, rest_of, waiting_of}
use Rattle.task_pads.specs.Crossing.{IsCrossing}
use Rattle.task_pads.specs.Put.{IsTaken}
use Rattle.task_parts.specs.declared.part.Part.{Part}
use Rattle.task_parts.specs.declared.head.SourceHead.{SourceHead}
use Rattle.task_parts.specs.declared.head.InletHead.{InletHead}
use Rattle.task_parts.specs.declared.head.Given.TheVariants as given
use Rattle.task_parts.specs.declared.step.Tried.{Tried}
use Rattle.task_parts.specs.declared.step.Tried.TheVariants as tried
use Rattle.task_parts.specs.declared.step.Step.TheVariants as steps
use Rattle.task_parts.specs.declared.fault.TaskFault.{TaskFault}
use Rattle.task_parts.specs.declared.fault.TaskFault.TheVariants as faults
use Rattle.task_parts.specs.Fault.{refusal_fault, unread_fault}
use Rattle.task_parts.specs.Found.{IsAt}
use Rattle.task_parts.specs.Head.{SourceKept, SourceGives}
use Rattle.task_parts.specs.Moved.{PartSet, HandedOn, HandedBack}
use Rattle.task_parts.specs.Part.{PartCrossed, PartSettled, PartFed, PartFell}

module _ {E O : Type 0} {e : elements.Ghosts E} where
  -- the element at a place has a pad of this port, and each element that this names is one of them
  pub record HasPort (parts : List (Part E O e)) (place port : ℕ) : Type 0 where
    pub part : Part E O e
    pub at : slice_get parts place ≡ Some part
    pub pad : Pad O
    pub pad_at : slice_get part.pads.items port ≡ Some pad

  -- what the element at a place put out went to its pads, as far as there was memory
  pub record Settles (parts parts' : List (Part E O e)) (place : ℕ) : Type 0 where
    pub was : Part E O e
    pub is : Part E O e
    pub set : PartSet parts parts' place was is
    pub settled : PartSettled was is

  -- the item that crossed the pad of a port went to the element of a number, which took it or refused it
  abbrev pub HandsTo : List (Part E O e) → List (Part E O e) → ℕ → ℕ → ℕ → ℕ → Result Tried TaskFault → Type 0
  HandsTo parts parts' place port number pad (Ok answer) =
      (answer ≡ tried.Moved) × (to : ℕ) × IsAt parts number to × HandedOn parts parts' place port to pad
  HandsTo parts parts' place port number pad (Err fault) =
      (refusal : Refusal) × (fault ≡ refusal_fault number refusal) × (to : ℕ) × IsAt parts number to × HandedBack parts parts' place port to pad refusal

  -- what comes of a crossing of a pad of an element
  abbrev pub AfterPart : List (Part E O e) → List (Part E O e) → ℕ → ℕ → Part E O e → Pad O → Crossing → Result Tried TaskFault → Type 0
  AfterPart parts parts' place port part pad Idle result = (parts' ≡ parts) × (result ≡ Ok tried.Idle)
  AfterPart parts parts' place port part pad (To number hint sink) result = HandsTo parts parts' place port number sink result
  AfterPart parts parts' place port part pad Gone result = (parts' ≡ parts) × (result ≡ Ok tried.Moved)
  AfterPart parts parts' place port part pad BehindEos result = (parts' ≡ parts) × (result ≡ Ok (tried.Stuck steps.Ended))
  AfterPart parts parts' place port part pad (Full lane) result = (parts' ≡ parts) × (result ≡ Ok (tried.Stuck (steps.NeedsRoom lane)))
  AfterPart parts parts' place port part pad (AtProbe command) result = (parts' ≡ parts) × (result ≡ Ok (tried.Stuck (steps.AtProbe command)))
  AfterPart parts parts' place port part pad NotLinked result = (parts' ≡ parts) × (result ≡ Err (faults.NotLinked (number_of pad) (crossed_count pad)))
  AfterPart parts parts' place port part pad AtLimit result = (parts' ≡ parts) × (result ≡ Err (faults.TooLong part.number 1099511627776 1))
  AfterPart parts parts' place port part pad OutOfMemory result = (parts' ≡ parts) × (result ≡ Err faults.OutOfMemory)

  -- what an element took of an item that came from a row
  abbrev pub RowFeeds : List (Part E O e) → List (Part E O e) → ℕ → ℕ → Item → Result Tried TaskFault → Type 0
  RowFeeds parts parts' to port x (Ok answer) =
      (answer ≡ tried.Moved) × (was : Part E O e) × (is : Part E O e) × PartSet parts parts' to was is × PartFed was is port x
  RowFeeds parts parts' to port x (Err fault) =
      (refusal : Refusal) × (was : Part E O e) × (is : Part E O e) × PartSet parts parts' to was is × PartFell was is port x refusal × (fault ≡ refusal_fault was.number refusal)

  -- the element at a place was given an item that came from a row; a FLUSH_STOP is given up
  abbrev pub RowFed : List (Part E O e) → List (Part E O e) → ℕ → ℕ → Item → Result Tried TaskFault → Type 0
  RowFed parts parts' to port x result =
      ((is_flush_stop x ≡ true) × (parts' ≡ parts) × (result ≡ Ok tried.Moved)) ⊎ ((is_flush_stop x ≡ false) × RowFeeds parts parts' to port x result)

-- The pad of a port of the element at a place was tried.
pub record CrossesPart {E O L : Type 0} {e : elements.Ghosts E} (o : outlets.Ghosts O L) (parts parts' : List (Part E O e)) (place port : ℕ) (tells tells' : Option (List Lane)) (result : Result Tried TaskFault) : Type 0 where
  pub was : Part E O e
  pub is : Part E O e
  pub between : List (Part E O e)
  pub set : PartSet parts between place was is
  pub crossing : Crossing
  pub crossed : PartCrossed o was is port tells tells' crossing
  pub after : AfterPart between parts' place port is crossed.is crossing result

module _ {S O : Type 0} {s : sources.Ghosts S} where
  -- the pad of a source is another now
  pub record SourceSet (head head' : SourceHead S O s) : Type 0 where
    pub number : head'.number ≡ head.number
    pub source : head'.source ≡ head.source
    pub given : head'.given ≡ head.given
    pub shape : pad_shape head'.pad ≡ pad_shape head.pad

module _ {S E O : Type 0} {s : sources.Ghosts S} {e : elements.Ghosts E} where
  -- the item that crossed the source's pad was taken from it, and the element at a place took it
  pub record SourceHanded (head head' : SourceHead S O s) (parts parts' : List (Part E O e)) (to pad : ℕ) : Type 0 where
    pub item : Item
    pub set : SourceSet head head'
    pub rest : rest_of head'.pad ≡ rest_of head.pad
    pub taken : IsTaken head.pad head'.pad (Some item)
    pub eater : Part E O e
    pub ate : Part E O e
    pub fed : PartSet parts parts' to eater ate
    pub took : PartFed eater ate pad item

  -- the element refused it, and the crossing was taken back
  pub record SourceBack (head head' : SourceHead S O s) (parts parts' : List (Part E O e)) (to pad : ℕ) (refusal : Refusal) : Type 0 where
    pub item : Item
    pub set : SourceSet head head'
    pub between : Pad O
    pub rest : rest_of between ≡ rest_of head.pad
    pub taken : IsTaken head.pad between (Some item)
    pub history : (h : List Item) (x : Item) → HasCrossed between (h ++ x ∷ []) → HasCrossed head'.pad h
    pub counted : crossed_count head'.pad + 1 ≡ crossed_count between
    pub probe : probe_of head'.pad ≡ probe_of between
    pub waiting : waiting_of head'.pad ≡ waiting_of between
    pub behind : (rest_of head'.pad).behind ≡ (rest_of between).behind
    pub eater : Part E O e
    pub ate : Part E O e
    pub fed : PartSet parts parts' to eater ate
    pub fell : PartFell eater ate pad item refusal

  abbrev pub SourceHandsTo : SourceHead S O s → SourceHead S O s → List (Part E O e) → List (Part E O e) → ℕ → ℕ → Result Tried TaskFault → Type 0
  SourceHandsTo head head' parts parts' number pad (Ok answer) =
      (answer ≡ tried.Moved) × (to : ℕ) × IsAt parts number to × SourceHanded head head' parts parts' to pad
  SourceHandsTo head head' parts parts' number pad (Err fault) =
      (refusal : Refusal) × (fault ≡ refusal_fault number refusal) × (to : ℕ) × IsAt parts number to × SourceBack head head' parts parts' to pad refusal

  -- what comes of a crossing of the source's pad
  abbrev pub AfterSource : SourceHead S O s → SourceHead S O s → List (Part E O e) → List (Part E O e) → Crossing → Result Tried TaskFault → Type 0
  AfterSource head head' parts parts' Idle result = (head' ≡ head) × (parts' ≡ parts) × (result ≡ Ok tried.Idle)
  AfterSource head head' parts parts' (To number hint sink) result = SourceHandsTo head head' parts parts' number sink result
  AfterSource head head' parts parts' Gone result = (head' ≡ head) × (parts' ≡ parts) × (result ≡ Ok tried.Moved)
  AfterSource head head' parts parts' BehindEos result = (head' ≡ head) × (parts' ≡ parts) × (result ≡ Ok (tried.Stuck steps.Ended))
  AfterSource head head' parts parts' (Full lane) result = (head' ≡ head) × (parts' ≡ parts) × (result ≡ Ok (tried.Stuck (steps.NeedsRoom lane)))
  AfterSource head head' parts parts' (AtProbe command) result = (head' ≡ head) × (parts' ≡ parts) × (result ≡ Ok (tried.Stuck (steps.AtProbe command)))
  AfterSource head head' parts parts' NotLinked result = (head' ≡ head) × (parts' ≡ parts) × (result ≡ Err (faults.NotLinked (number_of head.pad) (crossed_count head.pad)))
  AfterSource head head' parts parts' AtLimit result = (head' ≡ head) × (parts' ≡ parts) × (result ≡ Err (faults.TooLong head.number 1099511627776 1))
  AfterSource head head' parts parts' OutOfMemory result = (head' ≡ head) × (parts' ≡ parts) × (result ≡ Err faults.OutOfMemory)

-- The pad of a source was tried. It has no sibling.
pub record CrossesSource {S E O L : Type 0} {s : sources.Ghosts S} {e : elements.Ghosts E} (o : outlets.Ghosts O L) (head head' : SourceHead S O s) (parts parts' : List (Part E O e)) (tells tells' : Option (List Lane)) (result : Result Tried TaskFault) : Type 0 where
  pub between : SourceHead S O s
  pub set : SourceSet head between
  pub crossing : Crossing
  pub crossed : IsCrossing o head.pad between.pad tells tells' false crossing
  pub probe : probe_of between.pad ≡ probe_of head.pad
  pub table : KeepsTable (place_in (end_of o head.pad)) tells tells'
  pub ready : PadReady o tells' between.pad
  pub after : AfterSource between head' parts parts' crossing result

-- what a source that was asked answers as a task
abbrev pub GivesAs : {S O : Type 0} {s : sources.Ghosts S} → SourceHead S O s → SourceHead S O s → Result Tried TaskFault → Type 0
GivesAs {s = s} head head' (Ok tried.Moved) = SourceGives head head' given.Item ⊎ SourceGives head head' given.FlushStop
GivesAs head head' (Ok tried.Idle) = SourceGives head head' given.Ended
GivesAs head head' (Ok (tried.Stuck step)) = ⊥
GivesAs {s = s} head head' (Err fault) =
    (SourceGives head head' given.AtLimit × (fault ≡ faults.TooLong head.number 1099511627776 1))
    ⊎ ((unread : Unread) × (fault ≡ unread_fault head.number unread) × SourceKept head head' × IsReadCause (s.failures head.source) (s.failures head'.source) unread
    × ((owed gave : List Item) → s.gave head.source owed gave → StopsShort owed gave unread))

module _ {I O L : Type 0} (i : inlets.Ghosts I L O) where
  -- the lanes of all rows are of the table
  abbrev pub InletsReady : Option (List Lane) → InletHead I → Type 0
  InletsReady tells head = (port : ℕ) (row : InletRow I) → slice_get head.rows.items port ≡ Some row → RowIn i tells row

  -- one row is another now
  pub record RowSet (head head' : InletHead I) (port : ℕ) (was is : InletRow I) : Type 0 where
    pub number : head'.number ≡ head.number
    pub at : slice_get head.rows.items port ≡ Some was
    pub set : head'.rows.items ≡ slice_set head.rows.items port is

  -- the row of a sink pad was asked for its next item; an element has a row for each of its sink pads
  pub record AsksRow (head head' : InletHead I) (port : ℕ) (tells tells' : Option (List Lane)) (taken : Taken) : Type 0 where
    pub was : InletRow I
    pub is : InletRow I
    pub set : RowSet head head' port was is
    pub gave : (got : List Item) → RowGave i was got → RowGave i is (list_after got taken)
    pub stays : KeepsLanes i tells tells' was is taken
    pub moves : Moves i tells tells' was is taken
    pub between : (sents : ℕ → List Item) (got : List Item) → AreApart i was → RowBetween i tells sents was got → RowBetween i tells' sents is (list_after got taken)
    pub holds : (t : List Lane) (sents : ℕ → List Item) (got : List Item) → tells ≡ Some t → AreApart i was → RowBetween i (Some t) sents was got → HoldsAfter i t tells' was is taken

  -- the sink pad has no row
  pub record HasNoRow (head head' : InletHead I) (port : ℕ) (tells tells' : Option (List Lane)) (taken : Taken) : Type 0 where
    pub past : length head.rows.items ≤ port
    pub number : head'.number ≡ head.number
    pub rows : head'.rows ≡ head.rows
    pub table : tells' ≡ tells
    pub empty : taken ≡ takes.Empty 4294967295

  -- the row of the sink pad was asked, if it has one
  abbrev pub RowAsked : InletHead I → InletHead I → ℕ → Option (List Lane) → Option (List Lane) → Taken → Type 0
  RowAsked head head' port tells tells' taken = AsksRow head head' port tells tells' taken ⊎ HasNoRow head head' port tells tells' taken

module _ {E I O L : Type 0} {e : elements.Ghosts E} (i : inlets.Ghosts I L O) where
  abbrev pub AfterTake : List (Part E O e) → List (Part E O e) → ℕ → ℕ → Taken → Result Tried TaskFault → Type 0
  AfterTake parts parts' to port (takes.Empty lane) result = (parts' ≡ parts) × (result ≡ Ok (tried.Stuck (steps.NeedsItem lane)))
  AfterTake parts parts' to port (takes.Item x) result = RowFed parts parts' to port x result

  -- the element that the head feeds wants no more: each of its sink pads had EOS
  pub record WantsNone (head head' : InletHead I) (parts parts' : List (Part E O e)) (part : Part E O e) (tells tells' : Option (List Lane)) (result : Result Tried TaskFault) : Type 0 where
    pub wanted : e.wanted part.element ≡ None
    pub number : head'.number ≡ head.number
    pub rows : head'.rows ≡ head.rows
    pub parts_same : parts' ≡ parts
    pub table : tells' ≡ tells
    pub idle : result ≡ Ok tried.Idle

  -- it wants an item of one of them
  pub record WantsOne (head head' : InletHead I) (parts parts' : List (Part E O e)) (part : Part E O e) (to : ℕ) (tells tells' : Option (List Lane)) (result : Result Tried TaskFault) : Type 0 where
    pub port : ℕ
    pub wanted : e.wanted part.element ≡ Some port
    pub taken : Taken
    pub asks : RowAsked i head head' port tells tells' taken
    pub after : AfterTake parts parts' to port taken result

  -- The element that the head feeds was asked what it wants, and took the next item of that row, if there is one now.
  pub record TakesNext (head head' : InletHead I) (parts parts' : List (Part E O e)) (tells tells' : Option (List Lane)) (result : Result Tried TaskFault) : Type 0 where
    pub to : ℕ
    pub fed : IsAt parts head.number to
    pub next : WantsNone head head' parts parts' fed.part tells tells' result ⊎ WantsOne head head' parts parts' fed.part to tells tells' result
