-- What stands behind an element inside of its task.
use Rattle.std.specs.Prelude.{◌≡◌, ◌≢◌, ◌⊎◌, ℕ, suc, Bool, true, false, if◌then◌else◌, List, [], ◌∷◌, Some, slice_get}
use Rattle.flow_model.specs.declared.element.TaskElement as elements
use Rattle.flow_model.specs.declared.source.TaskSource as sources
use Rattle.task_pads.specs.Behind.{inside}
use Rattle.task_pads.specs.declared.pad.Pad.{Pad}
use Rattle.task_pads.specs.Pads.{goes_of}
use Rattle.task_parts.specs.declared.head.Head.{Head}
use Rattle.task_parts.specs.declared.head.Head.TheVariants.{Source, Inlets}
use Rattle.task_parts.specs.declared.part.Part.{Part}
use Rattle.net_task.specs.Frame.{TaskFrame, Wire, IsWire, WireAt, head_wire}

-- one of these pads leads inside of the task to an element
pub record LeadTo {O : Type 0} (pads : List (Pad O)) (n port : ℕ) : Type 0 where
  pub pad : Pad O
  pub at : slice_get pads port ≡ Some pad
  pub sink : ℕ
  pub leads : goes_of pad ≡ inside n sink

module _ {E O : Type 0} {e : elements.Ghosts E} where
  -- an element of the number has a pad that leads to another
  pub record StepsTo (parts : List (Part E O e)) (m n : ℕ) : Type 0 where
    pub place : ℕ
    pub part : Part E O e
    pub at : slice_get parts place ≡ Some part
    pub number : part.number ≡ m
    pub port : ℕ
    pub lead : LeadTo part.pads.items n port

  -- An element is behind one of its task if it is that one, or a pad of one that is behind it leads to it.
  pub data IsBehind (parts : List (Part E O e)) (n : ℕ) : ℕ → Type 0 where
    itself : IsBehind parts n n
    further : (m next : ℕ) → IsBehind parts n m → StepsTo parts m next → IsBehind parts n next

  -- the element at a place has a flag, and a pad that leads to the element of a number
  pub record FlaggedAt (parts : List (Part E O e)) (flags : List Bool) (n place : ℕ) : Type 0 where
    pub part : Part E O e
    pub at : slice_get parts place ≡ Some part
    pub flag : slice_get flags place ≡ Some true
    pub port : ℕ
    pub lead : LeadTo part.pads.items n port

  abbrev pub FlaggedLeads : List (Part E O e) → List Bool → ℕ → Type 0
  FlaggedLeads parts flags n = (place : ℕ) × FlaggedAt parts flags n place

  -- the element at a place has a flag, and this number
  pub record HasFlagAt (parts : List (Part E O e)) (flags : List Bool) (n place : ℕ) : Type 0 where
    pub part : Part E O e
    pub at : slice_get parts place ≡ Some part
    pub flag : slice_get flags place ≡ Some true
    pub number : part.number ≡ n

  abbrev pub HasFlag : List (Part E O e) → List Bool → ℕ → Type 0
  HasFlag parts flags n = (place : ℕ) × HasFlagAt parts flags n place

  -- one of these pads leads inside of the task to an element with a flag
  pub record LeadFlagged (parts : List (Part E O e)) (flags : List Bool) (pads : List (Pad O)) (port : ℕ) : Type 0 where
    pub number : ℕ
    pub lead : LeadTo pads number port
    pub flag : HasFlag parts flags number

  -- the element at a place has no flag, and a pad that leads to one with a flag
  pub record OtherAt (parts : List (Part E O e)) (flags : List Bool) (place : ℕ) : Type 0 where
    pub part : Part E O e
    pub at : slice_get parts place ≡ Some part
    pub flag : slice_get flags place ≡ Some false
    pub port : ℕ
    pub lead : LeadFlagged parts flags part.pads.items port

  -- the number is that of the first one, or a pad of a flagged element leads there
  pub data IsLed (parts : List (Part E O e)) (flags : List Bool) (n m : ℕ) : Type 0 where
    first : m ≡ n → IsLed parts flags n m
    led : FlaggedLeads parts flags m → IsLed parts flags n m

  -- The element at a place has no flag yet, and is the first one or has such a pad before it.
  pub record IsNext (parts : List (Part E O e)) (flags : List Bool) (n place : ℕ) : Type 0 where
    pub part : Part E O e
    pub at : slice_get parts place ≡ Some part
    pub flag : slice_get flags place ≡ Some false
    pub leads : IsLed parts flags n part.number

  -- each element without a flag is neither
  abbrev pub NoneIsNext : List (Part E O e) → List Bool → ℕ → Type 0
  NoneIsNext parts flags n = (place : ℕ) → IsNext parts flags n place → ⊥

  -- flags by place tell which elements are behind one
  pub record TellBehind (parts : List (Part E O e)) (n : ℕ) (flags : List Bool) : Type 0 where
    pub behind : (place : ℕ) (part : Part E O e) → slice_get parts place ≡ Some part → slice_get flags place ≡ Some true → IsBehind parts n part.number
    pub others : (place : ℕ) (part : Part E O e) → slice_get parts place ≡ Some part → slice_get flags place ≡ Some false → IsBehind parts n part.number → ⊥

-- the head is a source, and its pad leads inside of the task to an element with a flag
abbrev pub SourceLeads : {S E I O : Type 0} {s : sources.Ghosts S} {e : elements.Ghosts E} → List (Part E O e) → List Bool → Head S I O s → Type 0
SourceLeads parts flags (Source head) = (n : ℕ) × (sink : ℕ) × (goes_of head.pad ≡ inside n sink) × HasFlag parts flags n
SourceLeads parts flags (Inlets head) = ⊥

-- a pad is that of the source, or of an element that is not behind one
pub data IsElsewhere {E O : Type 0} {e : elements.Ghosts E} (frame : TaskFrame) (parts : List (Part E O e)) (n : ℕ) (wire : Wire) : Type 0 where
  at_source : head_wire frame.head ≡ Some wire → IsElsewhere frame parts n wire
  at_other : (place port : ℕ) (w : WireAt frame place port wire) → (IsBehind parts n w.part.number → ⊥) → IsElsewhere frame parts n wire

-- A pad that is elsewhere leads inside of the task to what is behind an element, or any pad leads to the element itself.
pub record IsEntered {E O : Type 0} {e : elements.Ghosts E} (frame : TaskFrame) (parts : List (Part E O e)) (n : ℕ) : Type 0 where
  pub wire : Wire
  pub is : IsWire frame wire
  pub to : ℕ
  pub port : ℕ
  pub leads : wire.leads ≡ inside to port
  pub behind : IsBehind parts n to
  pub from : (to ≡ n) ⊎ IsElsewhere frame parts n wire

-- the items at places without a flag, and those at places with one
abbrev pub unflagged : {A : Type 0} → List Bool → List A → List A
unflagged [] xs = []
unflagged (f ∷ fs) [] = []
unflagged (f ∷ fs) (x ∷ xs) = if f then unflagged fs xs else x ∷ unflagged fs xs

abbrev pub flagged : {A : Type 0} → List Bool → List A → List A
flagged [] xs = []
flagged (f ∷ fs) [] = []
flagged (f ∷ fs) (x ∷ xs) = if f then x ∷ flagged fs xs else flagged fs xs

-- Items are parted, in their order: those for which something is so go, and each other one stays.
pub data AreParted {A : Type 0} (P : A → Type 0) : List A → List A → List A → Type 0 where
  none : AreParted P [] [] []
  stays : {x : A} {xs kept gone : List A} → (P x → ⊥) → AreParted P xs kept gone → AreParted P (x ∷ xs) (x ∷ kept) gone
  goes : {x : A} {xs kept gone : List A} → P x → AreParted P xs kept gone → AreParted P (x ∷ xs) kept (x ∷ gone)

-- What is behind an element of a task is a tree: no pad of the task leads to the element, and no two lead to one element.
pub record IsTree (frame : TaskFrame) (n : ℕ) : Type 0 where
  pub unfed : (wire : Wire) (port : ℕ) → IsWire frame wire → wire.leads ≢ inside n port
  pub once : (j k j' k' m port port' : ℕ) (one other : Wire) → WireAt frame j k one → WireAt frame j' k' other → one.leads ≡ inside m port → other.leads ≡ inside m port' → (j ≡ j') × (k ≡ k')
  pub source : (j k m port port' : ℕ) (one other : Wire) → WireAt frame j k one → head_wire frame.head ≡ Some other → one.leads ≡ inside m port → other.leads ≢ inside m port'

-- no place has a flag
abbrev pub NoneSet : List Bool → Type 0
NoneSet flags = (place : ℕ) → slice_get flags place ≡ Some true → ⊥

-- how many places have no flag
abbrev pub unmarked : List Bool → ℕ
unmarked [] = 0
unmarked (f ∷ fs) = if f then unmarked fs else suc (unmarked fs)
