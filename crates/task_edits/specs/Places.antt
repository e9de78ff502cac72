-- Where the source pads of a task stand.
use Rattle.std.specs.Prelude.{◌≡◌, ◌≢◌, ◌==◌, ℕ, List, [], ◌∷◌, Option, None, Some, if◌then◌else◌, slice_get}
use Rattle.flow_model.specs.declared.element.TaskElement as elements
use Rattle.flow_model.specs.declared.source.TaskSource as sources
use Rattle.task_pads.specs.declared.pad.Pad.{Pad}
use Rattle.task_pads.specs.Pads.{number_of}
use Rattle.task_parts.specs.declared.part.Part.{Part}
use Rattle.task_parts.specs.declared.head.Head.{Head}
use Rattle.task_parts.specs.declared.head.Head.TheVariants.{Source, Inlets}
use Rattle.task_edits.specs.declared.places.PadAt.{PadAt}
use Rattle.task_edits.specs.declared.places.PadAt.TheVariants as ats

-- the pad of a number stands at this port
pub record PortIs {O : Type 0} (pads : List (Pad O)) (number port : ℕ) : Type 0 where
  pub pad : Pad O
  pub at : slice_get pads port ≡ Some pad
  pub number_is : number_of pad ≡ number

-- no pad of these has the number
abbrev pub NoPort : {O : Type 0} → List (Pad O) → ℕ → Type 0
NoPort {O = O} pads number = (port : ℕ) (pad : Pad O) → slice_get pads port ≡ Some pad → number_of pad ≢ number

module _ {E O : Type 0} {e : elements.Ghosts E} where
  -- the element at a place has the pad of a number, at a port
  pub record PartHas (parts : List (Part E O e)) (number place port : ℕ) : Type 0 where
    pub part : Part E O e
    pub part_at : slice_get parts place ≡ Some part
    pub port_is : PortIs part.pads.items number port

  abbrev pub PartPadIs : List (Part E O e) → ℕ → PadAt → Type 0
  PartPadIs parts number ats.Source = ⊥
  PartPadIs parts number (ats.Part place port) = PartHas parts number place port

  -- no element has the pad of a number
  abbrev pub NoPart : List (Part E O e) → ℕ → Type 0
  NoPart parts number = (place : ℕ) (part : Part E O e) → slice_get parts place ≡ Some part → NoPort part.pads.items number

module _ {S I O : Type 0} {s : sources.Ghosts S} where
  -- the head is a source, and its pad has the number
  abbrev pub IsOfHead : Head S I O s → ℕ → Type 0
  IsOfHead (Source head) number = number_of head.pad ≡ number
  IsOfHead (Inlets head) number = ⊥

  abbrev pub HeadHasNot : Head S I O s → ℕ → Type 0
  HeadHasNot (Source head) number = number_of head.pad ≢ number
  HeadHasNot (Inlets head) number = Unit {0}

module _ {S E I O : Type 0} {s : sources.Ghosts S} {e : elements.Ghosts E} where
  -- the pad of a number stands there
  abbrev pub StandsAt : Head S I O s → List (Part E O e) → ℕ → PadAt → Type 0
  StandsAt head parts number ats.Source = IsOfHead head number
  StandsAt head parts number (ats.Part place port) = PartHas parts number place port

  -- no pad of the task has the number
  abbrev pub HasNoPad : Head S I O s → List (Part E O e) → ℕ → Type 0
  HasNoPad head parts number = HeadHasNot head number × NoPart parts number

  -- it stands somewhere
  abbrev pub HasPad : Head S I O s → List (Part E O e) → ℕ → Type 0
  HasPad head parts number = (at : PadAt) × StandsAt head parts number at

-- ---- the first pad of a number, where several have it

abbrev pub or_next : {A : Type 0} → Option A → Option A → Option A
or_next None other = other
or_next (Some one) other = Some one

abbrev pub first_port : {O : Type 0} → List (Pad O) → ℕ → Option (Pad O)
first_port [] number = None
first_port (pad ∷ pads) number = if number_of pad == number then Some pad else first_port pads number

abbrev pub first_part : {E O : Type 0} {e : elements.Ghosts E} → List (Part E O e) → ℕ → Option (Pad O)
first_part [] number = None
first_part (part ∷ parts) number = or_next (first_port part.pads.items number) (first_part parts number)

module _ {S E I O : Type 0} {s : sources.Ghosts S} {e : elements.Ghosts E} where
  abbrev pub first_pad : Head S I O s → List (Part E O e) → ℕ → Option (Pad O)
  first_pad (Source head) parts number = if number_of head.pad == number then Some head.pad else first_part parts number
  first_pad (Inlets head) parts number = first_part parts number

  -- it is the one that stands there
  abbrev pub FirstAt : Head S I O s → List (Part E O e) → ℕ → PadAt → Type 0
  FirstAt (Source head) parts number ats.Source = first_pad (Source head) parts number ≡ Some head.pad
  FirstAt (Inlets head) parts number ats.Source = ⊥
  FirstAt head parts number (ats.Part place port) = (part : Part E O e) (pad : Pad O) → slice_get parts place ≡ Some part → slice_get part.pads.items port ≡ Some pad → first_pad head parts number ≡ Some pad

-- so among pads, and among elements
abbrev pub FirstPort : {O : Type 0} → List (Pad O) → ℕ → ℕ → Type 0
FirstPort {O = O} pads number port = (pad : Pad O) → slice_get pads port ≡ Some pad → first_port pads number ≡ Some pad

abbrev pub FirstPart : {E O : Type 0} {e : elements.Ghosts E} → List (Part E O e) → ℕ → PadAt → Type 0
FirstPart parts number ats.Source = ⊥
FirstPart {E = E} {O = O} {e = e} parts number (ats.Part place port) = (part : Part E O e) (pad : Pad O) → slice_get parts place ≡ Some part → slice_get part.pads.items port ≡ Some pad → first_part parts number ≡ Some pad
