-- One source pad of a task is another now, and nothing else of the task changed.
use Rattle.std.specs.Prelude.{◌≡◌, ◌⊎◌, ℕ, List, Option, Some, slice_get, slice_set}
use Rattle.flow_model.specs.declared.element.TaskElement as elements
use Rattle.flow_model.specs.declared.source.TaskSource as sources
use Rattle.pad_core.specs.declared.probe.Probe.{Probe}
use Rattle.task_pads.specs.declared.pad.Behind.{Behind}
use Rattle.task_pads.specs.declared.pad.Pad.{Pad}
use Rattle.task_pads.specs.Pads.{IsLed, IsProbed, number_of, rest_of}
use Rattle.task_parts.specs.Head.{IsSameSource}
use Rattle.task_parts.specs.declared.head.Head.{Head}
use Rattle.task_parts.specs.declared.head.SourceHead.{SourceHead}
use Rattle.task_parts.specs.declared.head.Head.TheVariants.{Source, Inlets}
use Rattle.task_parts.specs.declared.part.Part.{Part}
use Rattle.task_edits.specs.Places.{HasNoPad}

-- One pad of an element is another now; the element, its number and what it put out are the same.
pub record PadIn {E O : Type 0} {e : elements.Ghosts E} (old new : Part E O e) (port : ℕ) (was is : Pad O) : Type 0 where
  pub number : new.number ≡ old.number
  pub element : new.element ≡ old.element
  pub out : new.out ≡ old.out
  pub at : slice_get old.pads.items port ≡ Some was
  pub set : new.pads.items ≡ slice_set old.pads.items port is

module _ {S E I O : Type 0} {s : sources.Ghosts S} {e : elements.Ghosts E} where
  -- The pad of the source, or one of an element, is another now.
  pub data PadIs (head : Head S I O s) (parts : List (Part E O e)) (head' : Head S I O s) (parts' : List (Part E O e)) (was is : Pad O) : Type 0 where
    of_source : (old new : SourceHead S O s) → head ≡ Source old → head' ≡ Source new → old.pad ≡ was → new.pad ≡ is → IsSameSource old new → parts' ≡ parts → PadIs head parts head' parts' was is
    of_part : (place port : ℕ) (old new : Part E O e) → slice_get parts place ≡ Some old → parts' ≡ slice_set parts place new → PadIn old new port was is → head' ≡ head → PadIs head parts head' parts' was is

  -- The pad of a number is another now, by a relation. A task without such a pad is as it was, and so is what it was to be given.
  abbrev pub Changed : (Pad O → Pad O → Type 0) → Type 0 → ℕ → Head S I O s → List (Part E O e) → Head S I O s → List (Part E O e) → Type 0
  Changed By Kept number head parts head' parts' =
      ((was : Pad O) × (is : Pad O) × (number_of was ≡ number) × By was is × PadIs head parts head' parts' was is)
      ⊎ (HasNoPad head parts number × (head' ≡ head) × (parts' ≡ parts) × Kept)

-- the pad of a source is another now
abbrev pub HeadChanged : {S I O : Type 0} {s : sources.Ghosts S} → (Pad O → Pad O → Type 0) → Head S I O s → Head S I O s → Type 0
HeadChanged By (Source old) (Source new) = By old.pad new.pad × IsSameSource old new
HeadChanged By (Source old) (Inlets new) = ⊥
HeadChanged By (Inlets old) new = new ≡ Inlets old

-- the pad of a port of an element is another now
abbrev pub PartChanged : {E O : Type 0} {e : elements.Ghosts E} → (Pad O → Pad O → Type 0) → ℕ → Part E O e → Part E O e → Type 0
PartChanged {O = O} By port old new = (was : Pad O) × (is : Pad O) × PadIn old new port was is × By was is

-- its probe is this one now
abbrev pub ProbedBy : {O : Type 0} → Option Probe → Pad O → Pad O → Type 0
ProbedBy probe was is = IsProbed was is probe

-- it leads there now, and where it led is given
abbrev pub LedBy : {O : Type 0} → Behind O → Behind O → Pad O → Pad O → Type 0
LedBy behind back was is = IsLed was is behind × (back ≡ (rest_of was).behind)
