-- What no step changes at a task: the numbers of its elements and pads, and where each pad leads.
use Rattle.std.specs.Prelude.{◌==◌, ◌||◌, ◌&&◌, ℕ, Bool, true, false, List, [], ◌∷◌, map, length}
use Rattle.flow_model.specs.declared.element.TaskElement as elements
use Rattle.flow_model.specs.declared.source.TaskSource as sources
use Rattle.task_pads.specs.Behind.{Goes, nowhere, inside, over}
use Rattle.task_pads.specs.Pads.{PadShape, pad_shape}
use Rattle.task_parts.specs.declared.part.Part.{Part}
use Rattle.task_parts.specs.declared.head.Head.{Head}
use Rattle.task_parts.specs.declared.head.Head.TheVariants.{Source, Inlets}

pub record PartShape : Type 0 where
  pub number : ℕ
  pub pads : List PadShape

-- a source has one pad; an element that is fed from inlets has so many
pub data HeadShape : Type 0 where
  by_source : ℕ → PadShape → HeadShape
  by_inlets : ℕ → ℕ → HeadShape

pub record TaskShape : Type 0 where
  pub head : HeadShape
  pub parts : List PartShape

abbrev pub part_shape : {E O : Type 0} {e : elements.Ghosts E} → Part E O e → PartShape
part_shape part = record { number = part.number; pads = map pad_shape part.pads.items }

abbrev pub head_shape : {S I O : Type 0} {s : sources.Ghosts S} → Head S I O s → HeadShape
head_shape (Source head) = by_source head.number (pad_shape head.pad)
head_shape (Inlets head) = by_inlets head.number (length head.rows.items)

abbrev pub shape_of : {S E I O : Type 0} {s : sources.Ghosts S} {e : elements.Ghosts E} → Head S I O s → List (Part E O e) → TaskShape
shape_of head parts = record { head = head_shape head; parts = map part_shape parts }

-- an element of this number is there
abbrev pub has_number : ℕ → List PartShape → Bool
has_number n [] = false
has_number n (part ∷ parts) = (part.number == n) || has_number n parts

abbrev pub goes_within : List PartShape → Goes → Bool
goes_within parts nowhere = true
goes_within parts (inside number pad) = has_number number parts
goes_within parts (over lane element pad from) = true

abbrev pub pads_within : List PartShape → List PadShape → Bool
pads_within parts [] = true
pads_within parts (pad ∷ pads) = goes_within parts pad.goes && pads_within parts pads

abbrev pub all_within : List PartShape → List PartShape → Bool
all_within parts [] = true
all_within parts (part ∷ more) = pads_within parts part.pads && all_within parts more

abbrev pub head_within : List PartShape → HeadShape → Bool
head_within parts (by_source number pad) = goes_within parts pad.goes
head_within parts (by_inlets number rows) = has_number number parts

-- each element that the task names is one of it
abbrev pub is_closed : TaskShape → Bool
is_closed task = head_within task.parts task.head && all_within task.parts task.parts
