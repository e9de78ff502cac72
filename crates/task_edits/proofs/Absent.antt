-- A task does not have a pad, and have none of its number.
use Rattle.std.proofs.Common.{ℕ, List}
use Rattle.flow_model.specs.declared.element.TaskElement as elements
use Rattle.flow_model.specs.declared.source.TaskSource as sources
use Rattle.task_parts.specs.declared.head.Head.{Head}
use Rattle.task_parts.specs.declared.head.Head.TheVariants.{Source, Inlets}
use Rattle.task_parts.specs.declared.part.Part.{Part}
use Rattle.task_edits.specs.Places.{HasNoPad, HasPad}
use Rattle.task_edits.specs.declared.places.PadAt.TheVariants as ats

pub has_not : {S E I O : Type 0} {s : sources.Ghosts S} {e : elements.Ghosts E} (head : Head S I O s) (parts : List (Part E O e)) (pad : ℕ) → HasPad head parts pad → HasNoPad head parts pad → ⊥
has_not (Source head) parts pad (ats.Source, is) none = none.0 is
has_not (Inlets head) parts pad (ats.Source, is) none = is
has_not head parts pad (ats.Part place port, has) none = none.1 place has.part has.part_at port has.port_is.pad has.port_is.at has.port_is.number_is
