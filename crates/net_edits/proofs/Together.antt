-- The task at a place has a pad, and an element beside it, to which the pad may lead.
use Rattle.std.proofs.Common.{◌≡◌, ◌<◌, ◌∙◌, ℕ, zero, suc, true, List, [], ◌∷◌, length, map, Some, get_or, inl, inr, sym, subst}
use Rattle.std.specs.Prelude.{slice_get}
use Rattle.std.proofs.lemmas.Option.{slice_get_within}
use Rattle.flow_model.specs.Item.{Item}
use Rattle.gst_item.specs.Sticky.{stickies}
use Rattle.gst_value.proofs.Basics.{and_left, and_right, some_same}
use Rattle.gst_value.proofs.Places.{map_get}
use Rattle.lane_core.specs.declared.ends.Inlet as inlets
use Rattle.lane_core.specs.declared.ends.Outlet as outlets
use Rattle.flow_model.specs.Moment.{Moment}
use Rattle.flow_model.specs.declared.element.TaskElement as elements
use Rattle.flow_model.specs.declared.source.TaskSource as sources
use Rattle.net_task.specs.Ties.{Ties}
use Rattle.net_task.specs.declared.task.Task.{Task}
use Rattle.task_pads.specs.Pads.{PadShape, goes_of, pad_shape}
use Rattle.task_pads.specs.declared.pad.Pad.{Pad}
use Rattle.task_parts.specs.Shape.{PartShape, all_within, goes_within, has_number, head_shape, head_within, is_closed, pads_within, part_shape, shape_of}
use Rattle.task_parts.specs.declared.head.Head.{Head}
use Rattle.task_parts.specs.declared.part.Part.{Part}
use Rattle.task_parts.proofs.Tries.{named_in}
use Rattle.task_pads.proofs.Lists.{some_at}
use Rattle.task_edits.proofs.Absent.{has_not}
use Rattle.task_edits.specs.Inside.{IsPadOf, LeadsInside, NotInside}
use Rattle.task_edits.specs.declared.inside.Inside.{Inside}
use Rattle.task_edits.specs.Places.{HasPad}
use Rattle.net_edits.specs.Inside.{AreOpening, HasBoth, HasInside, HasOutside}
use Rattle.net_edits.specs.Nets.{TaskHas}

module _ {S E I O L : Type 0} {s : sources.Ghosts S} {e : elements.Ghosts E} {i : inlets.Ghosts I L O} {o : outlets.Ghosts O L} (tasks : List (Task S E I O L s e i o)) (pad element place : ℕ) (both : HasBoth tasks pad element place) where
  pub both_within : place < length tasks
  both_within = slice_get_within tasks place both.task both.at

  pub both_element : (task : Task S E I O L s e i o) → slice_get tasks place ≡ Some task → has_number element (map part_shape task.parts.items) ≡ true
  both_element task at = subst (λ (t : Task S E I O L s e i o). has_number element (map part_shape t.parts.items) ≡ true) (some_same (sym both.at ∙ at)) both.has_element

module _ {S E I O L : Type 0} {s : sources.Ghosts S} {e : elements.Ghosts E} {i : inlets.Ghosts I L O} {o : outlets.Ghosts O L} (tasks : List (Task S E I O L s e i o)) (place pad : ℕ) where
  -- what is so of the task at a place as it was read
  pub opening_read : (task : Task S E I O L s e i o) (items : List Item) → slice_get tasks place ≡ Some task → ((m : Moment) → Ties task m → HasPad task.head task.parts.items pad → items ≡ stickies (m.history pad)) → AreOpening tasks place pad items
  opening_read task items at all = λ other there. subst (λ (t : Task S E I O L s e i o). (m : Moment) → Ties t m → HasPad t.head t.parts.items pad → items ≡ stickies (m.history pad)) (some_same (sym at ∙ there)) all

-- where each element that is named is there, so is the one to which a pad leads
goes_in : (shapes : List PartShape) (pads : List PadShape) (k : ℕ) (one : PadShape) → pads_within shapes pads ≡ true → slice_get pads k ≡ Some one → goes_within shapes one.goes ≡ true
goes_in shapes [] k one within at = absurd cc
goes_in shapes (p ∷ pads) zero one within at = subst (λ (z : PadShape). goes_within shapes z.goes ≡ true) (some_same at) (and_left (goes_within shapes p.goes) (pads_within shapes pads) within)
goes_in shapes (p ∷ pads) (suc k) one within at = goes_in shapes pads k one (and_right (goes_within shapes p.goes) (pads_within shapes pads) within) at

pads_in : (shapes all : List PartShape) (k : ℕ) (one : PartShape) → all_within shapes all ≡ true → slice_get all k ≡ Some one → pads_within shapes one.pads ≡ true
pads_in shapes [] k one within at = absurd cc
pads_in shapes (p ∷ all) zero one within at = subst (λ (z : PartShape). pads_within shapes z.pads ≡ true) (some_same at) (and_left (pads_within shapes p.pads) (all_within shapes all) within)
pads_in shapes (p ∷ all) (suc k) one within at = pads_in shapes all k one (and_right (pads_within shapes p.pads) (all_within shapes all) within) at

module _ {S E I O : Type 0} {s : sources.Ghosts S} {e : elements.Ghosts E} (head : Head S I O s) (parts : List (Part E O e)) (closed : is_closed (shape_of head parts) ≡ true) where
  goes_within_of : (pad : Pad O) → IsPadOf head parts pad → goes_within (map part_shape parts) (goes_of pad) ≡ true
  goes_within_of pad (IsPadOf.of_source source is same) =
      subst (λ (z : Pad O). goes_within (map part_shape parts) (goes_of z) ≡ true) same
      (subst (λ (h : Head S I O s). head_within (map part_shape parts) (head_shape h) ≡ true) is (and_left (head_within (map part_shape parts) (head_shape head)) (all_within (map part_shape parts) (map part_shape parts)) closed))
  goes_within_of pad (IsPadOf.of_part place port one at pad_at) =
      goes_in (map part_shape parts) (map pad_shape one.pads.items) port (pad_shape pad)
      (pads_in (map part_shape parts) (map part_shape parts) place (part_shape one) (and_right (head_within (map part_shape parts) (head_shape head)) (all_within (map part_shape parts) (map part_shape parts)) closed) (map_get part_shape parts place one at))
      (map_get pad_shape one.pads.items port pad pad_at)

  pub leads_has : (pad : ℕ) (to : Inside) → LeadsInside head parts pad to → has_number to.element (map part_shape parts) ≡ true
  leads_has pad to l = named_in (map part_shape parts) (goes_of l.pad) to.element to.pad l.leads (goes_within_of l.pad l.is)

module _ {S E I O L : Type 0} {s : sources.Ghosts S} {e : elements.Ghosts E} {i : inlets.Ghosts I L O} {o : outlets.Ghosts O L} (tasks : List (Task S E I O L s e i o)) (pad place : ℕ) where
  pub pad_within : TaskHas tasks pad place → place < length tasks
  pad_within has = slice_get_within tasks place has.task has.at

  -- it is an element of the task at the place
  pub inside_element : (to : Inside) (h : HasInside tasks pad place to) (task : Task S E I O L s e i o) → slice_get tasks place ≡ Some task → has_number to.element (map part_shape task.parts.items) ≡ true
  inside_element to h task at =
      subst (λ (t : Task S E I O L s e i o). has_number to.element (map part_shape t.parts.items) ≡ true) (some_same (sym h.at ∙ at)) (leads_has h.task.head h.task.parts.items h.task.closed pad to h.leads)

  -- where the pad was looked up and leads to no element of its task
  pub leads_out : (has : TaskHas tasks pad place) (task : Task S E I O L s e i o) → task ≡ get_or tasks place task → NotInside task.head task.parts.items pad → HasOutside tasks pad place
  leads_out has task is none = go none
    where
      at : slice_get tasks place ≡ Some task
      at = some_at tasks place task (pad_within has) is

      there : HasPad task.head task.parts.items pad
      there = subst (λ (t : Task S E I O L s e i o). HasPad t.head t.parts.items pad) (some_same (sym has.at ∙ at)) has.has

      go : NotInside task.head task.parts.items pad → HasOutside tasks pad place
      go (inl lacks) = absurd (has_not task.head task.parts.items pad there lacks)
      go (inr leads) = record { task = task; at = at; leads = leads }
