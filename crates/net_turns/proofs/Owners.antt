-- The pads and the elements of a task, by its frame.
use Rattle.std.proofs.Common.{◌≡◌, ◌⊎◌, ℕ, zero, suc, Bool, true, false, eqb, ◌||◌, List, [], ◌∷◌, map, Option, Some, None, refl, sym, ap, ◌∙◌, subst, inl, inr}
use Rattle.std.specs.Prelude.{slice_get}
use Rattle.std.proofs.lemmas.Bool.Decides.{eqb_tells}
use Rattle.lane_core.specs.declared.ends.Outlet as outlets
use Rattle.flow_model.specs.declared.element.TaskElement as elements
use Rattle.flow_model.specs.declared.source.TaskSource as sources
use Rattle.task_pads.specs.declared.pad.Pad.{Pad}
use Rattle.task_pads.specs.Behind.{inside}
use Rattle.task_pads.specs.Pads.{PadShape, goes_of, pad_shape}
use Rattle.task_parts.specs.declared.part.Part.{Part}
use Rattle.task_parts.specs.declared.head.InletHead.{InletHead}
use Rattle.task_parts.specs.declared.head.Head.{Head}
use Rattle.task_parts.specs.declared.head.Head.TheVariants.{Source, Inlets}
use Rattle.task_parts.specs.Shape.{PartShape, all_within, goes_within, has_number, head_shape, head_within, is_closed, pads_within, part_shape, shape_of}
use Rattle.net_task.specs.Frame.{PartFrame, Wire, IsWire, of_part as wire_part, of_head as wire_head, frame_in, part_frame, wire_of}
use Rattle.net_turns.specs.Net.{HasElement, part as has_part}
use Rattle.gst_value.proofs.Basics.{and_left, and_right, some_same}
use Rattle.gst_value.proofs.Places.{map_get, map_got as get_map}
use Rattle.task_parts.proofs.Tries.{named_in as within_number}

module _ {E O : Type 0} {e : elements.Ghosts E} where
  -- an element of the number is among these
  pub record PartOf (parts : List (Part E O e)) (n : ℕ) : Type 0 where
    pub place : ℕ
    pub part : Part E O e
    pub at : slice_get parts place ≡ Some part
    pub number : part.number ≡ n

  found_or : (part : Part E O e) (parts : List (Part E O e)) (n : ℕ) → ((eqb part.number n ≡ true) × (part.number ≡ n)) ⊎ ((eqb part.number n ≡ false) × (part.number ≡ n → ⊥))
      → (has_number n (map part_shape parts) ≡ true → PartOf parts n) → (eqb part.number n || has_number n (map part_shape parts)) ≡ true → PartOf (part ∷ parts) n
  found_or part parts n (inl t) more h = record { place = 0; part = part; at = refl; number = t.1 }
  found_or part parts n (inr t) more h =
      let found = more (rest (eqb part.number n) (has_number n (map part_shape parts)) t.0 h) in
      record { place = suc found.place; part = found.part; at = found.at; number = found.number }
    where
      rest : (a b : Bool) → a ≡ false → (a || b) ≡ true → b ≡ true
      rest true b f h = absurd cc
      rest false b f h = h

  pub number_part : (parts : List (Part E O e)) (n : ℕ) → has_number n (map part_shape parts) ≡ true → PartOf parts n
  number_part [] n h = absurd cc
  number_part (part ∷ parts) n h = found_or part parts n (eqb_tells part.number n) (number_part parts n) h

pads_each : (parts : List PartShape) (pads : List PadShape) → pads_within parts pads ≡ true → (k : ℕ) (pad : PadShape) → slice_get pads k ≡ Some pad → goes_within parts pad.goes ≡ true
pads_each parts [] h k pad at = absurd cc
pads_each parts (one ∷ pads) h zero pad at = subst (λ (p : PadShape). goes_within parts p.goes ≡ true) (some_same at) (and_left (goes_within parts one.goes) (pads_within parts pads) h)
pads_each parts (one ∷ pads) h (suc k) pad at = pads_each parts pads (and_right (goes_within parts one.goes) (pads_within parts pads) h) k pad at

parts_each : (parts more : List PartShape) → all_within parts more ≡ true → (j : ℕ) (part : PartShape) → slice_get more j ≡ Some part → pads_within parts part.pads ≡ true
parts_each parts [] h j part at = absurd cc
parts_each parts (one ∷ more) h zero part at = subst (λ (p : PartShape). pads_within parts p.pads ≡ true) (some_same at) (and_left (pads_within parts one.pads) (all_within parts more) h)
parts_each parts (one ∷ more) h (suc j) part at = parts_each parts more (and_right (pads_within parts one.pads) (all_within parts more) h) j part at

module _ {S I O : Type 0} {s : sources.Ghosts S} where
  -- the number of the element that is fed from inlets
  abbrev fed_number : Head S I O s → ℕ
  fed_number (Source source) = 0
  fed_number (Inlets fed) = fed.number

  -- the pad of a source
  abbrev pub source_pad : Head S I O s → Option (Pad O)
  source_pad (Source source) = Some source.pad
  source_pad (Inlets fed) = None

module _ {S E I O : Type 0} {s : sources.Ghosts S} {e : elements.Ghosts E} where
  -- one of the source pads of a head and elements
  pub data IsPadOf (head : Head S I O s) (parts : List (Part E O e)) (pad : Pad O) : Type 0 where
    of_part : (j k : ℕ) (part : Part E O e) → slice_get parts j ≡ Some part → slice_get part.pads.items k ≡ Some pad → IsPadOf head parts pad
    of_source : source_pad head ≡ Some pad → IsPadOf head parts pad

  -- an element that a pad or the head names is one of the task
  closed_parts : (head : Head S I O s) (parts : List (Part E O e)) → is_closed (shape_of head parts) ≡ true → (pad : Pad O) (j k : ℕ) (part : Part E O e) → slice_get parts j ≡ Some part
      → slice_get part.pads.items k ≡ Some pad → goes_within (map part_shape parts) (goes_of pad) ≡ true
  closed_parts head parts c pad j k part at pad_at =
      pads_each
      (map part_shape parts)
      (map pad_shape part.pads.items)
      (parts_each (map part_shape parts) (map part_shape parts) (and_right _ _ c) j (part_shape part) (map_get part_shape parts j part at))
      k
      (pad_shape pad)
      (map_get pad_shape part.pads.items k pad pad_at)

  closed_source : (head : Head S I O s) (parts : List (Part E O e)) → is_closed (shape_of head parts) ≡ true → (pad : Pad O) → source_pad head ≡ Some pad
      → goes_within (map part_shape parts) (goes_of pad) ≡ true
  closed_source (Source source) parts c pad is = subst (λ (one : Pad O). goes_within (map part_shape parts) (goes_of one) ≡ true) (some_same is) (and_left _ _ c)
  closed_source (Inlets fed) parts c pad is = absurd cc

  pub closed_pad : (head : Head S I O s) (parts : List (Part E O e)) → is_closed (shape_of head parts) ≡ true → (pad : Pad O) → IsPadOf head parts pad → (n k : ℕ) → goes_of pad ≡ inside n k
      → has_number n (map part_shape parts) ≡ true
  closed_pad head parts c pad (of_part j k part at pad_at) n i leads = within_number (map part_shape parts) (goes_of pad) n i leads (closed_parts head parts c pad j k part at pad_at)
  closed_pad head parts c pad (of_source is) n i leads = within_number (map part_shape parts) (goes_of pad) n i leads (closed_source head parts c pad is)

  pub closed_head : (head : Head S I O s) (parts : List (Part E O e)) → is_closed (shape_of head parts) ≡ true → (fed : InletHead I) → head ≡ Inlets fed
      → has_number fed.number (map part_shape parts) ≡ true
  closed_head head parts c fed is = go head is (and_left _ _ c)
    where
      go : (one : Head S I O s) → one ≡ Inlets fed → head_within (map part_shape parts) (head_shape one) ≡ true → has_number fed.number (map part_shape parts) ≡ true
      go (Source source) is h = absurd cc
      go (Inlets other) is h = subst (λ (k : ℕ). has_number k (map part_shape parts) ≡ true) (ap fed_number is) h

module _ {S E I O L : Type 0} {s : sources.Ghosts S} {e : elements.Ghosts E} (o : outlets.Ghosts O L) where
  -- pads and wires
  pub wire_pad : (head : Head S I O s) (parts : List (Part E O e)) (wire : Wire) → IsWire (frame_in o head parts) wire → (pad : Pad O) × IsPadOf head parts pad × (wire ≡ wire_of o pad)
  wire_pad head parts wire (wire_part j k w) =
      let a = get_map (part_frame o) parts j w.part w.at in
      let b = get_map (wire_of o) a.0.pads.items k wire (ap (λ (one : PartFrame). slice_get one.wires k) (sym a.2) ∙ w.pad_at) in
      (b.0, of_part j k a.0 a.1 b.1, b.2)
  wire_pad (Source source) parts wire (wire_head at) = (source.pad, of_source refl, sym (some_same at))
  wire_pad (Inlets fed) parts wire (wire_head at) = absurd cc

  pub pad_wire : (head : Head S I O s) (parts : List (Part E O e)) (pad : Pad O) → IsPadOf head parts pad → IsWire (frame_in o head parts) (wire_of o pad)
  pad_wire head parts pad (of_part j k part at pad_at) =
      wire_part j k record { part = part_frame o part; at = map_get (part_frame o) parts j part at; pad_at = map_get (wire_of o) part.pads.items k pad pad_at }
  pad_wire (Source source) parts pad (of_source is) = wire_head (ap (λ (one : Pad O). Some (wire_of o one)) (some_same is))
  pad_wire (Inlets fed) parts pad (of_source is) = absurd cc

  pub part_has : (head : Head S I O s) (parts : List (Part E O e)) (j : ℕ) (part : Part E O e) → slice_get parts j ≡ Some part → HasElement (frame_in o head parts) part.number
  part_has head parts j part at = has_part j (part_frame o part) (map_get (part_frame o) parts j part at) refl

  pub number_has : (head : Head S I O s) (parts : List (Part E O e)) (n : ℕ) → has_number n (map part_shape parts) ≡ true → HasElement (frame_in o head parts) n
  number_has head parts n h = let found = number_part parts n h in subst (λ (k : ℕ). HasElement (frame_in o head parts) k) found.number (part_has head parts found.place found.part found.at)
