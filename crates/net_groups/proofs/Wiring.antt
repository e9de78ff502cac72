-- Pads of tasks with the elements that they are of, lanes into which they lead, and elements that a task names.
use Rattle.std.proofs.Common.{◌≡◌, ◌⊎◌, ◌++◌, ◌||◌, ℕ, zero, suc, Bool, true, false, eqb, List, [], ◌∷◌, map, Option, Some, refl, sym, ap, ◌∙◌, subst, inl, inr}
use Rattle.std.specs.Prelude.{slice_get}
use Rattle.std.proofs.lemmas.Bool.Decides.{eqb_tells}
use Rattle.lane_core.specs.declared.ends.Outlet as outlets
use Rattle.flow_model.specs.declared.element.TaskElement as elements
use Rattle.flow_model.specs.declared.source.TaskSource as sources
use Rattle.inlet_row.specs.declared.feeding.Feeding.{Feeding}
use Rattle.inlet_row.specs.declared.feeding.Feeding.TheVariants.{Given, Lane as OfLane}
use Rattle.inlet_row.specs.Row.{ForLanes}
use Rattle.task_pads.specs.Behind.{inside, over, end_in, goes}
use Rattle.task_pads.specs.declared.pad.Behind.{Behind}
use Rattle.task_pads.specs.declared.pad.Behind.TheVariants as behinds
use Rattle.task_pads.specs.declared.pad.Pad.{Pad}
use Rattle.task_pads.specs.Pads.{PadShape, goes_of, pad_shape, rest_of}
use Rattle.task_parts.specs.declared.head.Head.{Head}
use Rattle.task_parts.specs.declared.head.Head.TheVariants.{Source, Inlets}
use Rattle.task_parts.specs.declared.part.Part.{Part}
use Rattle.task_parts.specs.Shape.{PartShape, goes_within, has_number, is_closed, pads_within, part_shape, shape_of}
use Rattle.task_parts.proofs.Tries.{named_in}
use Rattle.net_task.specs.Frame.{HeadFrame, by_source, by_inlets, PartFrame, Room, TaskFrame, Wire, IsWire, of_part as wire_part, of_head as wire_head, WireAt, frame_in, head_wire, part_frame, room_in, wire_of}
use Rattle.net_task.specs.Ready.{LeadsInto, WiresApart}
use Rattle.net_task.proofs.Closed.{closed_part}
use Rattle.net_turns.specs.Net.{HasElement, part as has_part, source as has_source}
use Rattle.gst_value.proofs.Basics.{and_left, and_right, none_some, some_same}
use Rattle.gst_value.proofs.Places.{map_get, map_got}

-- ---- facts of each lane of a row

pub for_all : {I : Type 0} (P : I → Type 0) (feeds : List (Feeding I)) → ((inlet : I) → P inlet) → ForLanes P feeds
for_all P [] each = tt
for_all P (Given x ∷ feeds) each = for_all P feeds each
for_all P (OfLane number inlet ∷ feeds) each = (each inlet, for_all P feeds each)

pub for_last : {I : Type 0} (P : I → Type 0) (front : List (Feeding I)) (number : ℕ) (inlet : I) → ForLanes P (front ++ OfLane number inlet ∷ []) → P inlet
for_last P [] number inlet h = h.0
for_last P (Given x ∷ front) number inlet h = for_last P front number inlet h
for_last P (OfLane n one ∷ front) number inlet h = for_last P front number inlet h.1

pub not_bare : {A : Type 0} (front : List A) (x : A) → [] ≡ front ++ x ∷ [] → ⊥
not_bare [] x e = cc
not_bare (y ∷ front) x e = cc

-- ---- pads with their elements

-- the number of the element that has a pad, or of the source
pub data IsOf (frame : TaskFrame) (n : ℕ) (wire : Wire) : Type 0 where
  of_part : (j k : ℕ) (w : WireAt frame j k wire) → w.part.number ≡ n → IsOf frame n wire
  of_source : (file : Option (Option (List ℕ))) → frame.head ≡ by_source n file wire → IsOf frame n wire

pub is_wire : (frame : TaskFrame) (n : ℕ) (wire : Wire) → IsOf frame n wire → IsWire frame wire
is_wire frame n wire (of_part j k w number) = wire_part j k w
is_wire frame n wire (of_source file is) = wire_head (ap head_wire is)

pub named : (frame : TaskFrame) (wire : Wire) → IsWire frame wire → (n : ℕ) × IsOf frame n wire
named frame wire (wire_part j k w) = (w.part.number, of_part j k w refl)
named frame wire (wire_head at) = go frame.head refl at
  where
    go : (head : HeadFrame) → frame.head ≡ head → head_wire head ≡ Some wire → (n : ℕ) × IsOf frame n wire
    go (by_source n file own) is at = (n, of_source file (is ∙ ap (λ (w : Wire). by_source n file w) (some_same at)))
    go (by_inlets n rows) is at = absurd (none_some at)

pub has_one : (frame : TaskFrame) (n : ℕ) (wire : Wire) → IsOf frame n wire → HasElement frame n
has_one frame n wire (of_part j k w number) = has_part j w.part w.at number
has_one frame n wire (of_source file is) = has_source file wire is

abbrev number_in : HeadFrame → ℕ
number_in (by_source n file wire) = n
number_in (by_inlets n rows) = n

-- Two pads of a task that lead into one lane are of one element.
pub one_leads : (frame : TaskFrame) (a b place : ℕ) (one other : Wire) → WiresApart frame → IsOf frame a one → IsOf frame b other → LeadsInto one place → LeadsInto other place → a ≡ b
one_leads frame a b place one other apart (of_part j k w number) (of_part j' k' w' number') l l' =
    let same = apart.parts j k j' k' place one other w w' l l' in
    let part : w.part ≡ w'.part = some_same (sym w.at ∙ ap (λ (x : ℕ). slice_get frame.parts x) same.0 ∙ w'.at) in
    sym number ∙ ap (λ (p : PartFrame). p.number) part ∙ number'
one_leads frame a b place one other apart (of_part j k w number) (of_source file is) l l' = absurd (apart.source j k place one other w (ap head_wire is) l l')
one_leads frame a b place one other apart (of_source file is) (of_part j k w number) l l' = absurd (apart.source j k place other one w (ap head_wire is) l' l)
one_leads frame a b place one other apart (of_source file is) (of_source file' is') l l' = ap number_in (sym is ∙ is')

-- ---- lanes

-- where a pad leads over a lane
pub record LeadsOver (wire : Wire) : Type 0 where
  pub lane : ℕ
  pub element : ℕ
  pub port : ℕ
  pub from : ℕ
  pub is : wire.leads ≡ over lane element port from

module _ {O L : Type 0} (o : outlets.Ghosts O L) where
  over_lane : (behind : Behind O) (room : Room) → room_in (end_in o behind) ≡ Some room → (lane : ℕ) × (element : ℕ) × (port : ℕ) × (from : ℕ) × (goes behind ≡ over lane element port from)
  over_lane behinds.Nothing room at = absurd (none_some at)
  over_lane (behinds.Element number hint pad) room at = absurd (none_some at)
  over_lane (behinds.Lane lane element pad from outlet) room at = (lane, element, pad, from, refl)

module _ {S E I O L : Type 0} {s : sources.Ghosts S} {e : elements.Ghosts E} (o : outlets.Ghosts O L) where
  pub a_pad : (head : Head S I O s) (parts : List (Part E O e)) (wire : Wire) → IsWire (frame_in o head parts) wire → (pad : Pad O) × (wire ≡ wire_of o pad)
  a_pad head parts wire (wire_part j k w) =
      let a = map_got (part_frame o) parts j w.part w.at in
      let b = map_got (wire_of o) a.0.pads.items k wire (ap (λ (one : PartFrame). slice_get one.wires k) (sym a.2) ∙ w.pad_at) in
      (b.0, b.2)
  a_pad (Source source) parts wire (wire_head at) = (source.pad, sym (some_same at))
  a_pad (Inlets fed) parts wire (wire_head at) = absurd (none_some at)

  -- a pad of an element of a task
  abbrev pub pad_wire : (head : Head S I O s) (parts : List (Part E O e)) (j k : ℕ) (part : Part E O e) (pad : Pad O) → slice_get parts j ≡ Some part → slice_get part.pads.items k ≡ Some pad → WireAt (frame_in o head parts) j k (wire_of o pad)
  pad_wire head parts j k part pad at at' = record { part = part_frame o part; at = map_get (part_frame o) parts j part at; pad_at = map_get (wire_of o) part.pads.items k pad at' }

  -- A pad of a task that leads into a lane leads over it.
  pub leads_over : (head : Head S I O s) (parts : List (Part E O e)) (wire : Wire) (place : ℕ) → IsWire (frame_in o head parts) wire → LeadsInto wire place → LeadsOver wire
  leads_over head parts wire place is into =
      let pad = a_pad head parts wire is in
      let z = over_lane o (rest_of pad.0).behind into.room (ap (λ (w : Wire). w.room) (sym pad.1) ∙ into.room_is) in
      record { lane = z.0; element = z.1; port = z.2; from = z.3; is = ap (λ (w : Wire). w.leads) pad.1 ∙ z.4 }

-- ---- elements that a task names

module _ {E O : Type 0} {e : elements.Ghosts E} where
  -- an element of the number is among these
  pub record PartOf (parts : List (Part E O e)) (n : ℕ) : Type 0 where
    pub place : ℕ
    pub part : Part E O e
    pub at : slice_get parts place ≡ Some part
    pub number : part.number ≡ n

  found_or : (part : Part E O e) (parts : List (Part E O e)) (n : ℕ) → ((eqb part.number n ≡ true) × (part.number ≡ n)) ⊎ ((eqb part.number n ≡ false) × (part.number ≡ n → ⊥))
      → (has_number n (map part_shape parts) ≡ true → PartOf parts n) → (eqb part.number n || has_number n (map part_shape parts)) ≡ true → PartOf (part ∷ parts) n
  found_or part parts n (inl t) more h = record { place = 0; part = part; at = refl; number = t.1 }
  found_or part parts n (inr t) more h =
      let found = more (rest (eqb part.number n) (has_number n (map part_shape parts)) t.0 h) in
      record { place = suc found.place; part = found.part; at = found.at; number = found.number }
    where
      rest : (a b : Bool) → a ≡ false → (a || b) ≡ true → b ≡ true
      rest true b f h = absurd cc
      rest false b f h = h

  pub number_part : (parts : List (Part E O e)) (n : ℕ) → has_number n (map part_shape parts) ≡ true → PartOf parts n
  number_part [] n h = absurd cc
  number_part (part ∷ parts) n h = found_or part parts n (eqb_tells part.number n) (number_part parts n) h

pads_each : (parts : List PartShape) (pads : List PadShape) → pads_within parts pads ≡ true → (k : ℕ) (pad : PadShape) → slice_get pads k ≡ Some pad → goes_within parts pad.goes ≡ true
pads_each parts [] h k pad at = absurd cc
pads_each parts (one ∷ pads) h zero pad at = subst (λ (p : PadShape). goes_within parts p.goes ≡ true) (some_same at) (and_left (goes_within parts one.goes) (pads_within parts pads) h)
pads_each parts (one ∷ pads) h (suc k) pad at = pads_each parts pads (and_right (goes_within parts one.goes) (pads_within parts pads) h) k pad at

module _ {S E I O : Type 0} {s : sources.Ghosts S} {e : elements.Ghosts E} where
  -- an element to which a pad of a task leads inside is one of it
  pub inside_part : (head : Head S I O s) (parts : List (Part E O e)) → is_closed (shape_of head parts) ≡ true → (j k n port : ℕ) (part : Part E O e) (pad : Pad O) → slice_get parts j ≡ Some part → slice_get part.pads.items k ≡ Some pad
      → goes_of pad ≡ inside n port → PartOf parts n
  inside_part head parts closed j k n port part pad at pad_at leads =
      number_part parts n (named_in (map part_shape parts) (goes_of pad) n port leads
      (pads_each (map part_shape parts) (map pad_shape part.pads.items) (closed_part head parts j part closed at) k (pad_shape pad) (map_get pad_shape part.pads.items k pad pad_at)))

  pub part_has : {L : Type 0} (o : outlets.Ghosts O L) (head : Head S I O s) (parts : List (Part E O e)) (n : ℕ) → PartOf parts n → HasElement (frame_in o head parts) n
  part_has o head parts n p = has_part p.place (part_frame o p.part) (map_get (part_frame o) parts p.place p.part p.at) p.number
