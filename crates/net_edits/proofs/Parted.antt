-- A pad that led over a lane: how its task sends into that, and that nobody does once the pad leads nowhere.
use Rattle.std.proofs.Common.{◌≡◌, ◌≢◌, ◌⊎◌, ◌++◌, ℕ, List, [], ◌∷◌, map, Some, get_or, refl, sym, ap, ◌∙◌, subst, inl, inr}
use Rattle.std.specs.Prelude.{slice_get, slice_set}
use Rattle.std.proofs.lemmas.Bool.{cases_eq}
use Rattle.gst_value.proofs.Basics.{some_same}
use Rattle.gst_value.proofs.Places.{map_get, set_at}
use Rattle.inlet_row.specs.Row.{ForLanes, feeds_of}
use Rattle.inlet_row.specs.declared.feeding.Feeding.{Feeding}
use Rattle.inlet_row.specs.declared.feeding.Feeding.TheVariants.{Given, Lane as OfLane}
use Rattle.inlet_row.specs.declared.row.InletRow.{InletRow}
use Rattle.lane_core.specs.declared.ends.Inlet as inlets
use Rattle.lane_core.specs.declared.ends.Outlet as outlets
use Rattle.flow_model.specs.declared.element.TaskElement as elements
use Rattle.flow_model.specs.declared.source.TaskSource as sources
use Rattle.task_pads.proofs.Lists.{some_at}
use Rattle.task_pads.specs.Behind.{end_in, goes, nowhere, over}
use Rattle.task_pads.specs.declared.pad.Behind.{Behind}
use Rattle.task_pads.specs.declared.pad.Behind.TheVariants as behinds
use Rattle.task_pads.specs.declared.pad.Pad.{Pad}
use Rattle.task_pads.specs.Pads.{goes_of}
use Rattle.task_parts.specs.declared.head.Head.{Head}
use Rattle.task_parts.specs.declared.part.Part.{Part}
use Rattle.net_task.specs.declared.task.Task.{Task}
use Rattle.net_task.specs.Frame.{IsWire, Room, Wire, WireAt, frame_in, head_frame, head_wire, of_head, of_part, part_frame, room_in, wire_of}
use Rattle.net_task.specs.Ready.{EndsWith, LeadsInto, WiresApart}
use Rattle.task_edits.specs.Changes.{PadIs}
use Rattle.task_edits.specs.Inside.{IsPadOf}
use Rattle.task_edits.specs.Leads.{LeadsOver, NotOver}
use Rattle.task_edits.specs.Places.{HasPad, first_pad, first_part}
use Rattle.task_edits.specs.declared.leading.Beyond.{Beyond}
use Rattle.task_edits.proofs.Absent.{has_not}
use Rattle.task_edits.proofs.Wiring.{PadAt, pad_before, pad_wire, wire_pad}
use Rattle.net_edits.specs.Ending.{HasOver, HasOverNone}
use Rattle.net_edits.specs.Nets.{IsFirstOf, TaskHas}
use Rattle.net_edits.specs.Over.{IsGrownAt}
use Rattle.net_edits.proofs.NetGrown.{here as grown_here, there as grown_there}
use Rattle.net_edits.proofs.Together.{pad_within}

module _ {I L O : Type 0} (i : inlets.Ghosts I L O) where
  last_lane : (P : I → Type 0) (front : List (Feeding I)) (lane : ℕ) (inlet : I) → ForLanes P (front ++ OfLane lane inlet ∷ []) → P inlet
  last_lane P [] lane inlet h = h.0
  last_lane P (Given x ∷ front) lane inlet h = last_lane P front lane inlet h
  last_lane P (OfLane n one ∷ front) lane inlet h = last_lane P front lane inlet h.1

  -- where a lane stands last in a row, one that stands in it has its place
  pub not_last : (row : InletRow I) (place : ℕ) → EndsWith i row place → ForLanes (λ inlet. place ≢ i.place inlet) (feeds_of row) → ⊥
  not_last row place ends h =
      last_lane (λ inlet. place ≢ i.place inlet) ends.front ends.number ends.inlet (subst (λ (feeds : List (Feeding I)). ForLanes (λ inlet. place ≢ i.place inlet) feeds) ends.whole h) (sym ends.place_is)

  place_of : Feeding I → ℕ
  place_of (Given x) = 0
  place_of (OfLane lane inlet) = i.place inlet

  last_place : ℕ → List (Feeding I) → ℕ
  last_place n [] = n
  last_place n (feed ∷ feeds) = last_place (place_of feed) feeds

  ends_in : (n : ℕ) (front : List (Feeding I)) (feed : Feeding I) → last_place n (front ++ feed ∷ []) ≡ place_of feed
  unfolding place_of last_place
  ends_in n [] feed = refl
  ends_in n (x ∷ front) feed = ends_in (place_of x) front feed

  -- one lane stands last in a row
  pub ends_once : (row : InletRow I) (place place' : ℕ) → EndsWith i row place → EndsWith i row place' → place ≡ place'
  unfolding place_of
  ends_once row place place' a b =
      sym a.place_is ∙ sym (ends_in 0 a.front (OfLane a.number a.inlet)) ∙ ap (λ (feeds : List (Feeding I)). last_place 0 feeds) (sym a.whole ∙ b.whole) ∙ ends_in 0 b.front (OfLane b.number b.inlet) ∙ b.place_is

module _ {O L : Type 0} (o : outlets.Ghosts O L) where
  -- where a pad leads over a lane, that stands somewhere in the table
  pub over_room : (behind : Behind O) (lane n k from : ℕ) → goes behind ≡ over lane n k from → (room : Room) × (room_in (end_in o behind) ≡ Some room)
  over_room behinds.Nothing lane n k from leads = absurd cc
  over_room (behinds.Element number hint pad) lane n k from leads = absurd cc
  over_room (behinds.Lane number element pad at outlet) lane n k from leads = (record { place = o.place outlet; limits = o.limits outlet }, refl)

  clash : (is : Pad O) (wire : Wire) (lane n k from : ℕ) → goes_of is ≡ nowhere → wire_of o is ≡ wire → wire.leads ≡ over lane n k from → ⊥
  clash is wire lane n k from nothing same leads = let none : nowhere ≡ over lane n k from = sym nothing ∙ (ap (λ (w : Wire). w.leads) same ∙ leads) in cc

module _ {S E I O L : Type 0} {s : sources.Ghosts S} {e : elements.Ghosts E} (o : outlets.Ghosts O L) where
  -- a source pad of a task is one of its frame
  pub pad_is_wire : (head : Head S I O s) (parts : List (Part E O e)) (pad : Pad O) → IsPadOf head parts pad → IsWire (frame_in o head parts) (wire_of o pad)
  pad_is_wire head parts pad (IsPadOf.of_source source is same) = of_head (ap (λ (h : Head S I O s). head_wire (head_frame o h)) is ∙ ap (λ (q : Pad O). Some (wire_of o q)) same)
  pad_is_wire head parts pad (IsPadOf.of_part place port part at pad_at) = of_part place port (record { part = part_frame o part; at = map_get (part_frame o) parts place part at; pad_at = map_get (wire_of o) part.pads.items port pad pad_at })

  -- No pad of a task leads over a lane any more once the one that did leads nowhere.
  pub none_into : (head head' : Head S I O s) (parts parts' : List (Part E O e)) (was is : Pad O) → PadIs head parts head' parts' was is → goes_of is ≡ nowhere → (place : ℕ) → LeadsInto (wire_of o was) place → WiresApart (frame_in o head parts)
      → (wire : Wire) → IsWire (frame_in o head' parts') wire → (lane n k from : ℕ) → wire.leads ≡ over lane n k from → LeadsInto wire place → ⊥
  none_into head head' parts parts' was is (PadIs.of_source old new here here' pad pad' same stays) nothing place led apart wire (of_head is_head) lane n k from leads into =
      let now : Some (wire_of o new.pad) ≡ Some wire = sym (ap (λ (h : Head S I O s). head_wire (head_frame o h)) here') ∙ is_head in
      clash o is wire lane n k from nothing (ap (λ (q : Pad O). wire_of o q) (sym pad') ∙ some_same now) leads
  none_into head head' parts parts' was is (PadIs.of_source old new here here' pad pad' same stays) nothing place led apart wire (of_part j k w) lane n i from leads into =
      let before : WireAt (frame_in o head parts) j k wire = record { part = w.part; at = ap (λ (ps : List (Part E O e)). slice_get (map (part_frame o) ps) j) (sym stays) ∙ w.at; pad_at = w.pad_at } in
      apart.source j k place wire (wire_of o was) before (ap (λ (h : Head S I O s). head_wire (head_frame o h)) here ∙ ap (λ (q : Pad O). Some (wire_of o q)) pad) into led
  none_into head head' parts parts' was is (PadIs.of_part at_place at_port old new at set pad same) nothing place led apart wire (of_head is_head) lane n k from leads into =
      apart.source at_place at_port place (wire_of o was) wire (pad_wire o head parts at_place at_port was (record { part = old; at = at; pad_at = pad.at })) (ap (λ (h : Head S I O s). head_wire (head_frame o h)) (sym same) ∙ is_head) led into
  none_into head head' parts parts' was is (PadIs.of_part at_place at_port old new at set pad same) nothing place led apart wire (of_part j k w) lane n i from leads into =
      let now : WireAt (frame_in o head (slice_set parts at_place new)) j k wire = record { part = w.part; at = ap (λ (ps : List (Part E O e)). slice_get (map (part_frame o) ps) j) (sym set) ∙ w.at; pad_at = w.pad_at } in
      let z = wire_pad o head (slice_set parts at_place new) j k wire now in
      go z (pad_before parts at_place at_port old new was is at pad j k z.0 z.1)
    where
      go : (z : (q : Pad O) × PadAt (slice_set parts at_place new) j k q × (wire_of o q ≡ wire)) → PadAt parts j k z.0 ⊎ ((z.0 ≡ is) × PadAt parts j k was × (j ≡ at_place) × (k ≡ at_port)) → ⊥
      go z (inr t) = clash o is wire lane n i from nothing (ap (λ (q : Pad O). wire_of o q) (sym t.0) ∙ z.2) leads
      go z (inl there) =
          let one : WireAt (frame_in o head parts) j k wire = subst (λ (x : Wire). WireAt (frame_in o head parts) j k x) z.2 (pad_wire o head parts j k z.0 there) in
          let other = pad_wire o head parts at_place at_port was (record { part = old; at = at; pad_at = pad.at }) in
          let places = apart.parts j k at_place at_port place wire (wire_of o was) one other into led in
          let part_is : z.1.part ≡ new = some_same (sym z.1.at ∙ (ap (λ (x : ℕ). slice_get (slice_set parts at_place new) x) places.0 ∙ set_at parts at_place old new at)) in
          let pad_is : z.0 ≡ is =
          some_same (sym z.1.pad_at ∙ (ap (λ (p : Part E O e). slice_get p.pads.items k) part_is ∙ (ap (λ (x : ℕ). slice_get new.pads.items x) places.1 ∙ (ap (λ (ps : List (Pad O)). slice_get ps at_port) pad.set ∙ set_at old.pads.items at_port was is pad.at)))) in
          clash o is wire lane n i from nothing (ap (λ (q : Pad O). wire_of o q) (sym pad_is) ∙ z.2) leads

module _ {S E I O L : Type 0} {s : sources.Ghosts S} {e : elements.Ghosts E} {i : inlets.Ghosts I L O} {o : outlets.Ghosts O L} (tasks : List (Task S E I O L s e i o)) (pad place : ℕ) (has : TaskHas tasks pad place) (task : Task S E I O L s e i o) (is : task ≡ get_or tasks place task) where
  pub task_at : slice_get tasks place ≡ Some task
  task_at = some_at tasks place task (pad_within tasks pad place has) is

  -- where the pad was looked up and leads over a lane
  abbrev pub leads_over : (to : Beyond) → LeadsOver task.head task.parts.items pad to → HasOver tasks pad place to
  leads_over to leads = record { task = task; at = task_at; leads = leads }

  pub leads_first : (to : Beyond) (leads : LeadsOver task.head task.parts.items pad to) → IsFirstOf tasks place pad leads.pad
  leads_first to leads = record { task = task; at = task_at; first = leads.first }

  -- where it leads over none
  pub leads_over_none : NotOver task.head task.parts.items pad → HasOverNone tasks pad place
  leads_over_none (inl lacks) = absurd (has_not task.head task.parts.items pad (subst (λ (t : Task S E I O L s e i o). HasPad t.head t.parts.items pad) (some_same (sym has.at ∙ task_at)) has.has) lacks)
  leads_over_none (inr none) = record { task = task; at = task_at; leads = none }

-- where more stands behind a row of one of the tasks
module _ {S E I O L : Type 0} {s : sources.Ghosts S} {e : elements.Ghosts E} {i : inlets.Ghosts I L O} {o : outlets.Ghosts O L} (tasks tasks' : List (Task S E I O L s e i o)) (r port : ℕ) (more : List (Feeding I)) (g : IsGrownAt tasks tasks' r port more) where
  -- the first pad of a number is the one that it was
  pub first_grown : (j pad : ℕ) (one : Pad O) → IsFirstOf tasks j pad one → IsFirstOf tasks' j pad one
  first_grown j pad one z = go (cases_eq j r)
    where
      go : (j ≡ r) ⊎ (j ≡ r → ⊥) → IsFirstOf tasks' j pad one
      go (inr ne) = record { task = z.task; at = grown_there tasks tasks' r port more g j ne ∙ z.at; first = z.first }
      go (inl same) =
          let was : first_pad g.was.head g.was.parts.items pad ≡ Some one =
          subst (λ (t : Task S E I O L s e i o). first_pad t.head t.parts.items pad ≡ Some one) (some_same (sym z.at ∙ (ap (λ (x : ℕ). slice_get tasks x) same ∙ g.at))) z.first in
          let fed : first_part g.was.parts.items pad ≡ Some one = subst (λ (h : Head S I O s). first_pad h g.was.parts.items pad ≡ Some one) g.grew.was_fed was in
          record {
            task = g.is;
            at = ap (λ (x : ℕ). slice_get tasks' x) same ∙ grown_here tasks tasks' r port more g;
            first = subst (λ (h : Head S I O s). first_pad h g.is.parts.items pad ≡ Some one) (sym g.grew.fed) (subst (λ (ps : List (Part E O e)). first_part ps pad ≡ Some one) (sym g.grew.parts) fed);
          }
