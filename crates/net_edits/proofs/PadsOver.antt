-- A task of which one pad leads over a lane now has the elements and the inlets that it had.
use Rattle.std.proofs.Common.{◌≡◌, ◌⊎◌, ℕ, zero, suc, List, [], ◌∷◌, Some, map, refl, sym, ap, ◌∙◌, subst, inl, inr}
use Rattle.std.specs.Prelude.{slice_get, slice_set}
use Rattle.gst_value.proofs.Basics.{some_same}
use Rattle.gst_value.proofs.Places.{map_get, map_got, set_at}
use Rattle.lane_core.specs.declared.ends.Outlet as outlets
use Rattle.flow_model.specs.declared.element.TaskElement as elements
use Rattle.flow_model.specs.declared.source.TaskSource as sources
use Rattle.task_pads.proofs.Lists.{map_set}
use Rattle.task_pads.specs.Behind.{Goes, end_in, goes, over}
use Rattle.task_pads.specs.declared.pad.Behind.{Behind}
use Rattle.task_pads.specs.declared.pad.Pad.{Pad}
use Rattle.task_pads.specs.Pads.{IsLed, number_of}
use Rattle.task_parts.proofs.Lists.{map_back}
use Rattle.task_parts.specs.declared.head.Head.{Head}
use Rattle.task_parts.specs.declared.head.Head.TheVariants.{Source, Inlets}
use Rattle.task_parts.specs.declared.head.InletHead.{InletHead}
use Rattle.task_parts.specs.declared.part.Part.{Part}
use Rattle.net_task.specs.Frame.{HeadFrame, IsWire, PartFrame, Room, Wire, WireAt, by_inlets, by_source, frame_in, head_frame, head_wire, of_head, of_part, part_frame, room_in, wire_of}
use Rattle.net_turns.specs.Net.{HasElement, LaneOut, part, source}
use Rattle.task_edits.specs.Changes.{PadIn, PadIs}
use Rattle.task_edits.specs.Leads.{lane_behind}
use Rattle.task_edits.specs.declared.leading.NewLane.{NewLane}
use Rattle.task_edits.proofs.Wiring.{PadAt, pad_before, pad_wire, wire_pad}

set_back : {A : Type 0} (xs : List A) (k : ℕ) (x y : A) → slice_get xs k ≡ Some x → xs ≡ slice_set (slice_set xs k y) k x
set_back [] k x y at = refl
set_back {A = A} (z ∷ zs) zero x y at = ap (λ (w : A). w ∷ zs) (some_same at)
set_back {A = A} (z ∷ zs) (suc k) x y at = ap (λ (ws : List A). z ∷ ws) (set_back zs k x y at)

-- the number of the element that a head names
abbrev number_in : HeadFrame → ℕ
number_in (by_source n file wire) = n
number_in (by_inlets n rows) = n

module _ {E O : Type 0} {e : elements.Ghosts E} where
  in_back : (old new : Part E O e) (port : ℕ) (was is : Pad O) → PadIn old new port was is → PadIn new old port is was
  in_back old new port was is p = record {
    number = sym p.number;
    element = sym p.element;
    out = sym p.out;
    at = ap (λ (pads : List (Pad O)). slice_get pads port) p.set ∙ set_at old.pads.items port was is p.at;
    set = set_back old.pads.items port was is p.at ∙ ap (λ (pads : List (Pad O)). slice_set pads port was) (sym p.set);
  }

module _ {S E I O : Type 0} {s : sources.Ghosts S} {e : elements.Ghosts E} where
  -- the other way round, the one pad is the other again
  is_back : (head head' : Head S I O s) (parts parts' : List (Part E O e)) (was is : Pad O) → PadIs head parts head' parts' was is → PadIs head' parts' head parts is was
  is_back head head' parts parts' was is (PadIs.of_source old new here here' pad pad' same stays) =
      PadIs.of_source new old here' here pad' pad (record { number = sym same.number; source = sym same.source; given = sym same.given }) (sym stays)
  is_back head head' parts parts' was is (PadIs.of_part place port old new at set pad same) =
      PadIs.of_part place port new old (ap (λ (ps : List (Part E O e)). slice_get ps place) set ∙ set_at parts place old new at)
      (set_back parts place old new at ∙ ap (λ (ps : List (Part E O e)). slice_set ps place old) (sym set)) (in_back old new port was is pad) (sym same)

  -- a head that is fed from inlets is so before and behind it
  pub fed_with : (head head' : Head S I O s) (parts parts' : List (Part E O e)) (was is : Pad O) → PadIs head parts head' parts' was is → (inlets : InletHead I) → head' ≡ Inlets inlets → head ≡ Inlets inlets
  fed_with head head' parts parts' was is (PadIs.of_source old new here here' pad pad' same stays) inlets fed = absurd (never (sym here' ∙ fed))
    where
      now : Head S I O s
      now = Source new

      never : now ≡ Inlets inlets → ⊥
      never e = cc
  fed_with head head' parts parts' was is (PadIs.of_part place port old new at set pad same) inlets fed = sym same ∙ fed

  pub fed_without : (head head' : Head S I O s) (parts parts' : List (Part E O e)) (was is : Pad O) → PadIs head parts head' parts' was is → (inlets : InletHead I) → head ≡ Inlets inlets → head' ≡ Inlets inlets
  fed_without head head' parts parts' was is p inlets fed = fed_with head' head parts' parts is was (is_back head head' parts parts' was is p) inlets fed

module _ {S E I O L : Type 0} {s : sources.Ghosts S} {e : elements.Ghosts E} (o : outlets.Ghosts O L) where
  parts_has : (head head' : Head S I O s) (parts parts' : List (Part E O e)) → map (λ (q : Part E O e). q.number) parts' ≡ map (λ (q : Part E O e). q.number) parts → (n k : ℕ) (one : PartFrame) → slice_get (map (part_frame o) parts') k ≡ Some one → one.number ≡ n
      → HasElement (frame_in o head parts) n
  parts_has head head' parts parts' numbers n k one at number =
      let z = map_got (part_frame o) parts' k one at in
      let y = map_back (λ (q : Part E O e). q.number) parts parts' numbers k z.0 z.1 in
      part k (part_frame o y.0) (map_get (part_frame o) parts k y.0 y.1) (sym y.2 ∙ ap (λ (f : PartFrame). f.number) (sym z.2) ∙ number)

  pub has_with : (head head' : Head S I O s) (parts parts' : List (Part E O e)) (was is : Pad O) → PadIs head parts head' parts' was is → (n : ℕ) → HasElement (frame_in o head' parts') n → HasElement (frame_in o head parts) n
  has_with head head' parts parts' was is (PadIs.of_source old new here here' pad pad' same stays) n (part k one at number) =
      parts_has head head' parts parts' (ap (λ (ps : List (Part E O e)). map (λ (q : Part E O e). q.number) ps) stays) n k one at number
  has_with head head' parts parts' was is (PadIs.of_source old new here here' pad pad' same stays) n (source file wire is_head) =
      source (s.file old.source) (wire_of o old.pad)
      (ap (λ (h : Head S I O s). head_frame o h) here
      ∙ ap (λ (x : ℕ). by_source x (s.file old.source) (wire_of o old.pad)) (sym same.number ∙ ap number_in (sym (ap (λ (h : Head S I O s). head_frame o h) here') ∙ is_head)))
  has_with head head' parts parts' was is (PadIs.of_part place port old new at set pad same) n (part k one one_at number) =
      parts_has head head' parts parts' (ap (λ (ps : List (Part E O e)). map (λ (q : Part E O e). q.number) ps) set ∙ map_set (λ (q : Part E O e). q.number) parts place old new at pad.number) n k one one_at number
  has_with head head' parts parts' was is (PadIs.of_part place port old new at set pad same) n (source file wire is_head) = source file wire (ap (λ (h : Head S I O s). head_frame o h) (sym same) ∙ is_head)

  pub has_without : (head head' : Head S I O s) (parts parts' : List (Part E O e)) (was is : Pad O) → PadIs head parts head' parts' was is → (n : ℕ) → HasElement (frame_in o head parts) n → HasElement (frame_in o head' parts') n
  has_without head head' parts parts' was is p n h = has_with head' head parts' parts is was (is_back head head' parts parts' was is p) n h

  -- a pad is one that was there, or the one that is another now
  pub wire_back : (head head' : Head S I O s) (parts parts' : List (Part E O e)) (was is : Pad O) → PadIs head parts head' parts' was is → (wire : Wire) → IsWire (frame_in o head' parts') wire → IsWire (frame_in o head parts) wire ⊎ (wire ≡ wire_of o is)
  wire_back head head' parts parts' was is (PadIs.of_source old new here here' pad pad' same stays) wire (of_part j k w) =
      inl (of_part j k (record { part = w.part; at = ap (λ (ps : List (Part E O e)). slice_get (map (part_frame o) ps) j) (sym stays) ∙ w.at; pad_at = w.pad_at }))
  wire_back head head' parts parts' was is (PadIs.of_source old new here here' pad pad' same stays) wire (of_head is_head) =
      let now : Some (wire_of o new.pad) ≡ Some wire = sym (ap (λ (h : Head S I O s). head_wire (head_frame o h)) here') ∙ is_head in
      inr (sym (some_same now) ∙ ap (λ (q : Pad O). wire_of o q) pad')
  wire_back head head' parts parts' was is (PadIs.of_part place port old new at set pad same) wire (of_head is_head) = inl (of_head (ap (λ (h : Head S I O s). head_wire (head_frame o h)) (sym same) ∙ is_head))
  wire_back head head' parts parts' was is (PadIs.of_part place port old new at set pad same) wire (of_part j k w) =
      let w' : WireAt (frame_in o head (slice_set parts place new)) j k wire = record { part = w.part; at = ap (λ (ps : List (Part E O e)). slice_get (map (part_frame o) ps) j) (sym set) ∙ w.at; pad_at = w.pad_at } in
      let z = wire_pad o head (slice_set parts place new) j k wire w' in
      go z (pad_before parts place port old new was is at pad j k z.0 z.1)
    where
      go : (z : (q : Pad O) × PadAt (slice_set parts place new) j k q × (wire_of o q ≡ wire)) → PadAt parts j k z.0 ⊎ ((z.0 ≡ is) × PadAt parts j k was × (j ≡ place) × (k ≡ port)) → IsWire (frame_in o head parts) wire ⊎ (wire ≡ wire_of o is)
      go z (inl there) = inl (of_part j k (subst (λ (x : Wire). WireAt (frame_in o head parts) j k x) z.2 (pad_wire o head parts j k z.0 there)))
      go z (inr t) = inr (sym z.2 ∙ ap (λ (q : Pad O). wire_of o q) t.0)

-- The pad leads over the new lane, and over no other.
pub record IsThat {O L : Type 0} (o : outlets.Ghosts O L) (pad : ℕ) (to : NewLane O) (p place from n port : ℕ) : Type 0 where
  pub pad_is : p ≡ pad
  pub place_is : o.place to.outlet ≡ place
  pub from_is : from ≡ to.from
  pub element_is : n ≡ to.element
  pub port_is : port ≡ to.pad

abbrev element_in : Goes → ℕ
element_in (over lane n port from) = n
element_in _ = 0

abbrev port_in : Goes → ℕ
port_in (over lane n port from) = port
port_in _ = 0

abbrev from_in : Goes → ℕ
from_in (over lane n port from) = from
from_in _ = 0

module _ {S E I O L : Type 0} {s : sources.Ghosts S} {e : elements.Ghosts E} (o : outlets.Ghosts O L) where
  -- a lane into which a pad leads now is one into which it led, or the new one
  pub lane_back : (head head' : Head S I O s) (parts parts' : List (Part E O e)) (was is : Pad O) (to : NewLane O) (pad : ℕ) → PadIs head parts head' parts' was is → IsLed was is (lane_behind to) → number_of was ≡ pad
      → (p place from n port : ℕ) → LaneOut (frame_in o head' parts') p place from n port → LaneOut (frame_in o head parts) p place from n port ⊎ IsThat o pad to p place from n port
  lane_back head head' parts parts' was is to pad changed led number p place from n port out = go (wire_back o head head' parts parts' was is changed out.wire out.is)
    where
      go : IsWire (frame_in o head parts) out.wire ⊎ (out.wire ≡ wire_of o is) → LaneOut (frame_in o head parts) p place from n port ⊎ IsThat o pad to p place from n port
      go (inl there) = inl (record { wire = out.wire; is = there; number = out.number; lane = out.lane; leads = out.leads; into = out.into })
      go (inr that) =
          let leads : goes (lane_behind to) ≡ over out.lane n port from = ap (λ (b : Behind O). goes b) (sym led.leads) ∙ (sym (ap (λ (x : Wire). x.leads) that) ∙ out.leads) in
          let room : room_in (end_in o (lane_behind to)) ≡ Some out.into.room = ap (λ (b : Behind O). room_in (end_in o b)) (sym led.leads) ∙ (sym (ap (λ (x : Wire). x.room) that) ∙ out.into.room_is) in
          inr (record {
            pad_is = sym out.number ∙ (ap (λ (x : Wire). x.number) that ∙ (led.number ∙ number));
            place_is = ap (λ (x : Room). x.place) (some_same room) ∙ out.into.place_is;
            from_is = sym (ap from_in leads);
            element_is = sym (ap element_in leads);
            port_is = sym (ap port_in leads);
          })
