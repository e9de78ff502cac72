-- A pad of a task leads into a lane that no end of the task was of: the task is ready with it.
use Rattle.std.proofs.Common.{◌≡◌, ◌⊎◌, ℕ, List, Option, Some, refl, sym, ap, ◌∙◌, subst, inl, inr}
use Rattle.std.specs.Prelude.{slice_get, slice_set}
use Rattle.lane_core.specs.Lane.{Lane}
use Rattle.lane_core.specs.declared.ends.Inlet as inlets
use Rattle.lane_core.specs.declared.ends.Outlet as outlets
use Rattle.flow_model.specs.declared.element.TaskElement as elements
use Rattle.flow_model.specs.declared.source.TaskSource as sources
use Rattle.task_pads.specs.Behind.{EndReady, end_in}
use Rattle.task_pads.specs.declared.pad.Behind.{Behind}
use Rattle.task_pads.specs.declared.pad.Pad.{Pad}
use Rattle.task_pads.specs.Pads.{PadReady, rest_of}
use Rattle.task_parts.specs.declared.head.Head.{Head}
use Rattle.task_parts.specs.declared.head.Head.TheVariants.{Source, Inlets}
use Rattle.task_parts.specs.declared.head.SourceHead.{SourceHead}
use Rattle.task_parts.specs.declared.part.Part.{Part}
use Rattle.net_task.specs.Frame.{IsWire, Room, Wire, WireAt, frame_in, head_frame, head_wire, room_in, wire_of}
use Rattle.net_task.specs.Ready.{AreReady, HeadApart, LeadsInto, NoneFrom}
use Rattle.gst_value.proofs.Basics.{some_same}
use Rattle.task_edits.specs.Changes.{Changed, LedBy, PadIn, PadIs}
use Rattle.task_edits.specs.Leads.{IsApart, lane_behind}
use Rattle.task_edits.specs.declared.leading.NewLane.{NewLane}
use Rattle.task_edits.proofs.Wiring.{PadAt, pad_before, pad_wire, parts_ready_set, wire_pad}

-- a pad that leads into the lane leads into no other
into_lane : {O L : Type 0} (o : outlets.Ghosts O L) (to : NewLane O) (pad : Pad O) (n : ℕ) → (rest_of pad).behind ≡ lane_behind to → LeadsInto (wire_of o pad) n → o.place to.outlet ≡ n
into_lane {O = O} o to pad n leads l = let same : room_in (end_in o (lane_behind to)) ≡ Some l.room = ap (λ (b : Behind O). room_in (end_in o b)) (sym leads) ∙ l.room_is in ap (λ (r : Room). r.place) (some_same same) ∙ l.place_is

abbrev from_source : {S I O : Type 0} {s : sources.Ghosts S} → SourceHead S O s → Head S I O s
from_source head = Source head

module _ {S E I O L : Type 0} {s : sources.Ghosts S} {e : elements.Ghosts E} (i : inlets.Ghosts I L O) (o : outlets.Ghosts O L) (tells : Option (List Lane)) (to : NewLane O) where
  lane_ready : (pad : Pad O) (head : Head S I O s) (parts : List (Part E O e)) → (rest_of pad).behind ≡ lane_behind to → IsApart i o tells head parts to → PadReady o tells pad
  lane_ready pad head parts leads apart = subst (λ (b : Behind O). EndReady tells (end_in o b)) (sym leads) apart.of_table

  -- A lane into which a pad leads now is one into which it led, or the new one.
  abbrev Before : Head S I O s → List (Part E O e) → (j k n place port : ℕ) → Type 0
  Before head parts j k n place port = ((was : Wire) × WireAt (frame_in o head parts) j k was × LeadsInto was n) ⊎ ((o.place to.outlet ≡ n) × (j ≡ place) × (k ≡ port))

  before_in : (head : Head S I O s) (parts : List (Part E O e)) (place port : ℕ) (old new : Part E O e) (was is : Pad O) → slice_get parts place ≡ Some old → PadIn old new port was is → (rest_of is).behind ≡ lane_behind to
      → (j k n : ℕ) (wire : Wire) → WireAt (frame_in o head (slice_set parts place new)) j k wire → LeadsInto wire n → Before head parts j k n place port
  before_in head parts place port old new was is at pad leads j k n wire w l =
      let z = wire_pad o head (slice_set parts place new) j k wire w in
      go z (pad_before parts place port old new was is at pad j k z.0 z.1)
    where
      go : (z : (q : Pad O) × PadAt (slice_set parts place new) j k q × (wire_of o q ≡ wire)) → PadAt parts j k z.0 ⊎ ((z.0 ≡ is) × PadAt parts j k was × (j ≡ place) × (k ≡ port)) → Before head parts j k n place port
      go z (inl there) = inl (wire_of o z.0, pad_wire o head parts j k z.0 there, subst (λ (x : Wire). LeadsInto x n) (sym z.2) l)
      go z (inr t) = inr (into_lane o to is n leads (subst (λ (q : Pad O). LeadsInto (wire_of o q) n) t.0 (subst (λ (x : Wire). LeadsInto x n) (sym z.2) l)), t.2, t.3)

  ready_in_part : (head : Head S I O s) (parts : List (Part E O e)) (place port : ℕ) (old new : Part E O e) (was is : Pad O) → slice_get parts place ≡ Some old → PadIn old new port was is → (rest_of is).behind ≡ lane_behind to
      → IsApart i o tells head parts to → AreReady i o tells head parts → AreReady i o tells head (slice_set parts place new)
  ready_in_part head parts place port old new was is at pad leads apart r = record {
    parts_ready = parts_ready_set o tells parts place port old new was is at pad (λ ready. lane_ready is head parts leads apart) r.parts_ready;
    head_ready = r.head_ready;
    wires_apart = record {
      parts = λ j k j' k' n one other w w' l l'. both j k j' k' n (from j k n one w l) (from j' k' n other w' l');
      source = λ j k n one other w is_head l l'. with_head j k n other is_head l' (from j k n one w l);
    };
    head_apart = heads head r.head_apart apart refl;
  }
    where
      from : (j k n : ℕ) (wire : Wire) → WireAt (frame_in o head (slice_set parts place new)) j k wire → LeadsInto wire n → Before head parts j k n place port
      from = before_in head parts place port old new was is at pad leads

      no_other : (j k n : ℕ) (wire : Wire) → WireAt (frame_in o head parts) j k wire → LeadsInto wire n → o.place to.outlet ≡ n → ⊥
      no_other j k n wire w l same = apart.no_pad wire (IsWire.of_part j k w) (subst (LeadsInto wire) (sym same) l)

      both : (j k j' k' n : ℕ) → Before head parts j k n place port → Before head parts j' k' n place port → (j ≡ j') × (k ≡ k')
      both j k j' k' n (inl a) (inl b) = r.wires_apart.parts j k j' k' n a.0 b.0 a.1 b.1 a.2 b.2
      both j k j' k' n (inl a) (inr b) = absurd (no_other j k n a.0 a.1 a.2 b.0)
      both j k j' k' n (inr a) (inl b) = absurd (no_other j' k' n b.0 b.1 b.2 a.0)
      both j k j' k' n (inr a) (inr b) = (a.1 ∙ sym b.1, a.2 ∙ sym b.2)

      with_head : (j k n : ℕ) (other : Wire) → head_wire (head_frame o head) ≡ Some other → LeadsInto other n → Before head parts j k n place port → ⊥
      with_head j k n other is_head l' (inl a) = r.wires_apart.source j k n a.0 other a.1 is_head a.2 l'
      with_head j k n other is_head l' (inr a) = apart.no_pad other (IsWire.of_head is_head) (subst (LeadsInto other) (sym a.0) l')

      heads : (h : Head S I O s) → HeadApart i (frame_in o head parts) h → IsApart i o tells h parts to → h ≡ head → HeadApart i (frame_in o head (slice_set parts place new)) h
      heads (Source h) a p same = tt
      heads (Inlets h) a p same = record { each = a.each; rows = a.rows; pads = λ j k n wire w l. rows j k n (from j k n wire w l) }
        where
          rows : (j k n : ℕ) → Before head parts j k n place port → NoneFrom i h n
          rows j k n (inl z) = a.pads j k n z.0 z.1 z.2
          rows j k n (inr z) = subst (λ (x : ℕ). NoneFrom i h x) z.0 p.no_row

  ready_in_source : (old new : SourceHead S O s) (parts : List (Part E O e)) → (rest_of new.pad).behind ≡ lane_behind to → IsApart i o tells (from_source old) parts to → AreReady i o tells (from_source old) parts
      → AreReady i o tells (from_source new) parts
  ready_in_source old new parts leads apart r = record {
    parts_ready = r.parts_ready;
    head_ready = lane_ready new.pad (Source old) parts leads apart;
    wires_apart = record {
      parts = λ j k j' k' n one other w w' l l'. r.wires_apart.parts j k j' k' n one other (again j k one w) (again j' k' other w') l l';
      source = λ j k n one other w is_head l l'.
          let place : o.place to.outlet ≡ n = into_lane o to new.pad n leads (subst (λ (x : Wire). LeadsInto x n) (sym (some_same is_head)) l') in
          apart.no_pad one (IsWire.of_part j k (again j k one w)) (subst (LeadsInto one) (sym place) l);
    };
    head_apart = tt;
  }
    where
      before : Head S I O s
      before = Source old

      now : Head S I O s
      now = Source new

      again : (j k : ℕ) (wire : Wire) → WireAt (frame_in o now parts) j k wire → WireAt (frame_in o before parts) j k wire
      again j k wire w = record { part = w.part; at = w.at; pad_at = w.pad_at }

  -- A task whose pad leads into the lane is ready with it.
  pub over_ready : (head head' : Head S I O s) (parts parts' : List (Part E O e)) (back : Behind O) (pad : ℕ) → Changed (LedBy (lane_behind to) back) (back ≡ lane_behind to) pad head parts head' parts' → IsApart i o tells head parts to
      → AreReady i o tells head parts → AreReady i o tells head' parts'
  over_ready head head' parts parts' back pad (inl (was, is, number, by, PadIs.of_source old new here here' pad_was pad_is same stays)) apart r =
      subst (λ (h : Head S I O s). AreReady i o tells h parts') (sym here') (subst (λ (ps : List (Part E O e)). AreReady i o tells (Source new) ps) (sym stays)
      (ready_in_source old new parts (ap (λ (q : Pad O). (rest_of q).behind) pad_is ∙ by.0.leads) (subst (λ (h : Head S I O s). IsApart i o tells h parts to) here apart) (subst (λ (h : Head S I O s). AreReady i o tells h parts) here r)))
  over_ready head head' parts parts' back pad (inl (was, is, number, by, PadIs.of_part place port old new at set set_pad same)) apart r =
      subst (λ (h : Head S I O s). AreReady i o tells h parts') (sym same) (subst (λ (ps : List (Part E O e)). AreReady i o tells head ps) (sym set)
      (ready_in_part head parts place port old new was is at set_pad by.0.leads apart r))
  over_ready head head' parts parts' back pad (inr (none, h, p, k)) apart r =
      subst (λ (x : Head S I O s). AreReady i o tells x parts') (sym h) (subst (λ (ps : List (Part E O e)). AreReady i o tells head ps) (sym p) r)
