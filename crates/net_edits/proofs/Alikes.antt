-- A task of which one pad is another has the elements and the inlets that it had.
use Rattle.std.proofs.Common.{◌≡◌, ◌⊎◌, ℕ, List, Option, Some, map, refl, sym, ap, ◌∙◌, subst, inl, inr}
use Rattle.std.specs.Prelude.{slice_get, slice_set}
use Rattle.lane_core.specs.declared.ends.Outlet as outlets
use Rattle.flow_model.specs.declared.element.TaskElement as elements
use Rattle.flow_model.specs.declared.source.TaskSource as sources
use Rattle.task_pads.specs.Behind.{over}
use Rattle.task_pads.specs.declared.pad.Pad.{Pad}
use Rattle.task_parts.specs.Head.{IsSameSource}
use Rattle.task_parts.specs.declared.head.Head.{Head}
use Rattle.task_parts.specs.declared.head.Head.TheVariants.{Source, Inlets}
use Rattle.task_parts.specs.declared.head.InletHead.{InletHead}
use Rattle.task_parts.specs.declared.head.SourceHead.{SourceHead}
use Rattle.task_parts.specs.declared.part.Part.{Part}
use Rattle.task_pads.proofs.Lists.{map_set}
use Rattle.task_parts.proofs.Lists.{map_back}
use Rattle.gst_value.proofs.Basics.{some_same}
use Rattle.gst_value.proofs.Places.{map_get, map_got}
use Rattle.net_task.specs.Frame.{HeadFrame, IsWire, PartFrame, TaskFrame, Wire, WireAt, by_inlets, by_source, frame_in, of_head, of_part, part_frame, wire_of}
use Rattle.net_task.specs.Ready.{LeadsInto}
use Rattle.net_turns.specs.Net.{HasElement, LaneOut, part, source}
use Rattle.task_edits.specs.Changes.{PadIn, PadIs}
use Rattle.task_edits.proofs.Wiring.{PadAt, pad_before, pad_wire, wire_pad}

-- The new one has the elements and the inlets of the old one, and its pads lead into no lanes but those of that.
pub record Alike {S E I O L : Type 0} {s : sources.Ghosts S} {e : elements.Ghosts E} (o : outlets.Ghosts O L) (head head' : Head S I O s) (parts parts' : List (Part E O e)) : Type 0 where
  pub has : (n : ℕ) → HasElement (frame_in o head' parts') n → HasElement (frame_in o head parts) n
  pub had : (n : ℕ) → HasElement (frame_in o head parts) n → HasElement (frame_in o head' parts') n
  pub fed : (inlets : InletHead I) → head' ≡ Inlets inlets → head ≡ Inlets inlets
  pub was_fed : (inlets : InletHead I) → head ≡ Inlets inlets → head' ≡ Inlets inlets
  pub lanes : (p place from n i : ℕ) → LaneOut (frame_in o head' parts') p place from n i → LaneOut (frame_in o head parts) p place from n i

-- where the one pad leads over a lane, the other led over it
pub record LeadsBack (was is : Wire) : Type 0 where
  pub number : is.number ≡ was.number
  pub leads : (lane n from i place : ℕ) → is.leads ≡ over lane n i from → LeadsInto is place → (was.leads ≡ over lane n i from) × LeadsInto was place

number_in : (a b : ℕ) (f g : Option (Option (List ℕ))) (v w : Wire) → by_source a f v ≡ by_source b g w → a ≡ b
number_in a b f g v w same = ap number_of_head same
  where
    number_of_head : HeadFrame → ℕ
    number_of_head (by_source n file wire) = n
    number_of_head (by_inlets n rows) = n

back_out : (frame : TaskFrame) (p place from n i : ℕ) (was is : Wire) → IsWire frame was → LeadsBack was is → is.number ≡ p → (lane : ℕ) → is.leads ≡ over lane n i from → LeadsInto is place → LaneOut frame p place from n i
back_out frame p place from n i was is wire back number lane leads into =
    let z = back.leads lane n from i place leads into in record { wire = was; is = wire; number = sym back.number ∙ number; lane = lane; leads = z.0; into = z.1 }

module _ {S E I O L : Type 0} {s : sources.Ghosts S} {e : elements.Ghosts E} (o : outlets.Ghosts O L) where
  pub same_alike : (head head' : Head S I O s) (parts parts' : List (Part E O e)) → head' ≡ head → parts' ≡ parts → Alike o head head' parts parts'
  same_alike head head' parts parts' h p = subst (λ (x : Head S I O s). Alike o head x parts parts') (sym h) (subst (λ (ps : List (Part E O e)). Alike o head head parts ps) (sym p)
      (record { has = λ n x. x; had = λ n x. x; fed = λ head x. x; was_fed = λ head x. x; lanes = λ p place from n i x. x }))

  -- a pad of an element is another
  part_alike : (head : Head S I O s) (parts : List (Part E O e)) (place port : ℕ) (old new : Part E O e) (was is : Pad O) → slice_get parts place ≡ Some old → PadIn old new port was is → LeadsBack (wire_of o was) (wire_of o is)
      → Alike o head head parts (slice_set parts place new)
  part_alike head parts place port old new was is at pad back = record {
    has = has;
    had = had;
    fed = λ inlets x. x;
    was_fed = λ inlets x. x;
    lanes = λ p into from n i out. lanes p into from n i out.wire out.is out.number out.lane out.leads out.into;
  }
    where
      numbers : map (λ (q : Part E O e). q.number) (slice_set parts place new) ≡ map (λ (q : Part E O e). q.number) parts
      numbers = map_set (λ (q : Part E O e). q.number) parts place old new at pad.number

      has : (n : ℕ) → HasElement (frame_in o head (slice_set parts place new)) n → HasElement (frame_in o head parts) n
      has n (part k one one_at number) =
          let z = map_got (part_frame o) (slice_set parts place new) k one one_at in
          let y = map_back (λ (q : Part E O e). q.number) parts (slice_set parts place new) numbers k z.0 z.1 in
          part k (part_frame o y.0) (map_get (part_frame o) parts k y.0 y.1) (sym y.2 ∙ ap (λ (f : PartFrame). f.number) (sym z.2) ∙ number)
      has n (source file wire is_head) = source file wire is_head

      had : (n : ℕ) → HasElement (frame_in o head parts) n → HasElement (frame_in o head (slice_set parts place new)) n
      had n (part k one one_at number) =
          let z = map_got (part_frame o) parts k one one_at in
          let y = map_back (λ (q : Part E O e). q.number) (slice_set parts place new) parts (sym numbers) k z.0 z.1 in
          part k (part_frame o y.0) (map_get (part_frame o) (slice_set parts place new) k y.0 y.1) (sym y.2 ∙ ap (λ (f : PartFrame). f.number) (sym z.2) ∙ number)
      had n (source file wire is_head) = source file wire is_head

      lanes : (p into from n i : ℕ) (wire : Wire) → IsWire (frame_in o head (slice_set parts place new)) wire → wire.number ≡ p → (lane : ℕ) → wire.leads ≡ over lane n i from → LeadsInto wire into → LaneOut (frame_in o head parts) p into from n i
      lanes p into from n i wire (of_head is_head) number lane leads l = record { wire = wire; is = of_head is_head; number = number; lane = lane; leads = leads; into = l }
      lanes p into from n i wire (of_part j k w) number lane leads l =
          let z = wire_pad o head (slice_set parts place new) j k wire w in
          go z (pad_before parts place port old new was is at pad j k z.0 z.1)
        where
          go : (z : (q : Pad O) × PadAt (slice_set parts place new) j k q × (wire_of o q ≡ wire)) → PadAt parts j k z.0 ⊎ ((z.0 ≡ is) × PadAt parts j k was × (j ≡ place) × (k ≡ port)) → LaneOut (frame_in o head parts) p into from n i
          go z (inl there) = record { wire = wire; is = of_part j k (subst (WireAt (frame_in o head parts) j k) z.2 (pad_wire o head parts j k z.0 there)); number = number; lane = lane; leads = leads; into = l }
          go z (inr t) =
              let same : wire_of o is ≡ wire = ap (λ (q : Pad O). wire_of o q) (sym t.0) ∙ z.2 in
              back_out (frame_in o head parts) p into from n i (wire_of o was) (wire_of o is) (of_part j k (pad_wire o head parts j k was t.1)) back
              (ap (λ (x : Wire). x.number) same ∙ number) lane (ap (λ (x : Wire). x.leads) same ∙ leads) (subst (λ (x : Wire). LeadsInto x into) (sym same) l)

  -- the pad of the source is another
  source_alike : (old new : SourceHead S O s) (parts : List (Part E O e)) → IsSameSource old new → LeadsBack (wire_of o old.pad) (wire_of o new.pad) → (head head' : Head S I O s) → head ≡ Source old → head' ≡ Source new → Alike o head head' parts parts
  source_alike old new parts same back head head' here here' =
      subst (λ (x : Head S I O s). Alike o x head' parts parts) (sym here) (subst (λ (x : Head S I O s). Alike o before x parts parts) (sym here') (record {
        has = has;
        had = had;
        fed = λ inlets x. absurd (let y : before ≡ Inlets inlets = cc in cc);
        was_fed = λ inlets x. absurd cc;
        lanes = λ p into from n i out. lanes p into from n i out.wire out.is out.number out.lane out.leads out.into;
      }))
    where
      before : Head S I O s
      before = Source old

      now : Head S I O s
      now = Source new

      has : (n : ℕ) → HasElement (frame_in o now parts) n → HasElement (frame_in o before parts) n
      has n (part k one at number) = part k one at number
      has n (source file wire is_head) = source (s.file old.source) (wire_of o old.pad) (ap (λ (x : ℕ). by_source x (s.file old.source) (wire_of o old.pad)) (sym same.number ∙ number_in new.number n (s.file new.source) file (wire_of o new.pad) wire is_head))

      had : (n : ℕ) → HasElement (frame_in o before parts) n → HasElement (frame_in o now parts) n
      had n (part k one at number) = part k one at number
      had n (source file wire is_head) = source (s.file new.source) (wire_of o new.pad) (ap (λ (x : ℕ). by_source x (s.file new.source) (wire_of o new.pad)) (same.number ∙ number_in old.number n (s.file old.source) file (wire_of o old.pad) wire is_head))

      lanes : (p into from n i : ℕ) (wire : Wire) → IsWire (frame_in o now parts) wire → wire.number ≡ p → (lane : ℕ) → wire.leads ≡ over lane n i from → LeadsInto wire into → LaneOut (frame_in o before parts) p into from n i
      lanes p into from n i wire (of_part j k w) number lane leads l = record { wire = wire; is = of_part j k (record { part = w.part; at = w.at; pad_at = w.pad_at }); number = number; lane = lane; leads = leads; into = l }
      lanes p into from n i wire (of_head is_head) number lane leads l =
          let same_wire : wire_of o new.pad ≡ wire = some_same is_head in
          back_out (frame_in o before parts) p into from n i (wire_of o old.pad) (wire_of o new.pad) (of_head refl) back
          (ap (λ (x : Wire). x.number) same_wire ∙ number) lane (ap (λ (x : Wire). x.leads) same_wire ∙ leads) (subst (λ (x : Wire). LeadsInto x into) (sym same_wire) l)

  pub pad_alike : (head head' : Head S I O s) (parts parts' : List (Part E O e)) (was is : Pad O) → PadIs head parts head' parts' was is → LeadsBack (wire_of o was) (wire_of o is) → Alike o head head' parts parts'
  pad_alike head head' parts parts' was is (PadIs.of_source old new here here' pad pad' same stays) back =
      subst (λ (ps : List (Part E O e)). Alike o head head' parts ps) (sym stays)
      (source_alike old new parts same (subst (λ (q : Pad O). LeadsBack (wire_of o q) (wire_of o new.pad)) (sym pad) (subst (λ (q : Pad O). LeadsBack (wire_of o was) (wire_of o q)) (sym pad') back)) head head' here here')
  pad_alike head head' parts parts' was is (PadIs.of_part place port old new at set pad same) back =
      subst (λ (x : Head S I O s). Alike o head x parts parts') (sym same) (subst (λ (ps : List (Part E O e)). Alike o head head parts ps) (sym set) (part_alike head parts place port old new was is at pad back))
