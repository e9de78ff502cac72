-- A pad of a task leads nowhere now: what the task has, and where its other pads lead.
use Rattle.std.proofs.Common.{◌≡◌, ◌⊎◌, ℕ, List, Some, length, map, refl, sym, ap, ◌∙◌, subst, inl, inr}
use Rattle.std.specs.Prelude.{slice_get, slice_set}
use Rattle.std.proofs.lemmas.Bool.{cases_eq}
use Rattle.std.proofs.lemmas.List.{length-map}
use Rattle.lane_core.specs.declared.ends.Outlet as outlets
use Rattle.flow_model.specs.declared.element.TaskElement as elements
use Rattle.flow_model.specs.declared.source.TaskSource as sources
use Rattle.task_pads.specs.Behind.{goes, inside, nowhere}
use Rattle.task_pads.specs.declared.pad.Behind.{Behind}
use Rattle.task_pads.specs.declared.pad.Behind.TheVariants.{Nothing}
use Rattle.task_pads.specs.declared.pad.Pad.{Pad}
use Rattle.task_pads.specs.Pads.{IsLed, number_of}
use Rattle.task_pads.proofs.Lists.{map_set, set_length, set_there}
use Rattle.task_parts.specs.Head.{IsSameSource}
use Rattle.task_parts.specs.declared.head.Head.{Head}
use Rattle.task_parts.specs.declared.head.Head.TheVariants.{Source, Inlets}
use Rattle.task_parts.specs.declared.head.InletHead.{InletHead}
use Rattle.task_parts.specs.declared.head.SourceHead.{SourceHead}
use Rattle.task_parts.specs.declared.part.Part.{Part}
use Rattle.task_parts.proofs.Lists.{map_back}
use Rattle.gst_value.proofs.Basics.{some_same}
use Rattle.gst_value.proofs.Places.{map_get, map_got, set_at}
use Rattle.net_task.specs.Frame.{HeadFrame, IsWire, PartFrame, TaskFrame, Wire, WireAt, by_inlets, by_source, frame_in, head_wire, part_frame, wire_of}
use Rattle.net_turns.specs.Net.{HasElement}
use Rattle.task_edits.specs.Changes.{Changed, LedBy, PadIn, PadIs}
use Rattle.task_edits.proofs.Wiring.{PadAt, pad_before, pad_wire, wire_pad}
use Rattle.net_groups.specs.Places.{HasPad}
use Rattle.edit_core.specs.Tasks.{LeadsOn, number_of_head}
use Rattle.edit_acts.proofs.Made.{IsSource}

-- the pad of a number leads inside of its task to an element
pub record LeadsBy (pad : ℕ) (frame : TaskFrame) (n : ℕ) : Type 0 where
  pub wire : Wire
  pub is : IsWire frame wire
  pub number : wire.number ≡ pad
  pub port : ℕ
  pub leads : wire.leads ≡ inside n port

-- an element of the number stands at a place
pub record SameAt (parts : List PartFrame) (k number : ℕ) : Type 0 where
  pub one : PartFrame
  pub at : slice_get parts k ≡ Some one
  pub same : one.number ≡ number

-- The pad of a number may lead nowhere now, and all else is as it was.
pub record IsCut (pad : ℕ) (was is : TaskFrame) : Type 0 where
  pub head : number_of_head is.head ≡ number_of_head was.head
  pub has : (n : ℕ) → HasElement is n → HasElement was n
  pub had : (n : ℕ) → HasElement was n → HasElement is n
  pub wires : (wire : Wire) → IsWire is wire → IsWire was wire ⊎ (wire.leads ≡ nowhere)
  pub pads : (wire : Wire) → IsWire is wire → HasPad was wire.number
  pub leads : (a b : ℕ) → LeadsOn was a b → LeadsOn is a b ⊎ LeadsBy pad was b
  pub sources : (n : ℕ) → IsSource is n → IsSource was n
  pub size : length is.parts ≡ length was.parts
  pub places : (k : ℕ) (one : PartFrame) → slice_get is.parts k ≡ Some one → SameAt was.parts k one.number

pub same_cut : (pad : ℕ) (frame : TaskFrame) → IsCut pad frame frame
same_cut pad frame = record { head = refl; has = λ n x. x; had = λ n x. x; wires = λ wire x. inl x; pads = λ wire x. record { wire = wire; is = x; number_is = refl }; leads = λ a b x. inl x; sources = λ n x. x; size = refl; places = λ k one at. record { one = one; at = at; same = refl } }

abbrev wire_in : Wire → HeadFrame → Wire
wire_in other (by_source n file wire) = wire
wire_in other (by_inlets n rows) = other

-- a pad whose link was undone
leads_nowhere : {O L : Type 0} (o : outlets.Ghosts O L) (was is : Pad O) → IsLed was is Nothing → (wire : Wire) → wire_of o is ≡ wire → wire.leads ≡ nowhere
leads_nowhere {O = O} o was is led wire same = ap (λ (w : Wire). w.leads) (sym same) ∙ ap (λ (b : Behind O). goes b) led.leads

-- a pad stands at a port of the element of a number
record Stays {E O : Type 0} {e : elements.Ghosts E} (parts : List (Part E O e)) (j k number : ℕ) (pad : Pad O) : Type 0 where
  one : Part E O e
  one_at : slice_get parts j ≡ Some one
  pad_at : slice_get one.pads.items k ≡ Some pad
  same : one.number ≡ number

module _ {S E I O L : Type 0} {s : sources.Ghosts S} {e : elements.Ghosts E} (o : outlets.Ghosts O L) (pad : ℕ) where
  -- the pad of the source
  source_cut : (old new : SourceHead S O s) (parts : List (Part E O e)) → IsSameSource old new → IsLed old.pad new.pad Nothing → number_of old.pad ≡ pad → (head head' : Head S I O s) → head ≡ Source old → head' ≡ Source new
      → IsCut pad (frame_in o head parts) (frame_in o head' parts)
  source_cut old new parts same led number head head' here here' =
      subst (λ (h : Head S I O s). IsCut pad (frame_in o h parts) (frame_in o head' parts)) (sym here) (subst (λ (h : Head S I O s). IsCut pad (frame_in o before parts) (frame_in o h parts)) (sym here') (record {
        head = same.number;
        has = has;
        had = had;
        wires = wires;
        pads = pads;
        leads = leads;
        sources = λ n x. record { file = s.file old.source; wire = wire_of o old.pad; is = ap (λ (k : ℕ). by_source k (s.file old.source) (wire_of o old.pad)) (sym same.number ∙ ap (λ (h : HeadFrame). number_of_head h) x.is) };
        size = refl;
        places = λ k one at. record { one = one; at = at; same = refl };
      }))
    where
      before : Head S I O s
      before = Source old

      now : Head S I O s
      now = Source new

      has : (n : ℕ) → HasElement (frame_in o now parts) n → HasElement (frame_in o before parts) n
      has n (HasElement.part k one at is) = HasElement.part k one at is
      has n (HasElement.source file wire is) =
          HasElement.source (s.file old.source) (wire_of o old.pad) (ap (λ (k : ℕ). by_source k (s.file old.source) (wire_of o old.pad)) (sym same.number ∙ ap (λ (h : HeadFrame). number_of_head h) is))

      had : (n : ℕ) → HasElement (frame_in o before parts) n → HasElement (frame_in o now parts) n
      had n (HasElement.part k one at is) = HasElement.part k one at is
      had n (HasElement.source file wire is) =
          HasElement.source (s.file new.source) (wire_of o new.pad) (ap (λ (k : ℕ). by_source k (s.file new.source) (wire_of o new.pad)) (same.number ∙ ap (λ (h : HeadFrame). number_of_head h) is))

      wires : (wire : Wire) → IsWire (frame_in o now parts) wire → IsWire (frame_in o before parts) wire ⊎ (wire.leads ≡ nowhere)
      wires wire (IsWire.of_part j k w) = inl (IsWire.of_part j k (record { part = w.part; at = w.at; pad_at = w.pad_at }))
      wires wire (IsWire.of_head is) = inr (leads_nowhere o old.pad new.pad led wire (some_same is))

      pads : (wire : Wire) → IsWire (frame_in o now parts) wire → HasPad (frame_in o before parts) wire.number
      pads wire (IsWire.of_part j k w) = record { wire = wire; is = IsWire.of_part j k (record { part = w.part; at = w.at; pad_at = w.pad_at }); number_is = refl }
      pads wire (IsWire.of_head is) = record { wire = wire_of o old.pad; is = IsWire.of_head refl; number_is = sym led.number ∙ ap (λ (w : Wire). w.number) (some_same is) }

      leads : (a b : ℕ) → LeadsOn (frame_in o before parts) a b → LeadsOn (frame_in o now parts) a b ⊎ LeadsBy pad (frame_in o before parts) b
      leads a b (LeadsOn.of_part j k port part wire at wire_at is to) = inl (LeadsOn.of_part j k port part wire at wire_at is to)
      leads a b (LeadsOn.of_source port file wire is to) = inr (record {
        wire = wire;
        is = IsWire.of_head (ap (λ (h : HeadFrame). head_wire h) is);
        number = ap (λ (h : HeadFrame). (wire_in wire h).number) (sym is) ∙ number;
        port = port;
        leads = to;
      })

  -- a pad of an element
  part_cut : (head : Head S I O s) (parts : List (Part E O e)) (place port : ℕ) (old new : Part E O e) (was is : Pad O) → slice_get parts place ≡ Some old → PadIn old new port was is → IsLed was is Nothing
      → number_of was ≡ pad → IsCut pad (frame_in o head parts) (frame_in o head (slice_set parts place new))
  part_cut head parts place port old new was is at changed led number = record {
    head = refl;
    has = has;
    had = had;
    wires = wires;
    pads = pads;
    leads = leads;
    sources = λ n x. record { file = x.file; wire = x.wire; is = x.is };
    size = length-map (slice_set parts place new) (part_frame o) ∙ set_length parts place new ∙ sym (length-map parts (part_frame o));
    places = places;
  }
    where
      numbers : map (λ (q : Part E O e). q.number) (slice_set parts place new) ≡ map (λ (q : Part E O e). q.number) parts
      numbers = map_set (λ (q : Part E O e). q.number) parts place old new at changed.number

      places : (k : ℕ) (one : PartFrame) → slice_get (map (part_frame o) (slice_set parts place new)) k ≡ Some one → SameAt (map (part_frame o) parts) k one.number
      places k one one_at =
          let z = map_got (part_frame o) (slice_set parts place new) k one one_at in
          let y = map_back (λ (q : Part E O e). q.number) parts (slice_set parts place new) numbers k z.0 z.1 in
          record { one = part_frame o y.0; at = map_get (part_frame o) parts k y.0 y.1; same = sym y.2 ∙ ap (λ (f : PartFrame). f.number) (sym z.2) }

      has : (n : ℕ) → HasElement (frame_in o head (slice_set parts place new)) n → HasElement (frame_in o head parts) n
      has n (HasElement.part k one one_at same) = let z = places k one one_at in HasElement.part k z.one z.at (z.same ∙ same)
      has n (HasElement.source file wire is_head) = HasElement.source file wire is_head

      had : (n : ℕ) → HasElement (frame_in o head parts) n → HasElement (frame_in o head (slice_set parts place new)) n
      had n (HasElement.part k one one_at same) =
          let z = map_got (part_frame o) parts k one one_at in
          let y = map_back (λ (q : Part E O e). q.number) (slice_set parts place new) parts (sym numbers) k z.0 z.1 in
          HasElement.part k (part_frame o y.0) (map_get (part_frame o) (slice_set parts place new) k y.0 y.1) (sym y.2 ∙ ap (λ (f : PartFrame). f.number) (sym z.2) ∙ same)
      had n (HasElement.source file wire is_head) = HasElement.source file wire is_head

      wires : (wire : Wire) → IsWire (frame_in o head (slice_set parts place new)) wire → IsWire (frame_in o head parts) wire ⊎ (wire.leads ≡ nowhere)
      wires wire (IsWire.of_head is_head) = inl (IsWire.of_head is_head)
      wires wire (IsWire.of_part j k w) =
          let z = wire_pad o head (slice_set parts place new) j k wire w in
          go z (pad_before parts place port old new was is at changed j k z.0 z.1)
        where
          go : (z : (q : Pad O) × PadAt (slice_set parts place new) j k q × (wire_of o q ≡ wire)) → PadAt parts j k z.0 ⊎ ((z.0 ≡ is) × PadAt parts j k was × (j ≡ place) × (k ≡ port))
              → IsWire (frame_in o head parts) wire ⊎ (wire.leads ≡ nowhere)
          go z (inl there) = inl (IsWire.of_part j k (subst (WireAt (frame_in o head parts) j k) z.2 (pad_wire o head parts j k z.0 there)))
          go z (inr t) = inr (leads_nowhere o was is led wire (ap (λ (q : Pad O). wire_of o q) (sym t.0) ∙ z.2))

      pads : (wire : Wire) → IsWire (frame_in o head (slice_set parts place new)) wire → HasPad (frame_in o head parts) wire.number
      pads wire (IsWire.of_head is_head) = record { wire = wire; is = IsWire.of_head is_head; number_is = refl }
      pads wire (IsWire.of_part j k w) =
          let z = wire_pad o head (slice_set parts place new) j k wire w in
          go z (pad_before parts place port old new was is at changed j k z.0 z.1)
        where
          go : (z : (q : Pad O) × PadAt (slice_set parts place new) j k q × (wire_of o q ≡ wire)) → PadAt parts j k z.0 ⊎ ((z.0 ≡ is) × PadAt parts j k was × (j ≡ place) × (k ≡ port)) → HasPad (frame_in o head parts) wire.number
          go z (inl there) = record { wire = wire_of o z.0; is = IsWire.of_part j k (pad_wire o head parts j k z.0 there); number_is = ap (λ (w : Wire). w.number) z.2 }
          go z (inr t) = record {
            wire = wire_of o was;
            is = IsWire.of_part j k (pad_wire o head parts j k was t.1);
            number_is = sym led.number ∙ ap (λ (q : Pad O). number_of q) (sym t.0) ∙ ap (λ (w : Wire). w.number) z.2;
          }

      -- a pad that stood at a port stands there, or is the one
      stays : (j k : ℕ) (one : Part E O e) (q : Pad O) → slice_get parts j ≡ Some one → slice_get one.pads.items k ≡ Some q → Stays (slice_set parts place new) j k one.number q ⊎ (q ≡ was)
      stays j k one q one_at q_at = go (cases_eq j place) (cases_eq k port)
        where
          is_old : j ≡ place → old ≡ one
          is_old same = some_same (sym at ∙ ap (λ (x : ℕ). slice_get parts x) (sym same) ∙ one_at)

          go : (j ≡ place) ⊎ (j ≡ place → ⊥) → (k ≡ port) ⊎ (k ≡ port → ⊥) → Stays (slice_set parts place new) j k one.number q ⊎ (q ≡ was)
          go (inr other) either = inl (record { one = one; one_at = set_there parts place j new other ∙ one_at; pad_at = q_at; same = refl })
          go (inl same) (inl here) = inr (some_same (sym q_at ∙ ap (λ (p : Part E O e). slice_get p.pads.items k) (sym (is_old same)) ∙ ap (λ (x : ℕ). slice_get old.pads.items x) here ∙ changed.at))
          go (inl same) (inr other) = inl (record {
            one = new;
            one_at = ap (λ (x : ℕ). slice_get (slice_set parts place new) x) same ∙ set_at parts place old new at;
            pad_at = ap (λ (ps : List (Pad O)). slice_get ps k) changed.set ∙ set_there old.pads.items port k is other ∙ ap (λ (p : Part E O e). slice_get p.pads.items k) (is_old same) ∙ q_at;
            same = changed.number ∙ ap (λ (p : Part E O e). p.number) (is_old same);
          })

      leads : (a b : ℕ) → LeadsOn (frame_in o head parts) a b → LeadsOn (frame_in o head (slice_set parts place new)) a b ⊎ LeadsBy pad (frame_in o head parts) b
      leads a b (LeadsOn.of_source sink file wire is_head to) = inl (LeadsOn.of_source sink file wire is_head to)
      leads a b (LeadsOn.of_part j k sink part wire part_at wire_at same to) =
          let z = map_got (part_frame o) parts j part part_at in
          let y = map_got (wire_of o) z.0.pads.items k wire (ap (λ (f : PartFrame). slice_get f.wires k) (sym z.2) ∙ wire_at) in
          go z.0 y.0 (sym (ap (λ (f : PartFrame). f.number) z.2) ∙ same) y.2 (stays j k z.0 y.0 z.1 y.1)
        where
          go : (one : Part E O e) (q : Pad O) → one.number ≡ a → wire ≡ wire_of o q → Stays (slice_set parts place new) j k one.number q ⊎ (q ≡ was)
              → LeadsOn (frame_in o head (slice_set parts place new)) a b ⊎ LeadsBy pad (frame_in o head parts) b
          go one q one_is wire_is (inl y) =
              inl (LeadsOn.of_part j k sink (part_frame o y.one) wire (map_get (part_frame o) (slice_set parts place new) j y.one y.one_at) (map_get (wire_of o) y.one.pads.items k q y.pad_at ∙ ap Some (sym wire_is)) (y.same ∙ one_is) to)
          go one q one_is wire_is (inr same) = inr (record {
            wire = wire;
            is = IsWire.of_part j k (record { part = part; at = part_at; pad_at = wire_at });
            number = ap (λ (w : Wire). w.number) wire_is ∙ ap (λ (p : Pad O). number_of p) same ∙ number;
            port = sink;
            leads = to;
          })

  pad_cut : (head head' : Head S I O s) (parts parts' : List (Part E O e)) (was is : Pad O) → PadIs head parts head' parts' was is → IsLed was is Nothing → number_of was ≡ pad
      → IsCut pad (frame_in o head parts) (frame_in o head' parts')
  pad_cut head head' parts parts' was is (PadIs.of_source old new here here' old_pad new_pad same stays) led number =
      subst (λ (ps : List (Part E O e)). IsCut pad (frame_in o head parts) (frame_in o head' ps)) (sym stays)
      (source_cut old new parts same (subst (λ (q : Pad O). IsLed q new.pad Nothing) (sym old_pad) (subst (λ (q : Pad O). IsLed was q Nothing) (sym new_pad) led)) (ap (λ (q : Pad O). number_of q) old_pad ∙ number) head head' here here')
  pad_cut head head' parts parts' was is (PadIs.of_part place port old new at set changed same) led number =
      subst (λ (h : Head S I O s). IsCut pad (frame_in o head parts) (frame_in o h parts')) (sym same)
      (subst (λ (ps : List (Part E O e)). IsCut pad (frame_in o head parts) (frame_in o head ps)) (sym set) (part_cut head parts place port old new was is at changed led number))

  -- what undoing the link of a pad leaves of a task
  pub changed_cut : (head head' : Head S I O s) (parts parts' : List (Part E O e)) (back : Behind O) (Kept : Type 0) → Changed (LedBy Nothing back) Kept pad head parts head' parts' → IsCut pad (frame_in o head parts) (frame_in o head' parts')
  changed_cut head head' parts parts' back Kept (inl (was, is, number, by, changed)) = pad_cut head head' parts parts' was is changed by.0 number
  changed_cut head head' parts parts' back Kept (inr (none, h, p, kept)) =
      subst (λ (x : Head S I O s). IsCut pad (frame_in o head parts) (frame_in o x parts')) (sym h)
      (subst (λ (ps : List (Part E O e)). IsCut pad (frame_in o head parts) (frame_in o head ps)) (sym p) (same_cut pad (frame_in o head parts)))

-- the inlets that a head has
module _ {S E I O : Type 0} {s : sources.Ghosts S} {e : elements.Ghosts E} where
  pub fed_back : (number : ℕ) (head head' : Head S I O s) (parts parts' : List (Part E O e)) (By : Pad O → Pad O → Type 0) (Kept : Type 0) → Changed By Kept number head parts head' parts' → (fed : InletHead I)
      → (head' ≡ Inlets fed → head ≡ Inlets fed) × (head ≡ Inlets fed → head' ≡ Inlets fed)
  fed_back number head head' parts parts' By Kept (inl (was, is, same, by, PadIs.of_source old new here here' old_pad new_pad source stays)) fed =
      (λ x. absurd (clash new (sym here' ∙ x)), λ x. absurd (clash old (sym here ∙ x)))
    where
      clash : (one : SourceHead S O s) → Source one ≡ Inlets fed → ⊥
      clash one z = cc
  fed_back number head head' parts parts' By Kept (inl (was, is, number_is, by, PadIs.of_part place port old new at set changed same)) fed = (λ x. sym same ∙ x, λ x. same ∙ x)
  fed_back number head head' parts parts' By Kept (inr (none, h, p, kept)) fed = (λ x. sym h ∙ x, λ x. h ∙ x)
