-- A task of which one pad leads elsewhere, by its frame.
use Rattle.std.proofs.Common.{◌≡◌, ◌⊎◌, ℕ, List, Option, Some, map, refl, sym, ap, ◌∙◌, inl, inr}
use Rattle.std.specs.Prelude.{slice_get, slice_set}
use Rattle.std.proofs.lemmas.Bool.{cases_eq}
use Rattle.std.proofs.lemmas.List.{map-set}
use Rattle.lane_core.specs.declared.ends.Outlet as outlets
use Rattle.flow_model.specs.declared.element.TaskElement as elements
use Rattle.flow_model.specs.declared.source.TaskSource as sources
use Rattle.task_pads.specs.Behind.{inside}
use Rattle.task_pads.specs.declared.pad.Pad.{Pad}
use Rattle.task_pads.proofs.Lists.{set_there}
use Rattle.task_parts.specs.declared.head.Head.{Head}
use Rattle.task_parts.specs.declared.part.Part.{Part}
use Rattle.net_task.specs.Frame.{HeadFrame, PartFrame, TaskFrame, Wire, IsWire, by_inlets, by_source, frame_in, head_frame, head_wire, of_head, of_part, part_frame, wire_of}
use Rattle.net_turns.specs.Net.{HasElement, part, source}
use Rattle.net_groups.proofs.Wiring.{IsOf, of_part as of_element, of_source}
use Rattle.task_edits.specs.Changes.{PadIs}
use Rattle.gst_value.proofs.Basics.{some_same}
use Rattle.gst_value.proofs.Places.{map_get, set_at, set_here}
use Rattle.edit_core.specs.Tasks.{LeadsOn, number_of_head}

-- One wire of a frame is another now: that of its source, or one of an element.
pub data Rewired (f f' : TaskFrame) (was is : Wire) : Type 0 where
  at_head : (n : ℕ) (file file' : Option (Option (List ℕ))) → f.head ≡ by_source n file was → f'.head ≡ by_source n file' is → f'.parts ≡ f.parts → Rewired f f' was is
  at_part : (place port : ℕ) (old new : PartFrame) → slice_get f.parts place ≡ Some old → f'.parts ≡ slice_set f.parts place new → new.number ≡ old.number
      → slice_get old.wires port ≡ Some was → new.wires ≡ slice_set old.wires port is → f'.head ≡ f.head → Rewired f f' was is

abbrev number_of_source : HeadFrame → ℕ
number_of_source (by_source n file wire) = n
number_of_source (by_inlets n rows) = 0

abbrev wire_of_source : Wire → HeadFrame → Wire
wire_of_source other (by_source n file wire) = wire
wire_of_source other (by_inlets n rows) = other

-- what stands at a place of a list of which one is another
at_set : {A : Type 0} (xs ys : List A) (k : ℕ) (y : A) → ys ≡ slice_set xs k y → (j : ℕ) (x : A) → slice_get ys j ≡ Some x → ((j ≡ k) × (x ≡ y)) ⊎ (slice_get xs j ≡ Some x)
at_set {A = A} xs ys k y set j x at = go (cases_eq j k)
  where
    there : slice_get (slice_set xs k y) j ≡ Some x
    there = ap (λ (zs : List A). slice_get zs j) (sym set) ∙ at

    go : (j ≡ k) ⊎ (j ≡ k → ⊥) → ((j ≡ k) × (x ≡ y)) ⊎ (slice_get xs j ≡ Some x)
    go (inl same) = inl (same, set_here xs k x y (ap (λ (z : ℕ). slice_get (slice_set xs k y) z) (sym same) ∙ there))
    go (inr other) = inr (sym (set_there xs k j y other) ∙ there)

-- what stood there before
set_on : {A : Type 0} (xs ys : List A) (k : ℕ) (z y : A) → slice_get xs k ≡ Some z → ys ≡ slice_set xs k y → (j : ℕ) (x : A) → slice_get xs j ≡ Some x → ((j ≡ k) × (x ≡ z)) ⊎ (slice_get ys j ≡ Some x)
set_on {A = A} xs ys k z y here set j x at = go (cases_eq j k)
  where
    go : (j ≡ k) ⊎ (j ≡ k → ⊥) → ((j ≡ k) × (x ≡ z)) ⊎ (slice_get ys j ≡ Some x)
    go (inl same) = inl (same, some_same (sym at ∙ ap (λ (i : ℕ). slice_get xs i) same ∙ here))
    go (inr other) = inr (ap (λ (zs : List A). slice_get zs j) set ∙ set_there xs k j y other ∙ at)

set_now : {A : Type 0} (xs ys : List A) (k : ℕ) (z y : A) → slice_get xs k ≡ Some z → ys ≡ slice_set xs k y → slice_get ys k ≡ Some y
set_now {A = A} xs ys k z y here set = ap (λ (zs : List A). slice_get zs k) set ∙ set_at xs k z y here

module _ (f f' : TaskFrame) (was is : Wire) where
  -- the wire was there
  pub rewired_there : Rewired f f' was is → IsWire f was
  rewired_there (at_head n file file' head head' parts) = of_head (ap (λ (h : HeadFrame). head_wire h) head)
  rewired_there (at_part place port old new at set number wire_at wires head) = of_part place port (record { part = old; at = at; pad_at = wire_at })

  -- each other wire was there too
  pub rewired_back : Rewired f f' was is → (wire : Wire) → IsWire f' wire → IsWire f wire ⊎ (wire ≡ is)
  rewired_back (at_head n file file' head head' parts) wire (of_part j k w) = inl (of_part j k (record { part = w.part; at = ap (λ (ps : List PartFrame). slice_get ps j) (sym parts) ∙ w.at; pad_at = w.pad_at }))
  rewired_back (at_head n file file' head head' parts) wire (of_head at) = inr (some_same (sym at ∙ ap (λ (h : HeadFrame). head_wire h) head'))
  rewired_back (at_part place port old new at set number wire_at wires head) wire (of_head at_wire) = inl (of_head (ap (λ (h : HeadFrame). head_wire h) (sym head) ∙ at_wire))
  rewired_back (at_part place port old new at set number wire_at wires head) wire (of_part j k w) = go (at_set f.parts f'.parts place new set j w.part w.at)
    where
      by : slice_get new.wires k ≡ Some wire → ((k ≡ port) × (wire ≡ is)) ⊎ (slice_get old.wires k ≡ Some wire) → IsWire f wire ⊎ (wire ≡ is)
      by there (inl z) = inr z.1
      by there (inr z) = inl (of_part place k (record { part = old; at = at; pad_at = z }))

      go : ((j ≡ place) × (w.part ≡ new)) ⊎ (slice_get f.parts j ≡ Some w.part) → IsWire f wire ⊎ (wire ≡ is)
      go (inl z) =
          let there : slice_get new.wires k ≡ Some wire = ap (λ (p : PartFrame). slice_get p.wires k) (sym z.1) ∙ w.pad_at in
          by there (at_set old.wires new.wires port is wires k wire there)
      go (inr z) = inl (of_part j k (record { part = w.part; at = z; pad_at = w.pad_at }))

  -- the elements are the same
  pub rewired_has : Rewired f f' was is → (n : ℕ) → HasElement f' n → HasElement f n
  rewired_has (at_head m file file' head head' parts) n (part place one at number) = part place one (ap (λ (ps : List PartFrame). slice_get ps place) (sym parts) ∙ at) number
  rewired_has (at_head m file file' head head' parts) n (source own wire at) = source file was (head ∙ ap (λ (k : ℕ). by_source k file was) (ap number_of_source (sym head' ∙ at)))
  rewired_has (at_part place port old new at set number wire_at wires head) n (source own wire here) = source own wire (sym head ∙ here)
  rewired_has (at_part place port old new at set number wire_at wires head) n (part j one one_at named) = go (at_set f.parts f'.parts place new set j one one_at)
    where
      go : ((j ≡ place) × (one ≡ new)) ⊎ (slice_get f.parts j ≡ Some one) → HasElement f n
      go (inl z) = part place old at (sym number ∙ ap (λ (p : PartFrame). p.number) (sym z.1) ∙ named)
      go (inr z) = part j one z named

  pub rewired_had : Rewired f f' was is → (n : ℕ) → HasElement f n → HasElement f' n
  rewired_had (at_head m file file' head head' parts) n (part place one at number) = part place one (ap (λ (ps : List PartFrame). slice_get ps place) parts ∙ at) number
  rewired_had (at_head m file file' head head' parts) n (source own wire at) = source file' is (head' ∙ ap (λ (k : ℕ). by_source k file' is) (ap number_of_source (sym head ∙ at)))
  rewired_had (at_part place port old new at set number wire_at wires head) n (source own wire here) = source own wire (head ∙ here)
  rewired_had (at_part place port old new at set number wire_at wires head) n (part j one one_at named) = go (set_on f.parts f'.parts place old new at set j one one_at)
    where
      go : ((j ≡ place) × (one ≡ old)) ⊎ (slice_get f'.parts j ≡ Some one) → HasElement f' n
      go (inl z) = part place new (set_now f.parts f'.parts place old new at set) (number ∙ ap (λ (p : PartFrame). p.number) (sym z.1) ∙ named)
      go (inr z) = part j one z named

  -- the head names what it named
  pub rewired_head : Rewired f f' was is → number_of_head f'.head ≡ number_of_head f.head
  rewired_head (at_head n file file' head head' parts) = ap (λ (h : HeadFrame). number_of_head h) head' ∙ sym (ap (λ (h : HeadFrame). number_of_head h) head)
  rewired_head (at_part place port old new at set number wire_at wires head) = ap (λ (h : HeadFrame). number_of_head h) head

  -- a source was one
  pub rewired_source : Rewired f f' was is → (n : ℕ) (file : Option (Option (List ℕ))) (wire : Wire) → f'.head ≡ by_source n file wire → (own : Option (Option (List ℕ))) × (one : Wire) × (f.head ≡ by_source n own one)
  rewired_source (at_head m file file' head head' parts) n own wire at = (file, was, head ∙ ap (λ (k : ℕ). by_source k file was) (ap number_of_source (sym head' ∙ at)))
  rewired_source (at_part place port old new at set number wire_at wires head) n own wire here = (own, wire, sym head ∙ here)

  -- a pad that leads on does so still, but the one
  pub rewired_on : Rewired f f' was is → (a b : ℕ) → LeadsOn f a b → LeadsOn f' a b ⊎ ((port : ℕ) × (was.leads ≡ inside b port))
  rewired_on (at_head n file file' head head' parts) a b (LeadsOn.of_source port own wire at leads) =
      inr (port, ap (λ (h : HeadFrame). (wire_of_source wire h).leads) (sym head ∙ at) ∙ leads)
  rewired_on (at_head n file file' head head' parts) a b (LeadsOn.of_part j k port one wire at wire_at number leads) =
      inl (LeadsOn.of_part j k port one wire (ap (λ (ps : List PartFrame). slice_get ps j) parts ∙ at) wire_at number leads)
  rewired_on (at_part place at_port old new at set number wire_at wires head) a b (LeadsOn.of_source port own wire here leads) = inl (LeadsOn.of_source port own wire (head ∙ here) leads)
  rewired_on (at_part place at_port old new at set number wire_at wires head) a b (LeadsOn.of_part j k port one wire one_at here named leads) = go (set_on f.parts f'.parts place old new at set j one one_at)
    where
      by : one ≡ old → ((k ≡ at_port) × (wire ≡ was)) ⊎ (slice_get new.wires k ≡ Some wire) → LeadsOn f' a b ⊎ ((port : ℕ) × (was.leads ≡ inside b port))
      by same (inl z) = inr (port, ap (λ (x : Wire). x.leads) (sym z.1) ∙ leads)
      by same (inr z) = inl (LeadsOn.of_part place k port new wire (set_now f.parts f'.parts place old new at set) z (number ∙ ap (λ (p : PartFrame). p.number) (sym same) ∙ named) leads)

      go : ((j ≡ place) × (one ≡ old)) ⊎ (slice_get f'.parts j ≡ Some one) → LeadsOn f' a b ⊎ ((port : ℕ) × (was.leads ≡ inside b port))
      go (inl z) = by z.1 (set_on old.wires new.wires at_port was is wire_at wires k wire (ap (λ (p : PartFrame). slice_get p.wires k) (sym z.1) ∙ here))
      go (inr z) = inl (LeadsOn.of_part j k port one wire z here named leads)

  -- and that one leads on from its element
  pub rewired_new : Rewired f f' was is → (b port : ℕ) → is.leads ≡ inside b port → (a : ℕ) × IsOf f a was × LeadsOn f' a b
  rewired_new (at_head n file file' head head' parts) b port leads = (n, of_source file head, LeadsOn.of_source port file' is head' leads)
  rewired_new (at_part place at_port old new at set number wire_at wires head) b port leads = (
    old.number,
    of_element place at_port (record { part = old; at = at; pad_at = wire_at }) refl,
    LeadsOn.of_part place at_port port new is (set_now f.parts f'.parts place old new at set) (set_now old.wires new.wires at_port was is wire_at wires) number leads,
  )

module _ {S E I O L : Type 0} {s : sources.Ghosts S} {e : elements.Ghosts E} (o : outlets.Ghosts O L) where
  -- so it is with a task of which one pad is another
  pub rewired : (head head' : Head S I O s) (parts parts' : List (Part E O e)) (was is : Pad O) → PadIs head parts head' parts' was is → Rewired (frame_in o head parts) (frame_in o head' parts') (wire_of o was) (wire_of o is)
  rewired head head' parts parts' was is (PadIs.of_source old new here here' pad pad' same stays) = at_head old.number (s.file old.source) (s.file new.source)
      (ap (λ (h : Head S I O s). head_frame o h) here ∙ ap (λ (p : Pad O). by_source old.number (s.file old.source) (wire_of o p)) pad)
      (ap (λ (h : Head S I O s). head_frame o h) here' ∙ ap (λ (n : ℕ). by_source n (s.file new.source) (wire_of o new.pad)) same.number ∙ ap (λ (p : Pad O). by_source old.number (s.file new.source) (wire_of o p)) pad')
      (ap (λ (ps : List (Part E O e)). map (part_frame o) ps) stays)
  rewired head head' parts parts' was is (PadIs.of_part place port old new at set pad same) = at_part place port (part_frame o old) (part_frame o new)
      (map_get (part_frame o) parts place old at)
      (ap (λ (ps : List (Part E O e)). map (part_frame o) ps) set ∙ map-set (part_frame o) parts place new)
      pad.number
      (map_get (wire_of o) old.pads.items port was pad.at)
      (ap (λ (ps : List (Pad O)). map (wire_of o) ps) pad.set ∙ map-set (wire_of o) old.pads.items port is)
      (ap (λ (h : Head S I O s). head_frame o h) same)
