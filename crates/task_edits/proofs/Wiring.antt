-- One pad of a task is another now: that the task names only its own elements, that its lanes are apart, and how many items it can still
-- move.
use Rattle.std.proofs.Common.{Option, ◌≡◌, ◌⊎◌, ◌+◌, ◌-◌, ◌&&◌, ℕ, zero, suc, Bool, true, List, [], ◌∷◌, map, Some, refl, sym, ap, ◌∙◌, subst, inl, inr, arith}
use Rattle.std.specs.Prelude.{slice_get, slice_set, sum_by}
use Rattle.std.proofs.lemmas.List.Sums.{sum_by-cons}
use Rattle.lane_core.specs.Lane.{Lane}
use Rattle.lane_core.specs.declared.ends.Inlet as inlets
use Rattle.lane_core.specs.declared.ends.Outlet as outlets
use Rattle.flow_model.specs.declared.element.TaskElement as elements
use Rattle.flow_model.specs.declared.source.TaskSource as sources
use Rattle.task_pads.specs.Behind.{Goes, nowhere, inside, over}
use Rattle.task_pads.specs.declared.pad.Pad.{Pad}
use Rattle.task_pads.specs.Pads.{PadReady, PadShape, crossed_count, goes_of, pad_shape}
use Rattle.task_parts.specs.Part.{PartReady}
use Rattle.task_parts.specs.Shape.{HeadShape, PartShape, all_within, by_source, by_inlets, goes_within, has_number, head_shape, head_within, is_closed, pads_within, part_shape, shape_of}
use Rattle.task_parts.specs.declared.head.Head.{Head}
use Rattle.task_parts.specs.declared.head.Head.TheVariants.{Source, Inlets}
use Rattle.task_parts.specs.declared.part.Part.{Part}
use Rattle.net_task.specs.Frame.{PartFrame, Wire, WireAt, frame_in, part_frame, wire_of}
use Rattle.net_task.specs.Fuel.{head_left, pad_left, part_left}
use Rattle.net_task.specs.Ready.{AreReady, HeadApart, LeadsInto, PartsReady}
use Rattle.gst_value.proofs.Basics.{and_left, and_right, some_same}
use Rattle.gst_value.proofs.Places.{map_get, map_got}
use Rattle.task_parts.proofs.Lists.{each_set}
use Rattle.task_edits.specs.Changes.{PadIn, PadIs}

-- ---- how many items can move yet

sum_set : {A : Type 0} (f : A → ℕ) (xs : List A) (k : ℕ) (x y : A) → slice_get xs k ≡ Some x → f y ≡ f x → sum_by f (slice_set xs k y) ≡ sum_by f xs
sum_set f [] k x y at same = refl
sum_set f (z ∷ zs) zero x y at same =
    let a = sum_by-cons f y zs in
    let b = sum_by-cons f z zs in
    let c = same ∙ ap f (sym (some_same at)) in
    omega (arith, a, b, c)
sum_set f (z ∷ zs) (suc k) x y at same =
    let a = sum_by-cons f z (slice_set zs k y) in
    let b = sum_by-cons f z zs in
    let c = sum_set f zs k x y at same in
    omega (arith, a, b, c)

module _ {S E I O L : Type 0} {s : sources.Ghosts S} {e : elements.Ghosts E} (i : inlets.Ghosts I L O) where
  abbrev pub left_in : Head S I O s → List (Part E O e) → ℕ
  left_in head parts = head_left i head + sum_by (λ part. part_left part) parts

  -- what a task can still move hangs on what crossed its pads
  pub left_same : (head head' : Head S I O s) (parts parts' : List (Part E O e)) (was is : Pad O) → PadIs head parts head' parts' was is → crossed_count is ≡ crossed_count was → left_in head' parts' ≡ left_in head parts
  left_same head head' parts parts' was is (PadIs.of_source old new here here' pad pad' same stays) counted =
      let count : crossed_count new.pad ≡ crossed_count old.pad = ap (λ (z : Pad O). crossed_count z) pad' ∙ counted ∙ ap (λ (z : Pad O). crossed_count z) (sym pad) in
      ap (λ (h : Head S I O s). left_in h parts') here' ∙ ap (left_in (Source new)) stays
      ∙ ap (λ (n : ℕ). ((1099511627776 - n) + (1099511627777 - new.given)) + sum_by (λ part. part_left part) parts) count
      ∙ ap (λ (n : ℕ). (pad_left old.pad + (1099511627777 - n)) + sum_by (λ part. part_left part) parts) same.given
      ∙ ap (λ (h : Head S I O s). left_in h parts) (sym here)
  left_same head head' parts parts' was is (PadIs.of_part place port old new at set pad same) counted =
      ap (λ (h : Head S I O s). left_in h parts') same ∙ ap (left_in head) set
      ∙ ap (λ (n : ℕ). head_left i head + n) (sum_set (λ part. part_left part) parts place old new at
      (ap (λ (ps : List (Pad O)). sum_by (λ q. pad_left q) ps) pad.set ∙ sum_set (λ q. pad_left q) old.pads.items port was is pad.at (ap (λ (n : ℕ). 1099511627776 - n) counted)))

-- ---- that each element which the task names is one of it

-- the same numbers are there
abbrev pub SameNumbers : List PartShape → List PartShape → Type 0
SameNumbers all all' = (n : ℕ) → has_number n all' ≡ has_number n all

goes_as : (all all' : List PartShape) (g : Goes) → SameNumbers all all' → goes_within all' g ≡ goes_within all g
goes_as all all' nowhere same = refl
goes_as all all' (inside n k) same = same n
goes_as all all' (over lane n k from) same = refl

pads_as : (all all' : List PartShape) (pads : List PadShape) → SameNumbers all all' → pads_within all' pads ≡ pads_within all pads
pads_as all all' [] same = refl
pads_as all all' (pad ∷ pads) same = rw (goes_as all all' pad.goes same, pads_as all all' pads same) refl

parts_as : (all all' parts : List PartShape) → SameNumbers all all' → all_within all' parts ≡ all_within all parts
parts_as all all' [] same = refl
parts_as all all' (part ∷ parts) same = rw (pads_as all all' part.pads same, parts_as all all' parts same) refl

head_as : (all all' : List PartShape) (head : HeadShape) → SameNumbers all all' → head_within all' head ≡ head_within all head
head_as all all' (by_source number pad) same = goes_as all all' pad.goes same
head_as all all' (by_inlets number rows) same = same number

both_true : (a b : Bool) → a ≡ true → b ≡ true → (a && b) ≡ true
both_true a b p q = rw (p, q) refl

pads_set : {O : Type 0} (all : List PartShape) (pads : List (Pad O)) (k : ℕ) (was is : Pad O) → slice_get pads k ≡ Some was → (goes_within all (goes_of was) ≡ true → goes_within all (goes_of is) ≡ true)
    → pads_within all (map pad_shape pads) ≡ true → pads_within all (map pad_shape (slice_set pads k is)) ≡ true
pads_set all [] k was is at leads within = within
pads_set {O = O} all (p ∷ ps) zero was is at leads within =
    both_true (goes_within all (goes_of is)) (pads_within all (map pad_shape ps))
    (leads (subst (λ (z : Pad O). goes_within all (goes_of z) ≡ true) (some_same at) (and_left (goes_within all (goes_of p)) (pads_within all (map pad_shape ps)) within))) (and_right (goes_within all (goes_of p)) (pads_within all (map pad_shape ps)) within)
pads_set all (p ∷ ps) (suc k) was is at leads within =
    both_true (goes_within all (goes_of p)) (pads_within all (map pad_shape (slice_set ps k is))) (and_left (goes_within all (goes_of p)) (pads_within all (map pad_shape ps)) within)
    (pads_set all ps k was is at leads (and_right (goes_within all (goes_of p)) (pads_within all (map pad_shape ps)) within))

module _ {E O : Type 0} {e : elements.Ghosts E} where
  pub numbers_as : (parts : List (Part E O e)) (place : ℕ) (old new : Part E O e) → slice_get parts place ≡ Some old → new.number ≡ old.number → SameNumbers (map part_shape parts) (map part_shape (slice_set parts place new))
  numbers_as [] place old new at number n = refl
  numbers_as (p ∷ ps) zero old new at number n = let same : new.number ≡ p.number = number ∙ ap (λ (z : Part E O e). z.number) (sym (some_same at)) in rw same refl
  numbers_as (p ∷ ps) (suc place) old new at number n = rw (numbers_as ps place old new at number n) refl

  parts_within_set : (all : List PartShape) (parts : List (Part E O e)) (place : ℕ) (old new : Part E O e) → slice_get parts place ≡ Some old
      → (pads_within all (map pad_shape old.pads.items) ≡ true → pads_within all (map pad_shape new.pads.items) ≡ true) → all_within all (map part_shape parts) ≡ true → all_within all (map part_shape (slice_set parts place new)) ≡ true
  parts_within_set all [] place old new at pads within = within
  parts_within_set all (p ∷ ps) zero old new at pads within =
      both_true (pads_within all (map pad_shape new.pads.items)) (all_within all (map part_shape ps))
      (pads (subst (λ (z : Part E O e). pads_within all (map pad_shape z.pads.items) ≡ true) (some_same at) (and_left (pads_within all (map pad_shape p.pads.items)) (all_within all (map part_shape ps)) within))) (and_right (pads_within all (map pad_shape p.pads.items)) (all_within all (map part_shape ps)) within)
  parts_within_set all (p ∷ ps) (suc place) old new at pads within =
      both_true (pads_within all (map pad_shape p.pads.items)) (all_within all (map part_shape (slice_set ps place new))) (and_left (pads_within all (map pad_shape p.pads.items)) (all_within all (map part_shape ps)) within)
      (parts_within_set all ps place old new at pads (and_right (pads_within all (map pad_shape p.pads.items)) (all_within all (map part_shape ps)) within))

module _ {S E I O : Type 0} {s : sources.Ghosts S} {e : elements.Ghosts E} where
  pub closed_in : (head head' : Head S I O s) (parts parts' : List (Part E O e)) (was is : Pad O) → PadIs head parts head' parts' was is → (goes_within (map part_shape parts) (goes_of was) ≡ true → goes_within (map part_shape parts) (goes_of is) ≡ true)
      → is_closed (shape_of head parts) ≡ true → is_closed (shape_of head' parts') ≡ true
  closed_in head head' parts parts' was is (PadIs.of_source old new here here' pad pad' same stays) leads closed =
      let all : List PartShape = map part_shape parts in
      let head_in : goes_within all (goes_of old.pad) ≡ true = subst (λ (h : Head S I O s). head_within all (head_shape h) ≡ true) here (and_left (head_within all (head_shape head)) (all_within all all) closed) in
      let head_now : goes_within all (goes_of new.pad) ≡ true =
      subst (λ (z : Pad O). goes_within all (goes_of z) ≡ true) (sym pad') (leads (subst (λ (z : Pad O). goes_within all (goes_of z) ≡ true) pad head_in)) in
      let now : Head S I O s = Source new in
      subst (λ (h : Head S I O s). is_closed (shape_of h parts') ≡ true) (sym here') (subst (λ (ps : List (Part E O e)). is_closed (shape_of now ps) ≡ true) (sym stays)
      (both_true (goes_within all (goes_of new.pad)) (all_within all all) head_now (and_right (head_within all (head_shape head)) (all_within all all) closed)))
  closed_in head head' parts parts' was is (PadIs.of_part place port old new at set pad same) leads closed =
      let all : List PartShape = map part_shape parts in
      let now : List PartShape = map part_shape (slice_set parts place new) in
      let numbers : SameNumbers all now = numbers_as parts place old new at pad.number in
      let heads : head_within now (head_shape head) ≡ true = head_as all now (head_shape head) numbers ∙ and_left (head_within all (head_shape head)) (all_within all all) closed in
      let elements : all_within all now ≡ true =
      parts_within_set all parts place old new at
      (λ within. ap (λ (ps : List (Pad O)). pads_within all (map pad_shape ps)) pad.set ∙ pads_set all old.pads.items port was is pad.at leads within) (and_right (head_within all (head_shape head)) (all_within all all) closed) in
      subst (λ (h : Head S I O s). is_closed (shape_of h parts') ≡ true) (sym same) (subst (λ (ps : List (Part E O e)). is_closed (shape_of head ps) ≡ true) (sym set)
      (both_true (head_within now (head_shape head)) (all_within now now) heads (parts_as all now now numbers ∙ elements)))

  pub closed_with : (head head' : Head S I O s) (parts parts' : List (Part E O e)) (was is : Pad O) → PadIs head parts head' parts' was is → ((all : List PartShape) → goes_within all (goes_of was) ≡ true → goes_within all (goes_of is) ≡ true)
      → is_closed (shape_of head parts) ≡ true → is_closed (shape_of head' parts') ≡ true
  closed_with head head' parts parts' was is changed leads closed = closed_in head head' parts parts' was is changed (leads (map part_shape parts)) closed

-- ---- that no two ends of the task are of one lane

module _ {E O : Type 0} {e : elements.Ghosts E} where
  -- a pad stands at the port of the element at a place
  pub record PadAt (parts : List (Part E O e)) (place port : ℕ) (pad : Pad O) : Type 0 where
    pub part : Part E O e
    pub at : slice_get parts place ≡ Some part
    pub pad_at : slice_get part.pads.items port ≡ Some pad

  pub pad_before : (parts : List (Part E O e)) (place port : ℕ) (old new : Part E O e) (was is : Pad O) → slice_get parts place ≡ Some old → PadIn old new port was is
      → (j k : ℕ) (pad : Pad O) → PadAt (slice_set parts place new) j k pad → PadAt parts j k pad ⊎ ((pad ≡ is) × PadAt parts j k was × (j ≡ place) × (k ≡ port))
  pad_before parts place port old new was is at s j k pad here =
      each_set parts (slice_set parts place new) place new (λ x p. (p ≡ p)) (λ x p. (y : ℕ) (q : Pad O) → slice_get p.pads.items y ≡ Some q → PadAt parts x y q ⊎ ((q ≡ is) × PadAt parts x y was × (x ≡ place) × (y ≡ port))) refl
      (λ x p p_at. refl) (λ x p ne p_at z y q q_at. inl (record { part = p; at = p_at; pad_at = q_at }))
      (each_set old.pads.items new.pads.items port is (λ y q. slice_get old.pads.items y ≡ Some q) (λ y q. PadAt parts place y q ⊎ ((q ≡ is) × PadAt parts place y was × (place ≡ place) × (y ≡ port))) s.set
      (λ y q q_at. q_at) (λ y q ne q_at z. inl (record { part = old; at = at; pad_at = q_at })) (inr (refl, record { part = old; at = at; pad_at = s.at }, refl, refl)))
      j here.part here.at k pad here.pad_at

module _ {E O L : Type 0} {e : elements.Ghosts E} (o : outlets.Ghosts O L) where
  wires_of : (frame : List (Part E O e)) (j k : ℕ) (one : PartFrame) (wire : Wire) → slice_get (map (part_frame o) frame) j ≡ Some one → slice_get one.wires k ≡ Some wire → (pad : Pad O) × PadAt frame j k pad × (wire_of o pad ≡ wire)
  wires_of frame j k one wire at wire_at =
      let z = map_got (part_frame o) frame j one at in
      let y = map_got (wire_of o) z.0.pads.items k wire (ap (λ (f : PartFrame). slice_get f.wires k) (sym z.2) ∙ wire_at) in
      (y.0, record { part = z.0; at = z.1; pad_at = y.1 }, sym y.2)

module _ {S E I O L : Type 0} {s : sources.Ghosts S} {e : elements.Ghosts E} (o : outlets.Ghosts O L) where
  -- where a wire stands in a task, a pad does
  pub wire_pad : (head : Head S I O s) (parts : List (Part E O e)) (j k : ℕ) (wire : Wire) → WireAt (frame_in o head parts) j k wire → (pad : Pad O) × PadAt parts j k pad × (wire_of o pad ≡ wire)
  wire_pad head parts j k wire w = wires_of o parts j k w.part wire w.at w.pad_at

  pub pad_wire : (head : Head S I O s) (parts : List (Part E O e)) (j k : ℕ) (pad : Pad O) → PadAt parts j k pad → WireAt (frame_in o head parts) j k (wire_of o pad)
  pad_wire head parts j k pad p = record { part = part_frame o p.part; at = map_get (part_frame o) parts j p.part p.at; pad_at = map_get (wire_of o) p.part.pads.items k pad p.pad_at }

  -- a lane into which a pad of an element leads now is one into which it led
  abbrev FromBefore : Head S I O s → List (Part E O e) → Head S I O s → List (Part E O e) → Type 0
  FromBefore head parts head' parts' = (j k place : ℕ) (wire : Wire) → WireAt (frame_in o head' parts') j k wire → LeadsInto wire place
      → (was : Wire) × WireAt (frame_in o head parts) j k was × LeadsInto was place

  from_before : (head head' : Head S I O s) (parts : List (Part E O e)) (place port : ℕ) (old new : Part E O e) (was is : Pad O) → slice_get parts place ≡ Some old → PadIn old new port was is
      → ((n : ℕ) → LeadsInto (wire_of o is) n → LeadsInto (wire_of o was) n) → FromBefore head parts head' (slice_set parts place new)
  from_before head head' parts place port old new was is at pad into j k n wire w l =
      let z = wire_pad head' (slice_set parts place new) j k wire w in
      go z (pad_before parts place port old new was is at pad j k z.0 z.1)
    where
      go : (z : (q : Pad O) × PadAt (slice_set parts place new) j k q × (wire_of o q ≡ wire)) → PadAt parts j k z.0 ⊎ ((z.0 ≡ is) × PadAt parts j k was × (j ≡ place) × (k ≡ port)) → (was : Wire) × WireAt (frame_in o head parts) j k was × LeadsInto was n
      go z (inl there) = (wire_of o z.0, pad_wire head parts j k z.0 there, subst (λ (x : Wire). LeadsInto x n) (sym z.2) l)
      go z (inr t) = (wire_of o was, pad_wire head parts j k was t.1, into n (subst (λ (q : Pad O). LeadsInto (wire_of o q) n) t.0 (subst (λ (x : Wire). LeadsInto x n) (sym z.2) l)))

module _ {E O L : Type 0} {e : elements.Ghosts E} (o : outlets.Ghosts O L) (tells : Option (List Lane)) where
  pub parts_ready_set : (parts : List (Part E O e)) (place port : ℕ) (old new : Part E O e) (was is : Pad O) → slice_get parts place ≡ Some old → PadIn old new port was is → (PadReady o tells was → PadReady o tells is)
      → PartsReady o tells parts → PartsReady o tells (slice_set parts place new)
  parts_ready_set parts place port old new was is at pad ready all =
      each_set parts (slice_set parts place new) place new (λ k p. PartReady o tells p) (λ k p. PartReady o tells p) refl all (λ k p ne got z. z)
      (each_set old.pads.items new.pads.items port is (λ k q. PadReady o tells q) (λ k q. PadReady o tells q) pad.set (all place old at) (λ k q ne got z. z) (ready (all place old at port was pad.at)))

module _ {S E I O L : Type 0} {s : sources.Ghosts S} {e : elements.Ghosts E} (i : inlets.Ghosts I L O) (o : outlets.Ghosts O L) (tells : Option (List Lane)) where
  head_apart_from : (head : Head S I O s) (parts parts' : List (Part E O e)) → FromBefore o head parts head parts' → HeadApart i (frame_in o head parts) head → HeadApart i (frame_in o head parts') head
  head_apart_from (Source head) parts parts' from apart = tt
  head_apart_from (Inlets head) parts parts' from apart = record {
    each = apart.each;
    rows = apart.rows;
    pads = λ j k n wire w l. let z = from j k n wire w l in apart.pads j k n z.0 z.1 z.2;
  }

  -- A task whose pad leads into no other lane than it did is as ready.
  pub ready_with : (head head' : Head S I O s) (parts parts' : List (Part E O e)) (was is : Pad O) → PadIs head parts head' parts' was is → (PadReady o tells was → PadReady o tells is)
      → ((n : ℕ) → LeadsInto (wire_of o is) n → LeadsInto (wire_of o was) n) → AreReady i o tells head parts → AreReady i o tells head' parts'
  ready_with head head' parts parts' was is (PadIs.of_source old new here here' pad pad' same stays) ready into r =
      let old_ready : AreReady i o tells (Source old) parts = subst (λ (h : Head S I O s). AreReady i o tells h parts) here r in
      let own : (n : ℕ) → LeadsInto (wire_of o new.pad) n → LeadsInto (wire_of o old.pad) n =
      λ n l. subst (λ (q : Pad O). LeadsInto (wire_of o q) n) (sym pad) (into n (subst (λ (q : Pad O). LeadsInto (wire_of o q) n) pad' l)) in
      subst (λ (h : Head S I O s). AreReady i o tells h parts') (sym here') (subst (λ (ps : List (Part E O e)). AreReady i o tells (Source new) ps) (sym stays) (record {
        parts_ready = old_ready.parts_ready;
        head_ready = subst (PadReady o tells) (sym pad') (ready (subst (PadReady o tells) pad old_ready.head_ready));
        wires_apart = record {
          parts = λ j k j' k' n one other w w' l l'. old_ready.wires_apart.parts j k j' k' n one other (again j k one w) (again j' k' other w') l l';
          source = λ j k n one other w is_head l l'. old_ready.wires_apart.source j k n one (wire_of o old.pad) (again j k one w) refl l (own n (subst (λ (x : Wire). LeadsInto x n) (sym (some_same is_head)) l'));
        };
        head_apart = tt;
      }))
    where
      before : Head S I O s
      before = Source old

      now : Head S I O s
      now = Source new

      again : (j k : ℕ) (wire : Wire) → WireAt (frame_in o now parts) j k wire → WireAt (frame_in o before parts) j k wire
      again j k wire w = record { part = w.part; at = w.at; pad_at = w.pad_at }
  ready_with head head' parts parts' was is (PadIs.of_part place port old new at set pad same) ready into r =
      let from : FromBefore o head parts head (slice_set parts place new) = from_before o head head parts place port old new was is at pad into in
      subst (λ (h : Head S I O s). AreReady i o tells h parts') (sym same) (subst (λ (ps : List (Part E O e)). AreReady i o tells head ps) (sym set) (record {
        parts_ready = parts_ready_set o tells parts place port old new was is at pad ready r.parts_ready;
        head_ready = r.head_ready;
        wires_apart = record {
          parts = λ j k j' k' n one other w w' l l'. let a = from j k n one w l in let b = from j' k' n other w' l' in r.wires_apart.parts j k j' k' n a.0 b.0 a.1 b.1 a.2 b.2;
          source = λ j k n one other w is_head l l'. let a = from j k n one w l in r.wires_apart.source j k n a.0 other a.1 is_head a.2 l';
        };
        head_apart = head_apart_from head parts (slice_set parts place new) from r.head_apart;
      }))
