-- Elements at which nothing waits.
use Rattle.std.proofs.Common.{◌≡◌, ◌<◌, ◌≤◌, ℕ, zero, suc, Bool, true, List, [], ◌∷◌, length, Option, None, Some, refl, sym, ap, ◌∙◌, arith}
use Rattle.std.specs.Prelude.{slice_get, slice_set}
use Rattle.std.proofs.lemmas.Option.{slice_get_within}
use Rattle.flow_model.specs.Item.{Item}
use Rattle.lane_core.specs.Lane.{Lane}
use Rattle.lane_core.specs.declared.ends.Outlet as outlets
use Rattle.flow_model.specs.declared.element.TaskElement as elements
use Rattle.task_pads.specs.declared.pad.Pad.{Pad}
use Rattle.task_pads.specs.declared.crossing.Crossing.{Crossing}
use Rattle.task_pads.specs.declared.crossing.Crossing.TheVariants.{Idle, To, Gone, Full, AtProbe, NotLinked, BehindEos, AtLimit, OutOfMemory}
use Rattle.task_pads.specs.Crossing.{IsCrossing}
use Rattle.task_pads.specs.Pads.{Seen, waiting_of}
use Rattle.task_pads.specs.Put.{IsTaken}
use Rattle.task_parts.specs.declared.part.Part.{Part}
use Rattle.task_parts.specs.Gathered.{is_nothing, pads_idle, pads_idle_below}
use Rattle.task_parts.specs.Idle.{idle_before, part_idle}
use Rattle.gst_value.proofs.Basics.{some_same, and_left, and_right, and_both as both}

pub nothing_is : {A : Type 0} (xs : List A) → is_nothing xs ≡ true → xs ≡ []
nothing_is [] e = refl
nothing_is (x ∷ xs) e = absurd cc

nothing_of : {A : Type 0} (xs : List A) → xs ≡ [] → is_nothing xs ≡ true
nothing_of [] e = refl
nothing_of (x ∷ xs) e = absurd cc

pub pads_none : {O : Type 0} (pads : List (Pad O)) (k : ℕ) (pad : Pad O) → pads_idle pads ≡ true → slice_get pads k ≡ Some pad → waiting_of pad ≡ []
pads_none [] k pad idle at = absurd cc
pads_none {O = O} (p ∷ pads) zero pad idle at = ap (λ (z : Pad O). waiting_of z) (sym (some_same at)) ∙ nothing_is (waiting_of p) (and_left (is_nothing (waiting_of p)) (pads_idle pads) idle)
pads_none (p ∷ pads) (suc k) pad idle at = pads_none pads k pad (and_right (is_nothing (waiting_of p)) (pads_idle pads) idle) at

none_pads : {O : Type 0} (pads : List (Pad O)) → ((k : ℕ) (pad : Pad O) → slice_get pads k ≡ Some pad → waiting_of pad ≡ []) → pads_idle pads ≡ true
none_pads [] f = refl
none_pads (p ∷ pads) f = both (is_nothing (waiting_of p)) (pads_idle pads) (nothing_of (waiting_of p) (f 0 p refl)) (none_pads pads (λ k pad at. f (suc k) pad at))

-- nothing waits at the first pads
pub below_none : {O : Type 0} (n : ℕ) (pads : List (Pad O)) → pads_idle_below n pads ≡ true → (k : ℕ) (pad : Pad O) → k < n → slice_get pads k ≡ Some pad → waiting_of pad ≡ []
below_none zero pads idle k pad w at = absurd (omega (arith, w))
below_none (suc n) [] idle k pad w at = absurd cc
below_none {O = O} (suc n) (p ∷ pads) idle zero pad w at = ap (λ (z : Pad O). waiting_of z) (sym (some_same at)) ∙ nothing_is (waiting_of p) (and_left (is_nothing (waiting_of p)) (pads_idle_below n pads) idle)
below_none (suc n) (p ∷ pads) idle (suc k) pad w at = below_none n pads (and_right (is_nothing (waiting_of p)) (pads_idle_below n pads) idle) k pad (omega (arith, w)) at

pub none_below : {O : Type 0} (n : ℕ) (pads : List (Pad O)) → ((k : ℕ) (pad : Pad O) → k < n → slice_get pads k ≡ Some pad → waiting_of pad ≡ []) → pads_idle_below n pads ≡ true
none_below zero pads f = refl
none_below (suc n) [] f = refl
none_below (suc n) (p ∷ pads) f = both (is_nothing (waiting_of p)) (pads_idle_below n pads) (nothing_of (waiting_of p) (f 0 p (omega arith) refl)) (none_below n pads (λ k pad w at. f (suc k) pad (omega (arith, w)) at))

-- where one pad is another now
pub below_set : {O : Type 0} (n port : ℕ) (pads : List (Pad O)) (was is : Pad O) → slice_get pads port ≡ Some was → (waiting_of was ≡ [] → waiting_of is ≡ []) → pads_idle_below n pads ≡ true → pads_idle_below n (slice_set pads port is) ≡ true
below_set zero port pads was is at f idle = refl
below_set (suc n) port [] was is at f idle = absurd cc
below_set {O = O} (suc n) zero (p ∷ pads) was is at f idle =
    both (is_nothing (waiting_of is)) (pads_idle_below n pads)
    (nothing_of (waiting_of is) (f (ap (λ (z : Pad O). waiting_of z) (sym (some_same at)) ∙ nothing_is (waiting_of p) (and_left (is_nothing (waiting_of p)) (pads_idle_below n pads) idle)))) (and_right (is_nothing (waiting_of p)) (pads_idle_below n pads) idle)
below_set (suc n) (suc port) (p ∷ pads) was is at f idle =
    both (is_nothing (waiting_of p)) (pads_idle_below n (slice_set pads port is)) (and_left (is_nothing (waiting_of p)) (pads_idle_below n pads) idle) (below_set n port pads was is at f (and_right (is_nothing (waiting_of p)) (pads_idle_below n pads) idle))

-- no crossing brings an item to a pad
pub crossed_idle : {O L : Type 0} (o : outlets.Ghosts O L) (old new : Pad O) (t t' : Option (List Lane)) (sibling : Bool) (k : Crossing) → IsCrossing o old new t t' sibling k → waiting_of old ≡ [] → waiting_of new ≡ []
crossed_idle {O = O} o old new t t' sibling Idle c none = ap (λ (s : Seen O). s.waiting) c.1 ∙ none
crossed_idle o old new t t' sibling (To number hint pad) c none = absurd (let k : c.0.item ∷ c.0.rest ≡ [] = sym c.0.waited ∙ none in cc)
crossed_idle o old new t t' sibling Gone c none = absurd (let k : c.item ∷ waiting_of new ≡ [] = sym c.waited ∙ none in cc)
crossed_idle o old new t t' sibling (Full lane) c none = absurd (let k : c.item ∷ c.rest ≡ [] = sym c.waited ∙ none in cc)
crossed_idle o old new t t' sibling (AtProbe command) c none = absurd (let k : c.item ∷ c.rest ≡ [] = sym c.waited ∙ none in cc)
crossed_idle o old new t t' sibling NotLinked c none = absurd (let k : c.0.item ∷ c.0.rest ≡ [] = sym c.0.waited ∙ none in cc)
crossed_idle o old new t t' sibling BehindEos c none = absurd (let k : c.item ∷ c.rest ≡ [] = sym c.waited ∙ none in cc)
crossed_idle {O = O} o old new t t' sibling AtLimit c none = ap (λ (s : Seen O). s.waiting) c.2 ∙ none
crossed_idle {O = O} o old new t t' sibling OutOfMemory c none = ap (λ (s : Seen O). s.waiting) c.1 ∙ none

pub taken_idle : {O : Type 0} (old new : Pad O) (r : Option Item) → IsTaken old new r → waiting_of old ≡ [] → waiting_of new ≡ []
taken_idle old new None t none = t.1
taken_idle old new (Some x) t none = absurd (let k : x ∷ waiting_of new ≡ [] = sym t.0 ∙ none in cc)

module _ {E O : Type 0} {e : elements.Ghosts E} where
  pub idle_part : (part : Part E O e) → part.out ≡ [] → ((k : ℕ) (pad : Pad O) → k < length part.pads.items → slice_get part.pads.items k ≡ Some pad → waiting_of pad ≡ []) → part_idle part ≡ true
  idle_part part out f = both (is_nothing part.out) (pads_idle part.pads.items) (nothing_of part.out out) (none_pads part.pads.items (λ k pad at. f k pad (slice_get_within part.pads.items k pad at) at))

  pub idle_out : (part : Part E O e) → part_idle part ≡ true → part.out ≡ []
  idle_out part idle = nothing_is part.out (and_left (is_nothing part.out) (pads_idle part.pads.items) idle)

  pub idle_pad : (part : Part E O e) (k : ℕ) (pad : Pad O) → part_idle part ≡ true → slice_get part.pads.items k ≡ Some pad → waiting_of pad ≡ []
  idle_pad part k pad idle at = pads_none part.pads.items k pad (and_right (is_nothing part.out) (pads_idle part.pads.items) idle) at

  -- one more, and fewer
  pub idle_more : (n : ℕ) (parts : List (Part E O e)) (part : Part E O e) → slice_get parts n ≡ Some part → part_idle part ≡ true → idle_before n parts ≡ true → idle_before (suc n) parts ≡ true
  idle_more n [] part at idle before = absurd cc
  idle_more zero (p ∷ parts) part at idle before = both (part_idle p) true (ap (λ (z : Part E O e). part_idle z) (some_same at) ∙ idle) refl
  idle_more (suc n) (p ∷ parts) part at idle before = both (part_idle p) (idle_before (suc n) parts) (and_left (part_idle p) (idle_before n parts) before) (idle_more n parts part at idle (and_right (part_idle p) (idle_before n parts) before))

  pub idle_less : (n k : ℕ) (parts : List (Part E O e)) → n ≤ k → idle_before k parts ≡ true → idle_before n parts ≡ true
  idle_less zero k parts w before = refl
  idle_less (suc n) zero parts w before = absurd (omega (arith, w))
  idle_less (suc n) (suc k) [] w before = refl
  idle_less (suc n) (suc k) (p ∷ parts) w before =
      both (part_idle p) (idle_before n parts) (and_left (part_idle p) (idle_before k parts) before) (idle_less n k parts (omega (arith, w)) (and_right (part_idle p) (idle_before k parts) before))

  -- one of them
  pub idle_at : (n k : ℕ) (parts : List (Part E O e)) (part : Part E O e) → k < n → slice_get parts k ≡ Some part → idle_before n parts ≡ true → part_idle part ≡ true
  idle_at zero k parts part w at before = absurd (omega (arith, w))
  idle_at (suc n) k [] part w at before = absurd cc
  idle_at (suc n) zero (p ∷ parts) part w at before = ap (λ (z : Part E O e). part_idle z) (sym (some_same at)) ∙ and_left (part_idle p) (idle_before n parts) before
  idle_at (suc n) (suc k) (p ∷ parts) part w at before = idle_at n k parts part (omega (arith, w)) at (and_right (part_idle p) (idle_before n parts) before)

  -- all of them
  pub idle_all : (n : ℕ) (parts : List (Part E O e)) → ((k : ℕ) (part : Part E O e) → k < n → slice_get parts k ≡ Some part → part_idle part ≡ true) → idle_before n parts ≡ true
  idle_all zero parts f = refl
  idle_all (suc n) [] f = refl
  idle_all (suc n) (p ∷ parts) f = both (part_idle p) (idle_before n parts) (f 0 p (omega arith) refl) (idle_all n parts (λ k part w at. f (suc k) part (omega (arith, w)) at))

  -- where those before the place are as they were
  pub idle_front : (n : ℕ) (parts parts' : List (Part E O e)) → ((k : ℕ) → k < n → slice_get parts' k ≡ slice_get parts k) → idle_before n parts ≡ true → idle_before n parts' ≡ true
  idle_front zero parts parts' same before = refl
  idle_front (suc n) parts [] same before = refl
  idle_front (suc n) [] (q ∷ parts') same before = absurd (let z = same 0 (omega arith) in cc)
  idle_front (suc n) (p ∷ parts) (q ∷ parts') same before =
      both (part_idle q) (idle_before n parts') (ap (λ (z : Part E O e). part_idle z) (some_same (same 0 (omega arith))) ∙ and_left (part_idle p) (idle_before n parts) before)
      (idle_front n parts parts' (λ k w. same (suc k) (omega (arith, w))) (and_right (part_idle p) (idle_before n parts) before))
