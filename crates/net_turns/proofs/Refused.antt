-- A row of which a take was refused keeps its lanes and what it stands for.
use Rattle.std.proofs.Common.{◌≡◌, ◌≢◌, ◌++◌, ℕ, List, [], ◌∷◌, Option, refl, sym, ap, ◌∙◌, subst, ⊎_elim, inl, inr}
use Rattle.flow_model.specs.Item.{Item}
use Rattle.lane_core.specs.Lane.{Lane}
use Rattle.lane_core.specs.declared.ends.Inlet as inlets
use Rattle.flow_model.specs.Moment.{Moment}
use Rattle.inlet_row.specs.declared.feeding.Feeding.{Feeding}
use Rattle.inlet_row.specs.declared.feeding.Feeding.TheVariants.{Given, Lane as OfLane}
use Rattle.inlet_row.specs.Taken.{Empty}
use Rattle.inlet_row.specs.declared.row.InletRow.{InletRow}
use Rattle.inlet_row.specs.Row.{ForLanes, feeds_of}
use Rattle.inlet_row.specs.Take.{HasPlace, Moves}
use Rattle.net_task.specs.Ready.{EndsWith}
use Rattle.net_turns.specs.Net.{RowStands}
use Rattle.gst_value.proofs.Places.{nil_behind}

-- the last of a list
pub last_same : {A : Type 0} (xs ys : List A) (x y : A) → xs ++ x ∷ [] ≡ ys ++ y ∷ [] → x ≡ y
last_same [] [] x y e = cc
last_same [] (b ∷ []) x y e = absurd (nil_cons e)
  where
    nil_cons : {A : Type 0} {x y b : A} → x ∷ [] ≡ b ∷ y ∷ [] → ⊥
    nil_cons e = cc
last_same [] (b ∷ c ∷ ys) x y e = absurd (nil_more e)
  where
    nil_more : {A : Type 0} {x b c : A} {zs : List A} → x ∷ [] ≡ b ∷ c ∷ zs → ⊥
    nil_more e = cc
last_same (a ∷ []) [] x y e = absurd (nil_cons (sym e))
  where
    nil_cons : {A : Type 0} {x y b : A} → x ∷ [] ≡ b ∷ y ∷ [] → ⊥
    nil_cons e = cc
last_same (a ∷ c ∷ xs) [] x y e = absurd (nil_more (sym e))
  where
    nil_more : {A : Type 0} {x b c : A} {zs : List A} → x ∷ [] ≡ b ∷ c ∷ zs → ⊥
    nil_more e = cc
last_same (a ∷ xs) (b ∷ ys) x y e = last_same xs ys x y (tail_same e)
  where
    tail_same : {A : Type 0} {a b : A} {xs ys : List A} → a ∷ xs ≡ b ∷ ys → xs ≡ ys
    tail_same e = cc

lane_same : {I : Type 0} {n k : ℕ} {a b : I} → OfLane n a ≡ OfLane k b → a ≡ b
lane_same e = cc

-- a fact of each lane by another
pub map_lanes : {I : Type 0} (P R : I → Type 0) (feeds : List (Feeding I)) → ((inlet : I) → P inlet → R inlet) → ForLanes P feeds → ForLanes R feeds
map_lanes P R [] f h = tt
map_lanes P R (Given x ∷ feeds) f h = map_lanes P R feeds f h
map_lanes P R (OfLane number inlet ∷ feeds) f h = (f inlet h.0, map_lanes P R feeds f h.1)

module _ {I L O : Type 0} (i : inlets.Ghosts I L O) where
  -- a fact of the places of all lanes is one of each
  pub at_place : (Q : ℕ → Type 0) (feeds : List (Feeding I)) (p : ℕ) → ForLanes (λ inlet. Q (i.place inlet)) feeds → HasPlace i p feeds → Q p
  at_place Q [] p h a = absurd a
  at_place Q (Given x ∷ feeds) p h a = at_place Q feeds p h a
  at_place Q (OfLane number inlet ∷ feeds) p h a = ⊎_elim (λ here. subst Q (sym here) h.0) (λ more. at_place Q feeds p h.1 more) a

  -- each place is one of a larger list
  pub within_more : (all feeds : List (Feeding I)) → ((p : ℕ) → HasPlace i p feeds → HasPlace i p all) → ForLanes (λ inlet. HasPlace i (i.place inlet) all) feeds
  within_more all [] f = tt
  within_more all (Given x ∷ feeds) f = within_more all feeds f
  within_more all (OfLane number inlet ∷ feeds) f = (f (i.place inlet) (inl refl), within_more all feeds (λ p h. f p (inr h)))

  -- the last has a place
  pub has_last : (front : List (Feeding I)) (p number : ℕ) (inlet : I) → p ≡ i.place inlet → HasPlace i p (front ++ OfLane number inlet ∷ [])
  has_last [] p number inlet e = inl e
  has_last (Given x ∷ front) p number inlet e = has_last front p number inlet e
  has_last (OfLane n other ∷ front) p number inlet e = inr (has_last front p number inlet e)

  -- A row ends with the lane with which it ended, has no other lanes, and stands for what it stood for.
  pub record RowKeeps (t : List Lane) (was is : InletRow I) : Type 0 where
    pub behind : (place : ℕ) → EndsWith i was place → EndsWith i is place
    pub within : ForLanes (λ inlet. HasPlace i (i.place inlet) (feeds_of was)) (feeds_of is)
    pub stands : (sents : ℕ → List Item) (m : Moment) (n port : ℕ) → RowStands i t sents m n port was → RowStands i t sents m n port is

  pub keeps_same : (t : List Lane) (row : InletRow I) → RowKeeps t row row
  keeps_same t row = record {
    behind = λ place h. h;
    within = within_more (feeds_of row) (feeds_of row) (λ p h. h);
    stands = λ sents m n port h. h;
  }

  pub moves_behind : (tells : Option (List Lane)) (was is : InletRow I) (number place : ℕ) → Moves i tells tells was is (Empty number) → EndsWith i was place → EndsWith i is place
  moves_behind tells was is number place h e =
      ⊎_elim
      (λ a. record {
        front = [];
        number = number;
        inlet = a.is;
        whole = a.after;
        place_is = a.took.same.1 ∙ ap (λ x. i.place x) (lane_same (last_same a.gone e.front (OfLane number a.was) (OfLane e.number e.inlet) (sym a.before ∙ e.whole))) ∙ e.place_is;
      })
      (λ b. absurd (nil_behind e.front (OfLane e.number e.inlet) (sym b.0 ∙ e.whole)))
      h

  pub moves_within : (tells : Option (List Lane)) (was is : InletRow I) (number : ℕ) → Moves i tells tells was is (Empty number)
      → ForLanes (λ inlet. HasPlace i (i.place inlet) (feeds_of was)) (feeds_of is)
  moves_within tells was is number h =
      ⊎_elim
      (λ a.
      let has = subst (λ (fs : List (Feeding I)). HasPlace i (i.place a.is) fs) (sym a.before) (has_last a.gone (i.place a.is) number a.was a.took.same.1) in
      subst (λ (fs : List (Feeding I)). ForLanes (λ inlet. HasPlace i (i.place inlet) (feeds_of was)) fs) (sym a.after) (has, tt))
      (λ b. subst (λ (fs : List (Feeding I)). ForLanes (λ inlet. HasPlace i (i.place inlet) (feeds_of was)) fs) (sym b.1) tt)
      h

  -- rows of which no two lanes have one place stay so
  pub kept_apart : (t : List Lane) (one one' other other' : InletRow I) → RowKeeps t one one' → RowKeeps t other other'
      → ForLanes (λ inlet. ForLanes (λ second. i.place second ≢ i.place inlet) (feeds_of other)) (feeds_of one)
      → ForLanes (λ inlet. ForLanes (λ second. i.place second ≢ i.place inlet) (feeds_of other')) (feeds_of one')
  kept_apart t one one' other other' a b h =
      map_lanes (λ inlet. HasPlace i (i.place inlet) (feeds_of one)) (λ inlet. ForLanes (λ second. i.place second ≢ i.place inlet) (feeds_of other')) (feeds_of one')
      (λ inlet has.
      let old = at_place (λ p. ForLanes (λ second. i.place second ≢ p) (feeds_of other)) (feeds_of one) (i.place inlet) h has in
      map_lanes (λ second. HasPlace i (i.place second) (feeds_of other)) (λ second. i.place second ≢ i.place inlet) (feeds_of other')
      (λ second here. at_place (λ q. q ≢ i.place inlet) (feeds_of other) (i.place second) old here) b.within)
      a.within
