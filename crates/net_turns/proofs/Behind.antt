-- No item waits behind an EOS, and what the last lane of a row stands between and holds.
use Rattle.std.proofs.Common.{◌≡◌, ℕ, zero, suc, Bool, true, false, if◌then◌else◌, List, [], ◌∷◌, ◌++◌, Option, append_assoc, append-nil, refl, sym, ap, ◌∙◌, subst}
use Rattle.std.specs.Prelude.{slice_get}
use Rattle.std.proofs.lemmas.Bool.{true≢false, false≢true}
use Rattle.flow_model.specs.Item.{Item, is_flush_stop, is_eos}
use Rattle.flow_model.specs.Call.{Call}
use Rattle.gst_item.specs.Sticky.{first_found, has_flush_stop, latest}
use Rattle.lane_core.specs.Lane.{Lane}
use Rattle.lane_core.specs.declared.ends.Inlet as inlets
use Rattle.pad_core.specs.Crossing.{has_ended}
use Rattle.flow_model.specs.Moment.{Moment, CellStands, owed_at}
use Rattle.flow_model.specs.Pad.{Holds}
use Rattle.inlet_row.specs.declared.feeding.Feeding.{Feeding}
use Rattle.inlet_row.specs.declared.feeding.Feeding.TheVariants.{Given, Lane as OfLane}
use Rattle.inlet_row.specs.Row.{ForLanes, GaveInAll, GaveOf, held, items_of}
use Rattle.net_turns.specs.Net.{IsPlain, ListAt}
use Rattle.flow_model.proofs.Counted.{since_all as since_calm}
use Rattle.gst_item.specs.Item.{has_item}

-- what was found is found in more
found_more : (l l' c : List Item) → (has_item l ≡ true → has_item l' ≡ true) → has_item (first_found l c) ≡ true → has_item (first_found l' c) ≡ true
found_more [] [] c f e = e
found_more (y ∷ ys) [] c f e = absurd (false≢true (f refl))
found_more l (z ∷ zs) c f e = refl

latest_more : (passes : Item → Bool) (h ys : List Item) → has_item (latest passes h) ≡ true → has_item (latest passes (h ++ ys)) ≡ true
latest_more passes [] ys e = absurd (false≢true e)
latest_more passes (x ∷ xs) ys e = found_more (latest passes xs) (latest passes (xs ++ ys)) (if passes x then x ∷ [] else []) (latest_more passes xs ys) e

calm_by : (b f f' : Bool) → (f' ≡ false → f ≡ false) → (if b then true else f') ≡ false → (if b then true else f) ≡ false
calm_by true f f' more e = e
calm_by false f f' more e = more e

calm_front : (h ys : List Item) → has_flush_stop (h ++ ys) ≡ false → has_flush_stop h ≡ false
calm_front [] ys e = refl
calm_front (x ∷ xs) ys e = calm_by (is_flush_stop x) (has_flush_stop xs) (has_flush_stop (xs ++ ys)) (calm_front xs ys) e

-- a stream of one section that has ended stays so
ended_more : (h ys : List Item) → has_flush_stop (h ++ ys) ≡ false → has_ended h ≡ true → has_ended (h ++ ys) ≡ true
ended_more h ys calm e =
    let here : has_item (latest is_eos h) ≡ true = subst (λ (l : List Item). has_item (latest is_eos l) ≡ true) (since_calm h (calm_front h ys calm)) e in
    subst (λ (l : List Item). has_item (latest is_eos l) ≡ true) (sym (since_calm (h ++ ys) calm)) (latest_more is_eos h ys here)

-- the last of a list that is not empty
split_last : (x : Item) (xs : List Item) → (ys : List Item) × (last : Item) × (x ∷ xs ≡ ys ++ last ∷ [])
split_last x [] = ([], x, refl)
split_last x (y ∷ xs) = let r = split_last y xs in (x ∷ r.0, r.1, ap (λ (l : List Item). x ∷ l) r.2)

-- a pad is owed no item behind an EOS
pub none_behind : (m : Moment) (p : ℕ) (front : List Item) (x : Item) (rest : List Item) → IsPlain m.plan → owed_at m p 0 ≡ front ++ x ∷ rest → has_ended front ≡ true → ⊥
none_behind m p front x rest plain owed over =
    let r = split_last x rest in
    let whole : owed_at m p 0 ≡ (front ++ r.0) ++ r.1 ∷ [] = owed ∙ ap (λ (l : List Item). front ++ l) r.2 ∙ sym (append_assoc front r.0 (r.1 ∷ [])) in
    let calm : has_flush_stop ((front ++ r.0) ++ r.1 ∷ []) ≡ false = subst (λ (l : List Item). has_flush_stop l ≡ false) whole (plain.calm (m.plan.owner p) (m.plan.port p) (m.took (m.plan.owner p))) in
    let begun = plain.closed (m.plan.owner p) (m.plan.port p) (m.took (m.plan.owner p)) (front ++ r.0) r.1 whole in
    true≢false (sym (ended_more front r.0 (calm_front (front ++ r.0) (r.1 ∷ []) calm) over) ∙ begun)

-- what it is owed has crossed it or waits there
pub owed_all : (m : Moment) (p : ℕ) → IsPlain m.plan → CellStands m (m.plan.owner p) → owed_at m p 0 ≡ m.history p ++ m.waits p
owed_all m p plain cell = subst (λ (cuts : List (ℕ × ℕ)). Holds 0 0 cuts (owed_at m p) (m.history p) (m.waits p)) (plain.uncut p) (cell.pads p refl)

-- no item waits behind an EOS
pub none_behind_eos : (m : Moment) (p : ℕ) (x : Item) (rest : List Item) → IsPlain m.plan → CellStands m (m.plan.owner p) → m.waits p ≡ x ∷ rest → has_ended (m.history p) ≡ true → ⊥
none_behind_eos m p x rest plain cell waits over = none_behind m p (m.history p) x rest plain (owed_all m p plain cell ∙ ap (λ (l : List Item). m.history p ++ l) waits) over

pub nil_right : {A : Type 0} (xs ys : List A) → xs ++ ys ≡ [] → ys ≡ []
nil_right [] ys e = e
nil_right (x ∷ xs) ys e = absurd (cons_nil e)
  where
    cons_nil : {A : Type 0} {x : A} {xs : List A} → x ∷ xs ≡ [] → ⊥
    cons_nil e = cc

-- one list stands at a sink pad
pub list_same : (port : ℕ) (css : List (List Call)) (a b : List Call) → ListAt port css a → ListAt port css b → a ≡ b
list_same port [] a b x y = absurd x
list_same zero (cs ∷ css) a b x y = sym x ∙ y
list_same (suc port) (cs ∷ css) a b x y = list_same port css a b x y

module _ {I L O : Type 0} (i : inlets.Ghosts I L O) where
  -- where a row holds nothing the lane at its end is empty
  pub held_last : (t : List Lane) (front : List (Feeding I)) (number : ℕ) (inlet : I) → held i t (front ++ OfLane number inlet ∷ []) ≡ [] → items_of (slice_get t (i.place inlet)) ≡ []
  held_last t [] number inlet e = sym (append-nil (items_of (slice_get t (i.place inlet)))) ∙ e
  held_last t (Given x ∷ front) number inlet e = absurd (cons_nil e)
    where
      cons_nil : {x : Item} {xs : List Item} → x ∷ xs ≡ [] → ⊥
      cons_nil e = cc
  held_last t (OfLane n other ∷ front) number inlet e = held_last t front number inlet (nil_right (items_of (slice_get t (i.place other))) (held i t (front ++ OfLane number inlet ∷ [])) e)

  last_lane : (P : I → Type 0) (front : List (Feeding I)) (number : ℕ) (inlet : I) → ForLanes P (front ++ OfLane number inlet ∷ []) → P inlet
  last_lane P [] number inlet h = h.0
  last_lane P (Given x ∷ front) number inlet h = last_lane P front number inlet h
  last_lane P (OfLane n other ∷ front) number inlet h = last_lane P front number inlet h.1

  -- that lane stands between what was sent into it and what it gave
  pub gave_last : (tells : Option (List Lane)) (sents : ℕ → List Item) (front : List (Feeding I)) (number : ℕ) (inlet : I) (got : List Item)
      → GaveInAll (GaveOf i tells sents) (front ++ OfLane number inlet ∷ []) got → (mine : List Item) × GaveOf i tells sents inlet mine
  gave_last tells sents [] number inlet got h = (h.lane, h.front)
  gave_last tells sents (x ∷ front) number inlet got h = ([], last_lane (λ l. GaveOf i tells sents l []) front number inlet h.behind)
