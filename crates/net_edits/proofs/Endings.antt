-- What crossed a pad of a graph without seeks has no FLUSH_STOP, and EOS only as its last.
use Rattle.std.proofs.Common.{◌≡◌, ℕ, Bool, true, false, if◌then◌else◌, List, [], ◌∷◌, ◌++◌, append_assoc, refl, sym, ap, ◌∙◌, subst}
use Rattle.std.proofs.lemmas.Bool.{true≢false, false≢true}
use Rattle.flow_model.specs.Item.{Item, is_flush_stop, is_eos}
use Rattle.flow_model.proofs.Counted.{since_all as since_calm}
use Rattle.gst_item.specs.Item.{has_item}
use Rattle.gst_item.specs.Sticky.{first_found, has_flush_stop, latest}
use Rattle.pad_core.specs.Crossing.{has_ended}
use Rattle.flow_model.specs.Moment.{CellStands, Moment, owed_at}
use Rattle.flow_model.specs.Pad.{Holds}
use Rattle.net_turns.specs.Net.{IsPlain}

-- what was found is found in more
found_more : (l l' c : List Item) → (has_item l ≡ true → has_item l' ≡ true) → has_item (first_found l c) ≡ true → has_item (first_found l' c) ≡ true
found_more [] [] c f e = e
found_more (y ∷ ys) [] c f e = absurd (false≢true (f refl))
found_more l (z ∷ zs) c f e = refl

latest_more : (passes : Item → Bool) (h ys : List Item) → has_item (latest passes h) ≡ true → has_item (latest passes (h ++ ys)) ≡ true
latest_more passes [] ys e = absurd (false≢true e)
latest_more passes (x ∷ xs) ys e = found_more (latest passes xs) (latest passes (xs ++ ys)) (if passes x then x ∷ [] else []) (latest_more passes xs ys) e

calm_by : (b f f' : Bool) → (f' ≡ false → f ≡ false) → (if b then true else f') ≡ false → (if b then true else f) ≡ false
calm_by true f f' more e = e
calm_by false f f' more e = more e

calm_front : (h ys : List Item) → has_flush_stop (h ++ ys) ≡ false → has_flush_stop h ≡ false
calm_front [] ys e = refl
calm_front (x ∷ xs) ys e = calm_by (is_flush_stop x) (has_flush_stop xs) (has_flush_stop (xs ++ ys)) (calm_front xs ys) e

-- a stream of one section that has ended stays so
ended_more : (h ys : List Item) → has_flush_stop (h ++ ys) ≡ false → has_ended h ≡ true → has_ended (h ++ ys) ≡ true
ended_more h ys calm e =
    let here : has_item (latest is_eos h) ≡ true = subst (λ (l : List Item). has_item (latest is_eos l) ≡ true) (since_calm h (calm_front h ys calm)) e in
    subst (λ (l : List Item). has_item (latest is_eos l) ≡ true) (sym (since_calm (h ++ ys) calm)) (latest_more is_eos h ys here)

-- the last of a list that is not empty
split_last : (x : Item) (xs : List Item) → (ys : List Item) × (last : Item) × (x ∷ xs ≡ ys ++ last ∷ [])
split_last x [] = ([], x, refl)
split_last x (y ∷ xs) = let r = split_last y xs in (x ∷ r.0, r.1, ap (λ (l : List Item). x ∷ l) r.2)

-- a list that begins one whose items all stand before its EOS does so too
pub not_ended : (front rest : List Item) (x : Item) → has_flush_stop (front ++ x ∷ rest) ≡ false → ((ys : List Item) (last : Item) → front ++ x ∷ rest ≡ ys ++ last ∷ [] → has_ended ys ≡ false) → has_ended front ≡ false
not_ended front rest x calm closed =
    let r = split_last x rest in
    let whole : front ++ x ∷ rest ≡ (front ++ r.0) ++ r.1 ∷ [] = ap (λ (l : List Item). front ++ l) r.2 ∙ sym (append_assoc front r.0 (r.1 ∷ [])) in
    let still : has_flush_stop (front ++ r.0) ≡ false = calm_front (front ++ r.0) (r.1 ∷ []) (subst (λ (l : List Item). has_flush_stop l ≡ false) whole calm) in
    by (has_ended front) refl (has_ended (front ++ r.0)) (ended_more front r.0 still) (closed (front ++ r.0) r.1 whole)
  where
    by : (b : Bool) → has_ended front ≡ b → (more : Bool) → (has_ended front ≡ true → more ≡ true) → more ≡ false → has_ended front ≡ false
    by true is more over none = absurd (true≢false (sym (over is) ∙ none))
    by false is more over none = is

-- no item of a list without FLUSH_STOP is one
calm_item : (front : List Item) (x : Item) (rest : List Item) → has_flush_stop (front ++ x ∷ rest) ≡ false → is_flush_stop x ≡ false
calm_item [] x rest h = one (is_flush_stop x) h
  where
    one : (b : Bool) → (if b then true else has_flush_stop rest) ≡ false → b ≡ false
    one true h = absurd (true≢false h)
    one false h = refl
calm_item (y ∷ front) x rest h = calm_item front x rest (more (is_flush_stop y) h)
  where
    more : (b : Bool) → (if b then true else has_flush_stop (front ++ x ∷ rest)) ≡ false → has_flush_stop (front ++ x ∷ rest) ≡ false
    more true h = absurd (true≢false h)
    more false h = h

module _ (m : Moment) (p : ℕ) (plain : IsPlain m.plan) (cell : CellStands m (m.plan.owner p)) where
  owed_all : owed_at m p 0 ≡ m.history p ++ m.waits p
  owed_all = subst (λ (cuts : List (ℕ × ℕ)). Holds 0 0 cuts (owed_at m p) (m.history p) (m.waits p)) (plain.uncut p) (cell.pads p refl)

  pub crossed_calm : has_flush_stop (m.history p) ≡ false
  crossed_calm = calm_front (m.history p) (m.waits p) (subst (λ (l : List Item). has_flush_stop l ≡ false) owed_all (plain.calm (m.plan.owner p) (m.plan.port p) (m.took (m.plan.owner p))))

  pub crossed_closed : (front : List Item) (last : Item) → m.history p ≡ front ++ last ∷ [] → has_ended front ≡ false
  crossed_closed front last is =
      let whole : owed_at m p 0 ≡ front ++ last ∷ m.waits p = owed_all ∙ (ap (λ (l : List Item). l ++ m.waits p) is ∙ append_assoc front (last ∷ []) (m.waits p)) in
      not_ended front (m.waits p) last (subst (λ (l : List Item). has_flush_stop l ≡ false) whole (plain.calm (m.plan.owner p) (m.plan.port p) (m.took (m.plan.owner p))))
      (λ ys x e. plain.closed (m.plan.owner p) (m.plan.port p) (m.took (m.plan.owner p)) ys x (whole ∙ e))

  pub whole_calm : (front : List Item) (x : Item) (rest : List Item) → m.history p ++ m.waits p ≡ front ++ x ∷ rest → is_flush_stop x ≡ false
  whole_calm front x rest is =
      calm_item front x rest (subst (λ (l : List Item). has_flush_stop l ≡ false) (owed_all ∙ is) (plain.calm (m.plan.owner p) (m.plan.port p) (m.took (m.plan.owner p))))
