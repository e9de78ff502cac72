-- Where a word is cut in two.
use Rattle.std.proofs.Common.{◌≡◌, ℕ, suc, ◌+◌, ◌<◌, Bool, true, false, cond, eqb, not, List, [], ◌∷◌, length, drop, take, Bor, Option, Some, None, refl, sym, ap, ◌∙◌, arith}
use Rattle.std.specs.Prelude.{MatchOption}
use Rattle.std.specs.List.{position_or_len, before_first, after_first}
use Rattle.std.specs.Option.{option_map}
use Rattle.text_words.specs.Values.{cut, longer}

abbrev at : ℕ → ℕ → Bool
at mark b = eqb b mark

cut_none : (mark : ℕ) (x : List ℕ) → position_or_len (at mark) x ≡ length x → cut mark x ≡ None
cut_none mark [] h = refl
cut_none mark (b ∷ bs) h = step (eqb b mark) refl h (cut_none mark bs)
  where
    step : (t : Bool) → eqb b mark ≡ t → cond (not t) (1 + position_or_len (at mark) bs) 0 ≡ suc (length bs) → (position_or_len (at mark) bs ≡ length bs → cut mark bs ≡ None) → cond t (Some ([], bs)) (longer b (cut mark bs)) ≡ None
    step true e k ih = absurd (omega (arith, k))
    step false e k ih = ap (longer b) (ih (omega (arith, k)))

cut_some : (mark : ℕ) (x : List ℕ) → position_or_len (at mark) x < length x → cut mark x ≡ Some (before_first (at mark) x, after_first (at mark) x)
cut_some mark [] h = absurd (omega (arith, h))
cut_some mark (b ∷ bs) h = step (eqb b mark) refl h (cut_some mark bs)
  where
    grow : suc (position_or_len (at mark) bs) ≡ 1 + position_or_len (at mark) bs
    grow = omega arith

    more : suc (position_or_len (at mark) bs + 1) ≡ 1 + position_or_len (at mark) bs + 1
    more = omega arith

    step : (t : Bool) → eqb b mark ≡ t → cond (not t) (1 + position_or_len (at mark) bs) 0 < suc (length bs) → (position_or_len (at mark) bs < length bs → cut mark bs ≡ Some (before_first (at mark) bs, after_first (at mark) bs)) → cond t (Some ([], bs)) (longer b (cut mark bs)) ≡ Some (take (cond (not t) (1 + position_or_len (at mark) bs) 0) (b ∷ bs), drop (cond (not t) (1 + position_or_len (at mark) bs) 0 + 1) (b ∷ bs))
    step true e k ih = refl
    step false e k ih =
        ap (longer b) (ih (omega (arith, k)))
        ∙ ap (λ n. Some (take n (b ∷ bs), drop (position_or_len (at mark) bs + 1) bs)) grow
        ∙ ap (λ n. Some (take (1 + position_or_len (at mark) bs) (b ∷ bs), drop n (b ∷ bs))) more

pub cut_is : (mark : ℕ) (x : List ℕ) (r : Option (Bor (List ℕ) × Bor (List ℕ))) → MatchOption r (position_or_len (at mark) x ≡ length x) (λ p. (position_or_len (at mark) x < length x) × (p.0.now ≡ before_first (at mark) x) × (p.1.now ≡ after_first (at mark) x)) → option_map (λ p. (p.0.now, p.1.now)) r ≡ cut mark x
cut_is mark x None h = sym (cut_none mark x h)
cut_is mark x (Some p) h = ap (λ l. Some (l, p.1.now)) h.1 ∙ ap (λ l. Some (before_first (at mark) x, l)) h.2 ∙ sym (cut_some mark x h.0)
