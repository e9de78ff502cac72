-- Texts without their dashes.
use Rattle.std.proofs.Common.{◌≡◌, ◌≢◌, ◌<◌, ℕ, suc, List, [], ◌∷◌, ◌++◌, length, get_or, refl, sym, ap, ◌∙◌, arith, inl, inr, append_assoc, length-append}
use Rattle.std.proofs.lemmas.Bool.Decides.{eqb_tells}
use Rattle.graph_core.specs.Elements.{without_dashes}

-- a text without dashes stays
pub none_lost : (xs : List ℕ) → ((i : ℕ) → i < length xs → get_or xs i 0 ≢ 45) → without_dashes xs ≡ xs
none_lost [] none = refl
none_lost (x ∷ xs) none = elim (eqb_tells x 45) [
  | inl dash ↦ absurd (none 0 (omega arith) dash.1)
  | inr other ↦ rw other.0 (ap (λ l. x ∷ l) (none_lost xs (λ i within. none (suc i) (omega (arith, within)))))
]

-- a dash is lost, and what is before it stays
pub dash_lost : (xs ys : List ℕ) → ((i : ℕ) → i < length xs → get_or xs i 0 ≢ 45) → without_dashes (xs ++ 45 ∷ ys) ≡ xs ++ without_dashes ys
dash_lost [] ys none = refl
dash_lost (x ∷ xs) ys none = elim (eqb_tells x 45) [
  | inl dash ↦ absurd (none 0 (omega arith) dash.1)
  | inr other ↦ rw other.0 (ap (λ l. x ∷ l) (dash_lost xs ys (λ i within. none (suc i) (omega (arith, within)))))
]

pub shorter : (rest before after : List ℕ) → rest ≡ before ++ 45 ∷ after → length after < length rest
shorter rest before after parts = omega (arith, ap length parts, length-append before (45 ∷ after))

pub kept_more : (old new wanted rest before after : List ℕ) → new ≡ old ++ before → rest ≡ before ++ 45 ∷ after → ((i : ℕ) → i < length before → get_or before i 0 ≢ 45) → old ++ without_dashes rest ≡ wanted → new ++ without_dashes after ≡ wanted
kept_more old new wanted rest before after put parts none so_far =
    ap (λ l. l ++ without_dashes after) put ∙ append_assoc old before (without_dashes after) ∙ ap (λ l. old ++ l) (sym (ap without_dashes parts ∙ dash_lost before after none)) ∙ so_far

pub kept_all : (old new wanted rest : List ℕ) → new ≡ old ++ rest → ((i : ℕ) → i < length rest → get_or rest i 0 ≢ 45) → old ++ without_dashes rest ≡ wanted → new ≡ wanted
kept_all old new wanted rest put none so_far = put ∙ ap (λ l. old ++ l) (sym (none_lost rest none)) ∙ so_far
