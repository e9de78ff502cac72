-- The element of a number among the elements of a task.
use Rattle.std.proofs.Common.{◌≡◌, ◌⊎◌, ◌||◌, ℕ, zero, suc, Bool, true, false, eqb, List, [], ◌∷◌, map, get_or, Option, None, Some, refl, sym, ap, ◌∙◌, subst, inl, inr}
use Rattle.std.specs.Prelude.{IfSome, is_some, slice_get}
use Rattle.std.proofs.lemmas.Bool.Decides.{eqb_tells}
use Rattle.flow_model.specs.declared.element.TaskElement as elements
use Rattle.task_parts.specs.declared.part.Part.{Part}
use Rattle.task_parts.specs.Found.{IsAt}
use Rattle.task_parts.specs.Shape.{has_number, part_shape}
use Rattle.task_parts.proofs.Lists.{at_get}
use Rattle.gst_value.proofs.Basics.{some_same}

module _ {E O : Type 0} {e : elements.Ghosts E} where
  pub none_has : (parts : List (Part E O e)) (n : ℕ) → ((j : ℕ) (part : Part E O e) → slice_get parts j ≡ Some part → part.number ≡ n → ⊥) → has_number n (map part_shape parts) ≡ false
  none_has [] n none = refl
  none_has (p ∷ ps) n none = go (none_has ps n (λ j q at. none (suc j) q at)) (eqb_tells p.number n)
    where
      go : has_number n (map part_shape ps) ≡ false → ((eqb p.number n ≡ true) × (p.number ≡ n)) ⊎ ((eqb p.number n ≡ false) × (p.number ≡ n → ⊥)) → (eqb p.number n || has_number n (map part_shape ps)) ≡ false
      go rest (inl z) = absurd (none 0 p refl z.1)
      go rest (inr z) = ap (λ (b : Bool). b || has_number n (map part_shape ps)) z.0 ∙ rest

  pub has_at : (parts : List (Part E O e)) (n place : ℕ) → IsAt parts n place → has_number n (map part_shape parts) ≡ true
  has_at parts n place is = go parts place is.at
    where
      go : (ps : List (Part E O e)) (k : ℕ) → slice_get ps k ≡ Some is.part → has_number n (map part_shape ps) ≡ true
      go [] k at = absurd cc
      go (p ∷ ps) zero at = here (eqb_tells p.number n)
        where
          here : ((eqb p.number n ≡ true) × (p.number ≡ n)) ⊎ ((eqb p.number n ≡ false) × (p.number ≡ n → ⊥)) → (eqb p.number n || has_number n (map part_shape ps)) ≡ true
          here (inl z) = ap (λ (b : Bool). b || has_number n (map part_shape ps)) z.0
          here (inr z) = absurd (z.1 (ap (λ (q : Part E O e). q.number) (some_same at) ∙ is.number_is))
      go (p ∷ ps) (suc k) at = there (eqb p.number n) (go ps k at)
        where
          there : (b : Bool) → has_number n (map part_shape ps) ≡ true → (b || has_number n (map part_shape ps)) ≡ true
          there true rest = refl
          there false rest = rest

  pub has_is : (found : Option ℕ) (parts : List (Part E O e)) (n : ℕ) → IfSome found (IsAt parts n) → (found ≡ None → has_number n (map part_shape parts) ≡ false) → is_some found ≡ has_number n (map part_shape parts)
  has_is None parts n at none = sym (none refl)
  has_is (Some place) parts n at none = sym (has_at parts n place at)

  -- what was looked up at the place of the element of a number is that element
  pub found_at : (parts : List (Part E O e)) (n place : ℕ) (part : Part E O e) → IsAt parts n place → part ≡ get_or parts place part → (slice_get parts place ≡ Some part) × (part.number ≡ n)
  found_at parts n place part is same =
      let one : part ≡ is.part = at_get parts place is.part part is.at same in
      (subst (λ (p : Part E O e). slice_get parts place ≡ Some p) (sym one) is.at, ap (λ (p : Part E O e). p.number) one ∙ is.number_is)
