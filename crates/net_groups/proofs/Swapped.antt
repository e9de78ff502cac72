-- An item is taken out of a list, the last one takes its place, another is put behind, and these two are swapped: only that item is another.
use Rattle.std.proofs.Common.{length-append, ◌≡◌, ◌≢◌, ◌⊎◌, ◌<◌, ◌+◌, ◌-◌, ◌++◌, ℕ, List, [], ◌∷◌, length, sym, ap, ◌∙◌, inl, inr, arith}
use Rattle.std.specs.Prelude.{slice_index_or, slice_set}
use Rattle.std.specs.List.{SwappedAt}
use Rattle.std.proofs.lemmas.Bool.{cases_eq}
use Rattle.std.proofs.lemmas.List.{ext_get_or, get_or_append_left, get_or_at, get_or-set_other, get_or-set_same}
use Rattle.task_pads.proofs.Lists.{set_length}

-- the items of xs but the last, with the last one of xs at a place
pub record TakenOut {A : Type 0} (xs rest : List A) (k : ℕ) : Type 0 where
  pub size : length rest + 1 ≡ length xs
  pub last : (d : A) → k + 1 < length xs → slice_index_or rest k d ≡ slice_index_or xs (length xs - 1) d
  pub others : (j : ℕ) (d : A) → j ≢ k → j + 1 < length xs → slice_index_or rest j d ≡ slice_index_or xs j d

pub record SwappedIn {A : Type 0} (zs ws : List A) (k last : ℕ) : Type 0 where
  pub size : length ws ≡ length zs
  pub here : (d : A) → slice_index_or ws k d ≡ slice_index_or zs last d
  pub there : (d : A) → slice_index_or ws last d ≡ slice_index_or zs k d
  pub others : (j : ℕ) (d : A) → j ≢ k → j ≢ last → slice_index_or ws j d ≡ slice_index_or zs j d

pub swapped_in : {A : Type 0} (xs rest ws : List A) (k : ℕ) (y : A) → k < length xs → TakenOut xs rest k → SwappedIn (rest ++ y ∷ []) ws k (length xs - 1) → ws ≡ slice_set xs k y
swapped_in xs rest ws k y within out swapped = ext_get_or y ws (slice_set xs k y) (swapped.size ∙ whole ∙ sym (set_length xs k y)) (λ j low. at j (omega (arith, low, size)) (cases_eq j k) (cases_eq j (length xs - 1)))
  where
    whole : length (rest ++ y ∷ []) ≡ length xs
    whole = length-append rest (y ∷ []) ∙ out.size

    size : length ws ≡ length xs
    size = swapped.size ∙ whole

    seam : slice_index_or (rest ++ y ∷ []) (length xs - 1) y ≡ y
    seam = get_or_at rest y [] y (length xs - 1) (let n = out.size in omega (arith, n))

    before : (j : ℕ) → j + 1 < length xs → slice_index_or (rest ++ y ∷ []) j y ≡ slice_index_or rest j y
    before j low = let n = out.size in get_or_append_left rest (y ∷ []) y j (omega (arith, n, low))

    at : (j : ℕ) → j < length xs → ((j ≡ k) ⊎ (j ≡ k → ⊥)) → ((j ≡ length xs - 1) ⊎ (j ≡ length xs - 1 → ⊥)) → slice_index_or ws j y ≡ slice_index_or (slice_set xs k y) j y
    at j low (inl same) last = ap (λ (n : ℕ). slice_index_or ws n y) same ∙ swapped.here y ∙ seam ∙ sym (get_or-set_same xs k y y within) ∙ ap (λ (n : ℕ). slice_index_or (slice_set xs k y) n y) (sym same)
    at j low (inr other) (inl last) =
        let below : k + 1 < length xs = omega (arith, within, last, other) in
        ap (λ (n : ℕ). slice_index_or ws n y) last ∙ swapped.there y ∙ before k below ∙ out.last y below ∙ ap (λ (n : ℕ). slice_index_or xs n y) (sym last) ∙ sym (get_or-set_other xs k j y y other)
    at j low (inr other) (inr inner) = swapped.others j y other inner ∙ before j (omega (arith, low, inner)) ∙ out.others j y other (omega (arith, low, inner)) ∙ sym (get_or-set_other xs k j y y other)

-- the same, by what the calls of a vector promise
pub set_by_swap : {A : Type 0} (xs rest pushed ws : List A) (n k last : ℕ) (y : A) → n ≡ length xs → k < n → last ≡ n - 1 → length rest + 1 ≡ n
    → ((d : A) → k + 1 < n → slice_index_or rest k d ≡ slice_index_or xs (n - 1) d) × ((j : ℕ) (d : A) → j ≢ k → j + 1 < n → slice_index_or rest j d ≡ slice_index_or xs j d)
    → pushed ≡ rest ++ y ∷ [] → length ws ≡ length pushed → SwappedAt pushed ws k last → ws ≡ slice_set xs k y
set_by_swap xs rest pushed ws n k last y size within is_last less out whole same swapped =
    swapped_in xs rest ws k y (omega (arith, within, size))
    (record {
      size = less ∙ size;
      last = λ d low. out.0 d (omega (arith, low, size)) ∙ ap (λ (m : ℕ). slice_index_or xs (m - 1) d) size;
      others = λ j d other low. out.1 j d other (omega (arith, low, size));
    })
    (record {
      size = same ∙ ap (λ (zs : List _). length zs) whole;
      here = λ d. swapped.0 d ∙ ap (λ (zs : List _). slice_index_or zs last d) whole ∙ ap (λ (m : ℕ). slice_index_or (rest ++ y ∷ []) m d) (is_last ∙ ap (λ (m : ℕ). m - 1) size);
      there = λ d. ap (λ (m : ℕ). slice_index_or ws m d) (sym (is_last ∙ ap (λ (m : ℕ). m - 1) size)) ∙ swapped.1 d ∙ ap (λ (zs : List _). slice_index_or zs k d) whole;
      others = λ j d other inner. swapped.2 j d other (λ at. inner (at ∙ is_last ∙ ap (λ (m : ℕ). m - 1) size)) ∙ ap (λ (zs : List _). slice_index_or zs j d) whole;
    })
