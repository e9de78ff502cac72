-- One step of a walk over two lists of fields in the order of their names.
use Rattle.std.proofs.Common.{◌≡◌, ℕ, zero, suc, ◌+◌, ◌<◌, ◌≤◌, Bool, true, false, ◌&&◌, List, [], ◌∷◌, Option, Some, None, length, get_or, drop, refl, sym, ap, ◌∙◌, subst, arith}
use Rattle.std.specs.Ordering.{is_eq, ordering_reverse}
use Rattle.std.specs.declared.cmp.Ordering.TheVariants.{Less, Equal, Greater}
use Rattle.std.specs.Str.{bytes_eq}
use Rattle.std.proofs.lemmas.Cmp.{nat_list_cmp_total}
use Rattle.std.proofs.lemmas.List.{drop_all}
use Rattle.std.proofs.lemmas.Map.Lookups.{exact_bytes}
use Rattle.std.proofs.lemmas.Map.Text.{is_eq-slice_cmp}
use Rattle.gst_value.proofs.NamesInOrder.{cmp, less_trans_each}
use Rattle.gst_caps.specs.Accepts.{value_at, each_at}
use Rattle.gst_value.specs.Names.{Each, Rises}
use Rattle.gst_value.proofs.Places.{drop_next as front}

-- ---- names

pub greater_less : (a b : List ℕ) → cmp a b ≡ Greater → cmp b a ≡ Less
greater_less a b h = nat_list_cmp_total.antisymm b a ∙ ap ordering_reverse h

less_differs : (a b : List ℕ) → cmp a b ≡ Less → bytes_eq a b ≡ false
less_differs a b h = sym (is_eq-slice_cmp a b) ∙ ap is_eq h

pub behind_differs : (a b : List ℕ) → cmp a b ≡ Less → bytes_eq b a ≡ false
behind_differs a b h = sym (is_eq-slice_cmp b a) ∙ ap is_eq (nat_list_cmp_total.antisymm b a ∙ ap ordering_reverse h)

equal_same : (a b : List ℕ) → cmp a b ≡ Equal → bytes_eq a b ≡ true
equal_same a b h = sym (is_eq-slice_cmp a b) ∙ ap is_eq h

pub Rises-drop : {X : Type 0} (n : ℕ) (fs : List (List ℕ × X)) → Rises fs → Rises (drop n fs)
Rises-drop zero fs r = r
Rises-drop (suc n) [] r = tt
Rises-drop (suc n) (f ∷ fs) r = Rises-drop n fs r.1

-- ---- look-ups

pub value_at_behind : {W : Type 0} (n : List ℕ) (gs : List (List ℕ × W)) → Each (λ g. cmp n g.0 ≡ Less) gs → value_at n gs ≡ None
value_at_behind n [] p = refl
value_at_behind n (g ∷ gs) p = rw (behind_differs n g.0 p.0) (value_at_behind n gs p.1)

pub value_at_same : {W : Type 0} (n : List ℕ) (g : List ℕ × W) (gs : List (List ℕ × W)) → cmp g.0 n ≡ Equal → value_at n (g ∷ gs) ≡ Some g.1
value_at_same n g gs h = rw (equal_same g.0 n h) refl

pub value_at_skip : {W : Type 0} (n : List ℕ) (g : List ℕ × W) (gs : List (List ℕ × W)) → cmp g.0 n ≡ Less → value_at n (g ∷ gs) ≡ value_at n gs
value_at_skip n g gs h = rw (less_differs g.0 n h) refl

-- a field before all names is not looked at
pub each_at_skip : {V W : Type 0} (t : V → Option W → Bool) (g : List ℕ × W) (gs : List (List ℕ × W)) (fs : List (List ℕ × V)) → Each (λ f. cmp g.0 f.0 ≡ Less) fs → each_at t fs (g ∷ gs) ≡ each_at t fs gs
each_at_skip t g gs [] p = refl
each_at_skip t g gs (f ∷ fs) p = λ i. t f.1 (value_at_skip f.0 g gs p.0 i) && each_at_skip t g gs fs p.1 i

each_at_skip_first : {V W : Type 0} (t : V → Option W → Bool) (g : List ℕ × W) (gs : List (List ℕ × W)) (f : List ℕ × V) (fs : List (List ℕ × V)) → Rises (f ∷ fs) → cmp g.0 f.0 ≡ Less → each_at t (f ∷ fs) (g ∷ gs) ≡ each_at t (f ∷ fs) gs
each_at_skip_first t g gs f fs r h = each_at_skip t g gs (f ∷ fs) (h, less_trans_each g.0 f.0 fs h r.0)

pub each_at_both : {V W : Type 0} (t : V → Option W → Bool) (g : List ℕ × W) (gs : List (List ℕ × W)) (f : List ℕ × V) (fs : List (List ℕ × V)) → Rises (f ∷ fs) → cmp g.0 f.0 ≡ Equal → each_at t (f ∷ fs) (g ∷ gs) ≡ (t f.1 (Some g.1) && each_at t fs gs)
each_at_both t g gs f fs r h =
    let P : List ℕ → Type 0 = λ n. Each (λ k. cmp n k.0 ≡ Less) fs in
    let later : Each (λ k. cmp g.0 k.0 ≡ Less) fs = subst P (sym (exact_bytes g.0 f.0 h)) r.0 in
    λ i. t f.1 (value_at_same f.0 g gs h i) && each_at_skip t g gs fs later i

each_at_absent : {V W : Type 0} (t : V → Option W → Bool) (gs : List (List ℕ × W)) (f : List ℕ × V) (fs : List (List ℕ × V)) → Each (λ g. cmp f.0 g.0 ≡ Less) gs → each_at t (f ∷ fs) gs ≡ (t f.1 None && each_at t fs gs)
each_at_absent t gs f fs p = λ i. t f.1 (value_at_behind f.0 gs p i) && each_at t fs gs

-- ---- the same at places

pub rises_front : {X : Type 0} (fs : List (List ℕ × X)) (i : ℕ) (f : List ℕ × X) → Rises fs → i < length fs → f ≡ get_or fs i f → Rises (f ∷ drop (i + 1) fs)
rises_front {X} fs i f r p e =
    let P : List (List ℕ × X) → Type 0 = λ xs. Rises xs in
    subst P (front fs i f p e) (Rises-drop i fs r)

module _ {V W : Type 0} (t : V → Option W → Bool) (fs : List (List ℕ × V)) (gs : List (List ℕ × W)) (i j : ℕ) (f : List ℕ × V) (g : List ℕ × W) (r : Rises fs) (s : Rises gs) (p : i < length fs) (q : j < length gs) (e : f ≡ get_or fs i f) (k : g ≡ get_or gs j g) where
  first : drop i fs ≡ f ∷ drop (i + 1) fs
  first = front fs i f p e

  second : drop j gs ≡ g ∷ drop (j + 1) gs
  second = front gs j g q k

  -- the field of the second stands before
  pub walk_second : cmp g.0 f.0 ≡ Less → each_at t (drop i fs) (drop (j + 1) gs) ≡ each_at t (drop i fs) (drop j gs)
  walk_second h =
      ap (λ xs. each_at t xs (drop (j + 1) gs)) first ∙ sym (each_at_skip_first t g (drop (j + 1) gs) f (drop (i + 1) fs) (rises_front fs i f r p e) h) ∙ (λ z. each_at t (sym first z) (sym second z))

  -- both have one name
  pub walk_both : cmp g.0 f.0 ≡ Equal → each_at t (drop i fs) (drop j gs) ≡ (t f.1 (Some g.1) && each_at t (drop (i + 1) fs) (drop (j + 1) gs))
  walk_both h = (λ z. each_at t (first z) (second z)) ∙ each_at_both t g (drop (j + 1) gs) f (drop (i + 1) fs) (rises_front fs i f r p e) h

  -- the field of the first stands before
  pub walk_first : cmp g.0 f.0 ≡ Greater → each_at t (drop i fs) (drop j gs) ≡ (t f.1 None && each_at t (drop (i + 1) fs) (drop j gs))
  walk_first h =
      let less : cmp f.0 g.0 ≡ Less = greater_less g.0 f.0 h in
      let Q : List (List ℕ × W) → Type 0 = λ xs. Each (λ x. cmp f.0 x.0 ≡ Less) xs in
      let later : Each (λ x. cmp f.0 x.0 ≡ Less) (drop j gs) = subst Q (sym second) (less, less_trans_each f.0 g.0 (drop (j + 1) gs) less (rises_front gs j g s q k).0) in
      ap (λ xs. each_at t xs (drop j gs)) first ∙ each_at_absent t (drop j gs) f (drop (i + 1) fs) later

-- where nothing is asked of what is absent
pub walk_free : {V W : Type 0} (t : V → Option W → Bool) → ((v : V) → t v None ≡ true) → (fs : List (List ℕ × V)) → each_at t fs [] ≡ true
walk_free t h [] = refl
walk_free t h (f ∷ fs) = λ i. h f.1 i && walk_free t h fs i

short : {V W : Type 0} (t : V → Option W → Bool) → ((v : V) → t v None ≡ false) → (fs : List (List ℕ × V)) (i : ℕ) → i < length fs → each_at t (drop i fs) [] ≡ false
short t h [] i p = absurd (omega arith)
short t h (f ∷ fs) zero p = ap (λ b. b && each_at t fs []) (h f.1)
short t h (f ∷ fs) (suc i) p = short t h fs i (omega arith)

-- a test that asks for a value fails where there are none
pub walk_short : {V W : Type 0} (t : V → Option W → Bool) → ((v : V) → t v None ≡ false) → (fs : List (List ℕ × V)) (gs : List (List ℕ × W)) (i j : ℕ) → i < length fs → length gs ≤ j → each_at t (drop i fs) (drop j gs) ≡ false
walk_short t h fs gs i j p q = ap (λ xs. each_at t (drop i fs) xs) (drop_all j gs q) ∙ short t h fs i p

-- a test that asks nothing passes
pub walk_rest : {V W : Type 0} (t : V → Option W → Bool) → ((v : V) → t v None ≡ true) → (fs : List (List ℕ × V)) (gs : List (List ℕ × W)) (i j : ℕ) → length gs ≤ j → each_at t (drop i fs) (drop j gs) ≡ true
walk_rest t h fs gs i j q = ap (λ xs. each_at t (drop i fs) xs) (drop_all j gs q) ∙ walk_free t h (drop i fs)

pub passed : (a b whole : Bool) → whole ≡ (a && b) → a ≡ true → b ≡ whole
passed a b whole e h = sym (e ∙ ap (λ x. x && b) h)

pub failed : (a b whole : Bool) → whole ≡ (a && b) → a ≡ false → false ≡ whole
failed a b whole e h = sym (e ∙ ap (λ x. x && b) h)
