-- Fixed caps are compared field by field.
use Rattle.std.proofs.Common.{◌≡◌, ◌≢◌, ◌<◌, ◌≤◌, ◌+◌, ℕ, zero, suc, Bool, true, false, not, ◌&&◌, List, [], ◌∷◌, length, drop, Option, None, refl, sym, ap, ◌∙◌, subst, add-one, arith}
use Rattle.std.specs.Prelude.{slice_get}
use Rattle.std.specs.Bool.{Decides}
use Rattle.std.specs.Option.{option_map}
use Rattle.std.specs.Str.{bytes_eq}
use Rattle.std.specs.Cmp.Lexicographic.{pointwise}
use Rattle.std.proofs.lemmas.Slice.Eq.{bytes_eq-Decides, slice_eq-Decides}
use Rattle.gst_value.proofs.Kept.{same_is}
use Rattle.gst_value.proofs.Laws.{same_itself}
use Rattle.gst_value.specs.Common.{same}
use Rattle.gst_value.specs.Description.{Description}
use Rattle.gst_value.specs.declared.one.One.{One}
use Rattle.gst_caps.specs.Same.{same_field, same_given, same_caps}
use Rattle.gst_value.proofs.Basics.{and_left, and_right, and_both as and_true}

abbrev Field : Type 0
Field = List ℕ × One

-- one more field is compared
more : (xs ys : List Field) (i : ℕ) → same_given (slice_get xs i) (slice_get ys i) ≡ true → pointwise same_field (drop i xs) (drop i ys) ≡ pointwise same_field (drop (suc i) xs) (drop (suc i) ys)
more (f ∷ fs) (g ∷ gs) zero e = ap (λ b. b && pointwise same_field fs gs) e
more (f ∷ fs) (g ∷ gs) (suc i) e = more fs gs i e
more [] ys i e = absurd (cc)
more (f ∷ fs) [] zero e = absurd (cc)
more (f ∷ fs) [] (suc i) e = absurd (none fs i e)
  where
    none : (fs : List Field) (i : ℕ) → same_given (slice_get fs i) None ≡ true → ⊥
    none [] i e = absurd (cc)
    none (f ∷ fs) zero e = absurd (cc)
    none (f ∷ fs) (suc i) e = none fs i e

pub one_more : (xs ys : List Field) (i : ℕ) (b : Bool) → b ≡ pointwise same_field (drop i xs) (drop i ys) → same_given (slice_get xs i) (slice_get ys i) ≡ true → b ≡ pointwise same_field (drop (i + 1) xs) (drop (i + 1) ys)
one_more xs ys i b before e = before ∙ more xs ys i e ∙ ap (λ k. pointwise same_field (drop k xs) (drop k ys)) (sym (add-one i))

-- a field differs
pub differs : (xs ys : List Field) (i : ℕ) → i < length xs → length xs ≡ length ys → same_given (slice_get xs i) (slice_get ys i) ≡ false → pointwise same_field (drop i xs) (drop i ys) ≡ false
differs (f ∷ fs) (g ∷ gs) zero lt len e = ap (λ b. b && pointwise same_field fs gs) e
differs (f ∷ fs) (g ∷ gs) (suc i) lt len e = differs fs gs i (omega arith) (omega arith) e
differs [] ys i lt len e = absurd (omega arith)
differs (f ∷ fs) [] i lt len e = absurd (omega arith)

-- all fields are compared
pub over : (xs ys : List Field) (i : ℕ) → length xs ≤ i → length xs ≡ length ys → pointwise same_field (drop i xs) (drop i ys) ≡ true
over [] [] zero le len = refl
over [] [] (suc i) le len = refl
over (f ∷ fs) (g ∷ gs) zero le len = absurd (omega arith)
over (f ∷ fs) (g ∷ gs) (suc i) le len = over fs gs i (omega arith) (omega arith)
over [] (g ∷ gs) i le len = absurd (omega arith)
over (f ∷ fs) [] i le len = absurd (omega arith)

-- other numbers of fields
pub uneven : (xs ys : List Field) → length xs ≢ length ys → pointwise same_field xs ys ≡ false
uneven [] [] e = absurd (e refl)
uneven [] (g ∷ gs) e = refl
uneven (f ∷ fs) [] e = refl
uneven (f ∷ fs) (g ∷ gs) e = last (same_field f g) _ (uneven fs gs (λ h. e (ap suc h)))
  where
    last : (a b : Bool) → b ≡ false → (a && b) ≡ false
    last true b h = h
    last false b h = refl

abbrev field : List ℕ → One → Field
field name value = (name, value)

-- the test decides
field_decides : (f g : Field) → Decides (same_field f g) (f ≡ g)
field_decides f g = (
  (λ h. parts f.0 g.0 f.1 g.1 ((bytes_eq-Decides f.0 g.0).0 (and_left (bytes_eq f.0 g.0) (same f.1 g.1) h)) (same_is f.1 g.1 (and_right (bytes_eq f.0 g.0) (same f.1 g.1) h))),
  (λ e. subst (λ (h : Field). same_field f h ≡ true) e (and_true _ _ ((bytes_eq-Decides f.0 f.0).1 refl) (same_itself f.1))),
)
  where
    parts : (m n : List ℕ) (v w : One) → m ≡ n → v ≡ w → field m v ≡ field n w
    parts m n v w p q = rw (p, q) refl

abbrev of_parts : List ℕ → List Field → Description One
of_parts media fields = record { media = media; fields = fields }

same_parts : (m n : List ℕ) (fs gs : List Field) → m ≡ n → fs ≡ gs → of_parts m fs ≡ of_parts n gs
same_parts m n fs gs p q = rw (p, q) refl

pub caps_decide : (x y : Description One) → Decides (same_caps x y) (x ≡ y)
unfolding same_caps
caps_decide x y = (
  (λ h. same_parts x.media y.media x.fields y.fields ((bytes_eq-Decides x.media y.media).0 (and_left (bytes_eq x.media y.media) (pointwise same_field x.fields y.fields) h))
      ((slice_eq-Decides field_decides x.fields y.fields _ refl).0 (and_right (bytes_eq x.media y.media) (pointwise same_field x.fields y.fields) h))),
  (λ e. subst (λ (z : Description One). (bytes_eq x.media z.media && pointwise same_field x.fields z.fields) ≡ true) e
      (and_true _ _ ((bytes_eq-Decides x.media x.media).1 refl) ((slice_eq-Decides field_decides x.fields x.fields _ refl).1 refl))),
)

-- what the comparison finds
pub media_differ : (x y : Description One) (m n : List ℕ) → m ≡ x.media → n ≡ y.media → true ≡ not (bytes_eq m n) → false ≡ same_caps x y
unfolding same_caps
media_differ x y m n p q h = rw (p, q) at (go (bytes_eq m n) h)
  where
    go : (b : Bool) → true ≡ not b → false ≡ (b && pointwise same_field x.fields y.fields)
    go true e = absurd (cc)
    go false e = refl

pub fields_differ : (x y : Description One) → pointwise same_field x.fields y.fields ≡ false → false ≡ same_caps x y
unfolding same_caps
fields_differ x y e = go (bytes_eq x.media y.media) _ e
  where
    go : (a b : Bool) → b ≡ false → false ≡ (a && b)
    go true b h = sym h
    go false b h = refl

pub all_same : (x y : Description One) (m n : List ℕ) → m ≡ x.media → n ≡ y.media → false ≡ not (bytes_eq m n) → pointwise same_field x.fields y.fields ≡ true → true ≡ same_caps x y
unfolding same_caps
all_same x y m n p q h e = rw (p, q) at (go (bytes_eq m n) h)
  where
    go : (b : Bool) → false ≡ not b → true ≡ (b && pointwise same_field x.fields y.fields)
    go true f = sym e
    go false f = absurd (cc)

pub given_at : {F : Type 0} (f : F → Field) (xs ys : List Field) (i : ℕ) (o p : Option F) (b r : Bool) → r ≡ same_given (option_map f o) (option_map f p) → option_map f o ≡ slice_get xs i → option_map f p ≡ slice_get ys i → r ≡ b
    → same_given (slice_get xs i) (slice_get ys i) ≡ b
given_at f xs ys i o p b r is first second e = rw (first, second) at (sym is ∙ e)
