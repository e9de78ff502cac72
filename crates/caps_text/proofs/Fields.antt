-- Fields by their places.
use Rattle.std.proofs.Common.{◌≡◌, ℕ, zero, suc, ◌<◌, ◌+◌, Bool, true, false, cond, List, [], ◌∷◌, ◌++◌, length, drop, take, Option, Some, None, refl, sym, ap, ◌∙◌, arith, append_assoc}
use Rattle.std.specs.Prelude.{slice_get, is_some}
use Rattle.std.specs.List.{flat_map}
use Rattle.std.specs.Str.{bytes_eq}
use Rattle.std.proofs.Math.Seq.{drop-nil}
use Rattle.std.proofs.lemmas.Option.{same_Some}
use Rattle.caps_text.specs.Printed.{field_text, text_at}
use Rattle.gst_caps.specs.Accepts.{value_at}
use Rattle.gst_caps.specs.declared.value.Value.{Value}
use Rattle.caps_text.specs.Reading.{names}

-- the field at a place
splits : {X : Type 0} (xs : List X) (i : ℕ) (x : X) → slice_get xs i ≡ Some x → drop i xs ≡ x ∷ drop (suc i) xs
splits [] i x h = absurd (cc)
splits (y ∷ ys) zero x h = ap (λ z. z ∷ ys) (same_Some y x h)
splits (y ∷ ys) (suc i) x h = splits ys i x h

pub place_splits : {X : Type 0} (xs : List X) (i : ℕ) (x : X) → slice_get xs i ≡ Some x → drop i xs ≡ x ∷ drop (i + 1) xs
place_splits xs i x h = let e : suc i ≡ i + 1 = omega arith in splits xs i x h ∙ ap (λ n. x ∷ drop n xs) e

-- a field of this name is found
pub field_found : {V : Type 0} (name : List ℕ) (fs : List (List ℕ × V)) (i : ℕ) (f : List ℕ × V) → slice_get fs i ≡ Some f → bytes_eq f.0 name ≡ true → is_some (value_at name fs) ≡ true
field_found name [] i f h e = absurd (cc)
field_found name (g ∷ gs) zero f h e = let same = same_Some g f h in let is : bytes_eq g.0 name ≡ true = ap (λ x. bytes_eq x.0 name) same ∙ e in rw is refl
field_found name (g ∷ gs) (suc i) f h e = step (bytes_eq g.0 name) (field_found name gs i f h e)
  where
    step : (t : Bool) → is_some (value_at name gs) ≡ true → is_some (cond t (Some g.1) (value_at name gs)) ≡ true
    step true ih = refl
    step false ih = ih

-- one more field of another name
passed : {V : Type 0} (name : List ℕ) (fs : List (List ℕ × V)) (i : ℕ) (f : List ℕ × V) → slice_get fs i ≡ Some f → bytes_eq f.0 name ≡ false → value_at name (take i fs) ≡ None → value_at name (take (suc i) fs) ≡ None
passed name [] i f h e n = absurd (cc)
passed name (g ∷ gs) zero f h e n = let same = same_Some g f h in let is : bytes_eq g.0 name ≡ false = ap (λ x. bytes_eq x.0 name) same ∙ e in rw is refl
passed name (g ∷ gs) (suc i) f h e n = step (bytes_eq g.0 name) refl (passed name gs i f h e)
  where
    step : (t : Bool) → bytes_eq g.0 name ≡ t → (value_at name (take i gs) ≡ None → value_at name (take (suc i) gs) ≡ None) → cond (bytes_eq g.0 name) (Some g.1) (value_at name (take (suc i) gs)) ≡ None
    step true t ih = absurd (let is : Some g.1 ≡ None = rw t at n in cc)
    step false t ih = rw t (ih (rw t at n))

pub field_passed : {V : Type 0} (name : List ℕ) (fs : List (List ℕ × V)) (i : ℕ) (f : List ℕ × V) → slice_get fs i ≡ Some f → bytes_eq f.0 name ≡ false → value_at name (take i fs) ≡ None → value_at name (take (i + 1) fs) ≡ None
field_passed name fs i f h e n = let k : suc i ≡ i + 1 = omega arith in sym (ap (λ m. value_at name (take m fs)) k) ∙ passed name fs i f h e n

-- the field at a place has the name, or has not
pub found_at : (name : List ℕ) (fs : List (List ℕ × Value)) (i : ℕ) → names name (slice_get fs i) ≡ true → is_some (value_at name fs) ≡ true
found_at name fs i h = step (slice_get fs i) refl h
  where
    step : (o : Option (List ℕ × Value)) → slice_get fs i ≡ o → names name o ≡ true → is_some (value_at name fs) ≡ true
    step None e h = absurd (cc)
    step (Some f) e h = field_found name fs i f e h

pub passed_at : (name : List ℕ) (fs : List (List ℕ × Value)) (i : ℕ) → i < length fs → names name (slice_get fs i) ≡ false → value_at name (take i fs) ≡ None → value_at name (take (i + 1) fs) ≡ None
passed_at name fs i less h n = step (slice_get fs i) refl h
  where
    lacks : (gs : List (List ℕ × Value)) (k : ℕ) → k < length gs → slice_get gs k ≡ None → ⊥
    lacks [] k less e = omega (arith, less)
    lacks (g ∷ gs) zero less e = cc
    lacks (g ∷ gs) (suc k) less e = lacks gs k (omega (arith, less)) e

    step : (o : Option (List ℕ × Value)) → slice_get fs i ≡ o → names name o ≡ false → value_at name (take (i + 1) fs) ≡ None
    step None e h = absurd (lacks fs i less e)
    step (Some f) e h = field_passed name fs i f e h n

-- the texts of the fields from a place on
pub texts_split : {X : Type 0} (value : X → List ℕ) (fs : List (List ℕ × X)) (i : ℕ) → flat_map (field_text value) (drop i fs) ≡ text_at value (slice_get fs i) ++ flat_map (field_text value) (drop (i + 1) fs)
texts_split {X = X} value fs i = step (slice_get fs i) refl
  where
    past : (gs : List (List ℕ × X)) (k : ℕ) → slice_get gs k ≡ None → (drop k gs ≡ []) × (drop (suc k) gs ≡ [])
    past [] k e = (drop-nil k, drop-nil (suc k))
    past (g ∷ gs) zero e = absurd (cc)
    past (g ∷ gs) (suc k) e = past gs k e

    step : (o : Option (List ℕ × X)) → slice_get fs i ≡ o → flat_map (field_text value) (drop i fs) ≡ text_at value o ++ flat_map (field_text value) (drop (i + 1) fs)
    step None e = let p = past fs i e in let k : suc i ≡ i + 1 = omega arith in ap (flat_map (field_text value)) (p.0 ∙ sym p.1 ∙ ap (λ n. drop n fs) k)
    step (Some f) e = ap (flat_map (field_text value)) (place_splits fs i f e)

pub texts_step : {X : Type 0} (value : X → List ℕ) (fs : List (List ℕ × X)) (i : ℕ) (now later whole : List ℕ) → now ++ flat_map (field_text value) (drop i fs) ≡ whole → later ≡ now ++ text_at value (slice_get fs i) → later ++ flat_map (field_text value) (drop (i + 1) fs) ≡ whole
texts_step value fs i now later whole h e = rw e (append_assoc now _ _ ∙ ap (λ l. now ++ l) (sym (texts_split value fs i)) ∙ h)
