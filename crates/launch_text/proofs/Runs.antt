-- The bytes of a class at the front of a text.
use Rattle.std.proofs.Common.{◌≡◌, ◌≢◌, ℕ, zero, suc, ◌+◌, ◌<◌, ◌≤◌, Bool, true, false, cond, eqb, List, [], ◌∷◌, ◌++◌, length, drop, take, get_or, Bor, MatchOption, Option, Some, None, inl, inr, refl, sym, ap, ◌∙◌, subst, arith, length-append}
use Rattle.std.specs.Prelude.{is_some, nat_lt}
use Rattle.std.specs.List.{take_while}
use Rattle.std.specs.Option.{option_map}
use Rattle.std.proofs.lemmas.Bool.Decides.{eqb_tells}
use Rattle.std.specs.Str.{IsUtf8, IsCharBoundary}
use Rattle.std.proofs.lemmas.List.Sums.{take_while-cons}
use Rattle.std.proofs.lemmas.Str.{IsCharBoundary-start, IsCharBoundary-after_ascii}
use Rattle.text_words.specs.Bytes.{in_class}
use Rattle.text_words.specs.Values.{cut, property_of}
use Rattle.text_words.specs.declared.class.Class.{Class}
use Rattle.text_words.specs.declared.class.Class.TheVariants.{Kind, Name, Property}
use Rattle.launch_text.specs.Places.{after_point, begins, behind_run, caps_before, caps_front, element_front, front_of, name_front, next_front, pad_front, part_front, point_front, run_of}
use Rattle.launch_text.specs.Words.{begins_caps}
use Rattle.launch_text.specs.declared.front.Spot.{Spot}
use Rattle.launch_text.specs.declared.front.Spot.TheVariants.{Start, Bin, Chain, Element, Link, Caps, Reference}
use Rattle.launch_text.proofs.Facts.{cut_sound}

class_ascii : (class : Class) (b : ℕ) → in_class class b ≡ true → b < 128
class_ascii Kind b h = grind arith
class_ascii Name b h = grind arith
class_ascii Property b h = grind arith

run_cons : (class : Class) (b : ℕ) (bs : List ℕ) → take_while (in_class class) (b ∷ bs) ≡ cond (in_class class b) (b ∷ take_while (in_class class) bs) []
run_cons class b bs = take_while-cons (in_class class) b bs

pub behind_run_is : (class : Class) (x : List ℕ) → drop (length (take_while (in_class class) x)) x ≡ behind_run class x
behind_run_is class [] = refl
behind_run_is class (b ∷ bs) = rw (run_cons class b bs) (more (behind_run_is class bs) (in_class class b))
  where
    more : drop (length (take_while (in_class class) bs)) bs ≡ behind_run class bs → (t : Bool) → drop (length (cond t (b ∷ take_while (in_class class) bs) [])) (b ∷ bs) ≡ cond t (behind_run class bs) (b ∷ bs)
    more h true = h
    more h false = refl

pub run_is : (class : Class) (x : List ℕ) → take (length (take_while (in_class class) x)) x ≡ run_of class x
run_is class [] = refl
run_is class (b ∷ bs) = rw (run_cons class b bs) (more (run_is class bs) (in_class class b))
  where
    more : take (length (take_while (in_class class) bs)) bs ≡ run_of class bs → (t : Bool) → take (length (cond t (b ∷ take_while (in_class class) bs) [])) (b ∷ bs) ≡ cond t (b ∷ run_of class bs) []
    more h true = ap (λ l. b ∷ l) h
    more h false = refl

run_ascii : (class : Class) (x : List ℕ) (k : ℕ) → k < length (take_while (in_class class) x) → (k < length x) × (get_or x k 0 < 128)
run_ascii class [] k h = absurd (omega (arith, h))
run_ascii class (b ∷ bs) k h = step (run_ascii class bs) (in_class class b) refl k (rw (run_cons class b bs) at h)
  where
    step : ((k : ℕ) → k < length (take_while (in_class class) bs) → (k < length bs) × (get_or bs k 0 < 128)) → (t : Bool) → in_class class b ≡ t → (k : ℕ) → k < length (cond t (b ∷ take_while (in_class class) bs) []) → (k < length (b ∷ bs)) × (get_or (b ∷ bs) k 0 < 128)
    step ih true e zero h = (omega arith, class_ascii class b e)
    step ih true e (suc k) h = let r = ih k (omega (arith, h)) in (omega (arith, r.0), r.1)
    step ih false e k h = absurd (omega (arith, h))

pub run_boundary : (class : Class) (x : List ℕ) (n : ℕ) → IsUtf8 x → n ≡ length (take_while (in_class class) x) → IsCharBoundary x n
run_boundary class x zero u e = IsCharBoundary-start x u
run_boundary class x (suc k) u e = let at = run_ascii class x k (omega (arith, e)) in subst (IsCharBoundary x) (omega arith) (IsCharBoundary-after_ascii x k u at.0 at.1)

-- a run with what is behind it
pub run_whole : (class : Class) (x : List ℕ) → x ≡ run_of class x ++ behind_run class x
run_whole class [] = refl
run_whole class (b ∷ bs) = step (in_class class b) (run_whole class bs)
  where
    step : (t : Bool) → bs ≡ run_of class bs ++ behind_run class bs → b ∷ bs ≡ cond t (b ∷ run_of class bs) [] ++ cond t (behind_run class bs) (b ∷ bs)
    step true ih = ap (λ l. b ∷ l) ih
    step false ih = refl

pub run_lengths : (class : Class) (x : List ℕ) → length (run_of class x) + length (behind_run class x) ≡ length x
run_lengths class x = sym (ap length (run_whole class x) ∙ length-append (run_of class x) (behind_run class x))

-- a front is no longer than the word
pub point_within : (x : List ℕ) → length (point_front x) ≤ length x
point_within [] = omega arith
point_within (b ∷ bs) = step (eqb b 46)
  where
    step : (t : Bool) → length (pad_front (cond t (Some bs) None)) ≤ suc (length bs)
    step true = omega (arith, run_lengths Name bs)
    step false = omega arith

name_within : (w : List ℕ) → length (name_front w) ≤ length w
unfolding name_front
name_within w = step (eqb (length (run_of Name w)) 0)
  where
    step : (t : Bool) → length (cond t [] (run_of Name w ++ point_front (behind_run Name w))) ≤ length w
    step true = omega arith
    step false = omega (arith, length-append (run_of Name w) (point_front (behind_run Name w)), point_within (behind_run Name w), run_lengths Name w)

one_within : (mark : ℕ) (w : List ℕ) (other : List ℕ) → length other ≤ length w → length (cond (begins mark w) (mark ∷ []) other) ≤ length w
one_within mark [] other h = h
one_within mark (b ∷ bs) other h = step (eqb b mark)
  where
    step : (t : Bool) → length (cond t (mark ∷ []) other) ≤ suc (length bs)
    step true = omega arith
    step false = h

some_within : (mark : ℕ) (w other : List ℕ) (t : Bool) → length other ≤ length w → length (cond (begins mark w) (cond t (mark ∷ []) []) other) ≤ length w
some_within mark w other true h = one_within mark w other h
some_within mark w other false h = step (begins mark w)
  where
    step : (t : Bool) → length (cond t [] other) ≤ length w
    step true = omega arith
    step false = h

none_within : (mark : ℕ) (w other : List ℕ) (t : Bool) → length other ≤ length w → length (cond (begins mark w) (cond t [] (mark ∷ [])) other) ≤ length w
none_within mark w other true h = some_within mark w other false h
none_within mark w other false h = one_within mark w other h

part_within : (depth : ℕ) (w : List ℕ) → length (part_front depth w) ≤ length w
unfolding part_front
part_within depth w = some_within 40 w (name_front w) (nat_lt depth 16) (name_within w)

next_within : (depth : ℕ) (w : List ℕ) → length (next_front depth w) ≤ length w
unfolding next_front
next_within depth w = none_within 41 w (part_front depth w) (eqb depth 0) (part_within depth w)

element_within : (depth : ℕ) (w : List ℕ) → length (element_front depth w) ≤ length w
unfolding element_front
element_within depth w = step (is_some (property_of w))
  where
    step : (t : Bool) → length (cond t w (cond (begins 33 w) (33 ∷ []) (next_front depth w))) ≤ length w
    step true = omega arith
    step false = one_within 33 w (next_front depth w) (next_within depth w)

caps_within : (w : List ℕ) → length (caps_front w) ≤ length w
unfolding caps_front
caps_within w = step (begins_caps w)
  where
    cut_within : (o : Option (List ℕ × List ℕ)) → cut 61 w ≡ o → length (caps_before w o) ≤ length w
    cut_within None e = omega arith
    cut_within (Some p) e = omega (arith, ap length (cut_sound 61 w p e), length-append p.0 (61 ∷ p.1))

    step : (t : Bool) → length (cond t w (caps_before w (cut 61 w))) ≤ length w
    step true = omega arith
    step false = cut_within (cut 61 w) refl

pub front_within : (spot : Spot) (depth : ℕ) (w : List ℕ) → length (front_of spot depth w) ≤ length w
front_within Start depth w = part_within depth w
front_within Bin depth w = next_within depth w
front_within Chain depth w = next_within depth w
front_within Element depth w = element_within depth w
front_within Link depth w = caps_within w
front_within Caps depth w = omega arith
front_within Reference depth w = one_within 33 w [] (omega arith)

-- what `strip_prefix` gives at a point
pub point_is : (bs : List ℕ) (r : Option (Bor (List ℕ))) → MatchOption r ((rest : List ℕ) → bs ≢ 46 ∷ rest) (λ x. bs ≡ 46 ∷ x.now) → option_map (λ x. x.now) r ≡ after_point bs
point_is [] None h = refl
point_is (b ∷ bs) None h = elim (eqb_tells b 46) [ inl e ↦ absurd (h bs (ap (λ n. n ∷ bs) e.1)) | inr e ↦ rw e.0 refl ]
point_is [] (Some x) h = absurd (let e : [] ≡ 46 ∷ x.now = h in cc)
point_is (b ∷ bs) (Some x) h = let e : b ∷ bs ≡ 46 ∷ x.now = h in elim (eqb_tells b 46) [ inl t ↦ rw t.0 (let same : x.now ≡ bs = cc in ap Some same) | inr t ↦ absurd (t.1 cc) ]
