-- Bytes, spaces and runs at the front of a text.
use Rattle.std.proofs.Common.{◌≡◌, ◌≢◌, ℕ, ◌<◌, ◌≤◌, ◌+◌, Bool, true, false, cond, List, [], ◌∷◌, length, drop, take, get_or, Option, Some, None, MatchOption, refl, ap, arith, Bor, suc, zero, subst, inl, inr, ◌&&◌, ◌*◌, ◌-◌, ◌/◌, ℤ, leb-true, nat_le, is_some, ◌||◌}
use Rattle.std.specs.List.{take_while, list_any}
use Rattle.std.proofs.Math.Nat.{div-le_self}
use Rattle.std.specs.Option.{option_map}
use Rattle.std.specs.Str.{IsUtf8, IsCharBoundary}
use Rattle.std.proofs.lemmas.Bool.Decides.{eqb_tells}
use Rattle.std.proofs.lemmas.List.Sums.{take_while-cons}
use Rattle.std.proofs.lemmas.Str.{IsCharBoundary-start, IsCharBoundary-after_ascii}
use Rattle.std.proofs.lemmas.Option.{same_Some}
use Rattle.caps_text.specs.Bytes.{in_class, is_digit}
use Rattle.caps_text.specs.Reading.{after_byte, behind_run, run_of, digit_at, read_digits, can_begin, reaches, reaches_by, wanted_number, powers, is_wanted}
use Rattle.caps_text.specs.Ratio.{fits}
use Rattle.gst_value.specs.Fractions.{signed}
use Rattle.caps_text.specs.declared.number.Wanted.{Wanted}
use Rattle.caps_text.specs.declared.number.Wanted.TheVariants.{AtLeast, Denominator}
use Rattle.caps_text.specs.declared.class.Class.{Class}
use Rattle.caps_text.specs.declared.class.Class.TheVariants.{Media, Name, Word}
use Rattle.gst_value.proofs.Basics.{and_left}

-- what `strip_prefix` gives at a character
pub after_of : (c : ℕ) (bs : List ℕ) (r : Option (Bor (List ℕ))) → MatchOption r ((rest : List ℕ) → bs ≢ c ∷ rest) (λ x. bs ≡ c ∷ x.now) → option_map (λ x. x.now) r ≡ after_byte c bs
after_of c [] None h = refl
after_of c (b ∷ bs) None h = elim (eqb_tells b c) [ inl e ↦ absurd (h bs (ap (λ n. n ∷ bs) e.1)) | inr e ↦ rw e.0 refl ]
after_of c [] (Some x) h = absurd (let e : [] ≡ c ∷ x.now = h in cc)
after_of c (b ∷ bs) (Some x) h = let e : b ∷ bs ≡ c ∷ x.now = h in elim (eqb_tells b c) [ inl t ↦ rw t.0 (let same : x.now ≡ bs = cc in ap Some same) | inr t ↦ absurd (t.1 cc) ]

-- what stands behind a byte is shorter by it
pub after_byte_is : (mark : ℕ) (x rest : List ℕ) → after_byte mark x ≡ Some rest → x ≡ mark ∷ rest
after_byte_is mark [] rest h = absurd (cc)
after_byte_is mark (b ∷ bs) rest h = elim (eqb_tells b mark) [
  | inl t ↦ let e : Some bs ≡ Some rest = rw (t.0) at h in let same : bs ≡ rest = cc in λ i. t.1 i ∷ same i
  | inr t ↦ absurd (let e : None ≡ Some rest = rw (t.0) at h in cc)
]

-- the bytes of a class are ASCII
class_ascii : (class : Class) (b : ℕ) → in_class class b ≡ true → b < 128
class_ascii Media b h = grind arith
class_ascii Name b h = grind arith
class_ascii Word b h = grind arith

-- a run is a front of the text, and what is behind it the rest
run_cons : (class : Class) (b : ℕ) (bs : List ℕ) → take_while (in_class class) (b ∷ bs) ≡ cond (in_class class b) (b ∷ take_while (in_class class) bs) []
run_cons class b bs = take_while-cons (in_class class) b bs

pub behind_run_is : (class : Class) (x : List ℕ) → drop (length (take_while (in_class class) x)) x ≡ behind_run class x
behind_run_is class [] = refl
behind_run_is class (b ∷ bs) = rw (run_cons class b bs) (more (behind_run_is class bs) (in_class class b))
  where
    more : drop (length (take_while (in_class class) bs)) bs ≡ behind_run class bs → (t : Bool) → drop (length (cond t (b ∷ take_while (in_class class) bs) [])) (b ∷ bs) ≡ cond t (behind_run class bs) (b ∷ bs)
    more h true = h
    more h false = refl

-- the bytes of a run are ASCII
pub run_ascii : (class : Class) (x : List ℕ) (k : ℕ) → k < length (take_while (in_class class) x) → (k < length x) × (get_or x k 0 < 128)
run_ascii class [] k h = absurd (omega (arith, h))
run_ascii class (b ∷ bs) k h = step (run_ascii class bs) (in_class class b) refl k (rw (run_cons class b bs) at h)
  where
    step : ((k : ℕ) → k < length (take_while (in_class class) bs) → (k < length bs) × (get_or bs k 0 < 128)) → (t : Bool) → in_class class b ≡ t → (k : ℕ) → k < length (cond t (b ∷ take_while (in_class class) bs) []) → (k < length (b ∷ bs)) × (get_or (b ∷ bs) k 0 < 128)
    step ih true e zero h = (omega arith, class_ascii class b e)
    step ih true e (suc k) h = let r = ih k (omega (arith, h)) in (omega (arith, r.0), r.1)
    step ih false e k h = absurd (omega (arith, h))

pub run_boundary : (class : Class) (x : List ℕ) (n : ℕ) → IsUtf8 x → n ≡ length (take_while (in_class class) x) → IsCharBoundary x n
run_boundary class x zero u e = IsCharBoundary-start x u
run_boundary class x (suc k) u e = let at = run_ascii class x k (omega (arith, e)) in subst (IsCharBoundary x) (omega arith) (IsCharBoundary-after_ascii x k u at.0 at.1)

-- a digit at the front is ASCII, so that the text may be cut behind it
digit_ascii : (b : ℕ) → is_digit b ≡ true → b < 128
digit_ascii b h = grind arith

pub digit_boundary : (x : List ℕ) (b : ℕ) → IsUtf8 x → 0 < length x → get_or x 0 0 ≡ b → is_digit b ≡ true → IsCharBoundary x 1
digit_boundary x b u some e h = IsCharBoundary-after_ascii x 0 u some (let small = digit_ascii b h in omega (arith, small, e))

-- one digit more
pub digits_step : (w : Wanted) (negative : Bool) (size : ℕ) (x : List ℕ) (d : ℕ) (y : List ℕ) → digit_at x ≡ Some (d, y) → can_begin w negative (size * 10 + d) ≡ true → read_digits w negative size x ≡ read_digits w negative (size * 10 + d) y
digits_step w negative size [] d y h can = absurd (cc)
digits_step w negative size (b ∷ bs) d y h can = step (is_digit b) refl
  where
    step : (t : Bool) → is_digit b ≡ t → read_digits w negative size (b ∷ bs) ≡ read_digits w negative (size * 10 + d) y
    step true e =
        let is : Some (b - 48, bs) ≡ Some (d, y) = rw e at h in
        let both = same_Some {A = ℕ × List ℕ} (b - 48, bs) (d, y) is in
        let first : b - 48 ≡ d = ap (λ p. p.0) both in
        let second : bs ≡ y = ap (λ p. p.1) both in
        rw (e, first, can, second) refl
    step false e = absurd (let is : None ≡ Some (d, y) = rw e at h in cc)

-- a size that can begin a number is at most that of the least number
pub small_reach : (ps : List ℕ) (size : ℕ) (least : ℤ) → list_any (reaches_by size least) ps ≡ true → size ≤ 2147483647
small_reach [] size least h = absurd (cc)
small_reach (p ∷ ps) size least h = step (nat_le size (2147483647 / p)) refl (small_reach ps size least)
  where
    step : (t : Bool) → nat_le size (2147483647 / p) ≡ t → (list_any (reaches_by size least) ps ≡ true → size ≤ 2147483647) → size ≤ 2147483647
    step true e ih = let a = leb-true size (2147483647 / p) e in let b = div-le_self 2147483647 p in omega (arith, a, b)
    step false e ih = ih (rw e at h)

pub fits_small : (negative : Bool) (size : ℕ) → fits negative size ≡ true → size ≤ 2147483648
fits_small true size h = leb-true size 2147483648 h
fits_small false size h = let a = leb-true size 2147483647 h in omega (arith, a)

pub or_cases : (a b : Bool) (P : Type 0) → (a ≡ true → P) → (b ≡ true → P) → (a || b) ≡ true → P
or_cases true b P f g h = f refl
or_cases false b P f g h = g h

some_cond : {A : Type 0} (a b : Bool) (x : A) → is_some (cond (a && b) (Some x) None) ≡ true → a ≡ true
some_cond true b x h = refl
some_cond false b x h = h

pub small_begin : (w : Wanted) (negative : Bool) (size : ℕ) → can_begin w negative size ≡ true → size ≤ 2147483648
unfolding can_begin reaches wanted_number
small_begin (AtLeast least) true size h = leb-true size 2147483648 (and_left _ _ h)
small_begin (AtLeast least) false size h = let a = small_reach powers size least h in omega (arith, a)
small_begin (Denominator num) negative size h = or_cases (nat_le size 214748364) (is_some (wanted_number (Denominator num) negative size)) (size ≤ 2147483648) (λ e. let a = leb-true size 214748364 e in omega (arith, a)) (λ e. fits_small negative size (some_cond (fits negative size) (is_wanted (Denominator num) (signed negative size)) (signed negative size) e)) h

-- the front that is cut off is the run
pub run_is : (class : Class) (x : List ℕ) → take (length (take_while (in_class class) x)) x ≡ run_of class x
run_is class [] = refl
run_is class (b ∷ bs) = rw (run_cons class b bs) (more (run_is class bs) (in_class class b))
  where
    more : take (length (take_while (in_class class) bs)) bs ≡ run_of class bs → (t : Bool) → take (length (cond t (b ∷ take_while (in_class class) bs) [])) (b ∷ bs) ≡ cond t (b ∷ run_of class bs) []
    more h true = ap (λ l. b ∷ l) h
    more h false = refl
