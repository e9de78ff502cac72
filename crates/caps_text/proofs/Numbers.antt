-- Readers of numbers and fractions.
use Rattle.std.proofs.Common.{◌≡◌, ℕ, zero, suc, ◌<◌, ◌≤◌, ◌+◌, ◌-◌, ◌*◌, ◌/◌, ℤ, pos, Bool, true, false, cond, eqb, ◌&&◌, ◌||◌, List, [], ◌∷◌, ◌++◌, length, get_or, Option, Some, None, Ok, Err, inl, inr, refl, sym, ap, ◌∙◌, subst, arith, leb-true, le-leb}
use Rattle.std.specs.Prelude.{is_some, int_le, nat_le}
use Rattle.std.specs.List.{list_all, list_any}
use Rattle.std.proofs.Math.Nat.{mul-le-mul_right, le-div_iff_mul-le}
use Rattle.std.proofs.lemmas.Bool.{cases_lt}
use Rattle.std.proofs.lemmas.Bool.Decides.{eqb_tells}
use Rattle.std.proofs.lemmas.Int.{ints}
use Rattle.std.proofs.lemmas.Option.{same_Some}
use Rattle.gst_value.specs.Fractions.{signed}
use Rattle.caps_text.specs.Answers.{Answer, misspelt, ◌>>=◌, found}
use Rattle.caps_text.specs.Bytes.{is_digit}
use Rattle.caps_text.specs.Grammar.{Digits, Number, Wanted_number, size_after}
use Rattle.caps_text.specs.Ratio.{fits}
use Rattle.caps_text.specs.Reading.{after_byte, behind_minus, can_begin, digit_at, is_wanted, least_number, minus, powers, reaches, reaches_by, read_digits, read_number, read_size, wanted_number}
use Rattle.caps_text.specs.declared.number.Wanted.{Wanted}
use Rattle.caps_text.specs.declared.number.Wanted.TheVariants.{AtLeast, Denominator}
use Rattle.caps_text.proofs.Choices.{reads_iff}
use Rattle.caps_text.proofs.Readers.{IsReader, Reads_front, Stops, Starts, ok_is, bind_ok, found_ok}
use Rattle.caps_text.proofs.Tokens.{after_byte_is, fits_small as fits_most}
use Rattle.caps_text.proofs.Words.{passes}
use Rattle.gst_value.proofs.Basics.{and_left, and_right, and_both as and-both, or_second as or-right}

-- digits at the front, which write the size
abbrev pub Digits_read : ℕ → List ℕ → List ℕ → ℕ → Type 0
Digits_read size x rest n = (used : List ℕ) × (x ≡ used ++ rest) × (n ≡ size_after size used) × (list_all is_digit used ≡ true) × (is_some (digit_at x) ≡ true → 0 < length used)

digits_can : (w : Wanted) (negative : Bool) (size b : ℕ) (bs rest : List ℕ) (n : ℕ) → is_digit b ≡ true → (t : Bool) → cond {A = Answer ℕ} t (read_digits w negative (size * 10 + (b - 48)) bs) (Err (misspelt (b ∷ bs))) ≡ Ok (n, rest) → (read_digits w negative (size * 10 + (b - 48)) bs ≡ Ok (n, rest) → Digits_read (size * 10 + (b - 48)) bs rest n) → Digits_read size (b ∷ bs) rest n
digits_can w negative size b bs rest n e true k f = let r = f k in (b ∷ r.0, ap (λ l. b ∷ l) r.1, r.2, ap (λ t. t && list_all is_digit r.0) e ∙ r.3, λ d. omega arith)
digits_can w negative size b bs rest n e false k f = absurd (cc)

digits_step : (w : Wanted) (negative : Bool) (size b : ℕ) (bs rest : List ℕ) (n : ℕ) → (t : Bool) → is_digit b ≡ t → cond {A = Answer ℕ} t (cond {A = Answer ℕ} (can_begin w negative (size * 10 + (b - 48))) (read_digits w negative (size * 10 + (b - 48)) bs) (Err (misspelt (b ∷ bs)))) (Ok (size, b ∷ bs)) ≡ Ok (n, rest) → (read_digits w negative (size * 10 + (b - 48)) bs ≡ Ok (n, rest) → Digits_read (size * 10 + (b - 48)) bs rest n) → Digits_read size (b ∷ bs) rest n
digits_step w negative size b bs rest n true e k f = digits_can w negative size b bs rest n e (can_begin w negative (size * 10 + (b - 48))) k f
digits_step w negative size b bs rest n false e k f =
    let is = ok_is (size, b ∷ bs) (n, rest) k in
    let no : is_some (digit_at (b ∷ bs)) ≡ false = ap (λ t. is_some (cond {A = Option (ℕ × List ℕ)} t (Some (b - 48, bs)) None)) e in
    ([], ap (λ p. p.1) is, sym (ap (λ p. p.0) is), refl, λ d. absurd (let bad : false ≡ true = sym no ∙ d in cc))

pub digits_sound : (w : Wanted) (negative : Bool) (size : ℕ) (x rest : List ℕ) (n : ℕ) → read_digits w negative size x ≡ Ok (n, rest) → Digits_read size x rest n
digits_sound w negative size [] rest n h = let is = ok_is (size, []) (n, rest) h in ([], ap (λ p. p.1) is, sym (ap (λ p. p.0) is), refl, λ e. absurd (cc))
digits_sound w negative size (b ∷ bs) rest n h = digits_step w negative size b bs rest n (is_digit b) refl h (digits_sound w negative (size * 10 + (b - 48)) bs rest n)

-- digits make a size no less
grows : (size : ℕ) (ds : List ℕ) → size ≤ size_after size ds
grows size [] = omega arith
grows size (b ∷ bs) = let later = grows (size * 10 + (b - 48)) bs in omega (arith, later)

ten_fold : (size b : ℕ) (bs : List ℕ) → size * 10 ≤ size_after size (b ∷ bs)
ten_fold size b bs = let later = grows (size * 10 + (b - 48)) bs in omega (arith, later)

-- powers of ten
abbrev pub tens : ℕ → ℕ
tens zero = 1
tens (suc k) = 10 * tens k

pub some_tens : (k : ℕ) → 0 < tens k
some_tens zero = omega arith
some_tens (suc k) = let h = some_tens k in omega (arith, h)

digit_small : (b : ℕ) → is_digit b ≡ true → b - 48 ≤ 9
digit_small b h = grind arith

size_least : (size : ℕ) (ds : List ℕ) → size * tens (length ds) ≤ size_after size ds
size_least size [] = omega arith
size_least size (b ∷ bs) =
    let later = size_least (size * 10 + (b - 48)) bs in
    let more : size * 10 * tens (length bs) ≤ (size * 10 + (b - 48)) * tens (length bs) = mul-le-mul_right (tens (length bs)) (omega arith) in
    omega (arith, later, more)

size_most : (size : ℕ) (ds : List ℕ) → list_all is_digit ds ≡ true → size_after size ds + 1 ≤ (size + 1) * tens (length ds)
size_most size [] h = omega arith
size_most size (b ∷ bs) h =
    let small = digit_small b (and_left (is_digit b) (list_all is_digit bs) h) in
    let later = size_most (size * 10 + (b - 48)) bs (and_right (is_digit b) (list_all is_digit bs) h) in
    let more : (size * 10 + (b - 48) + 1) * tens (length bs) ≤ (size * 10 + 10) * tens (length bs) = mul-le-mul_right (tens (length bs)) (omega (arith, small)) in
    omega (arith, later, more)

any_at : (p : ℕ → Bool) (xs : List ℕ) (i : ℕ) → i < length xs → p (get_or xs i 0) ≡ true → list_any p xs ≡ true
any_at p [] i less h = absurd (omega (arith, less))
any_at p (x ∷ xs) zero less h = ap (λ t. t || list_any p xs) h
any_at p (x ∷ xs) (suc i) less h = step (p x) (any_at p xs i (omega (arith, less)) h)
  where
    step : (t : Bool) → list_any p xs ≡ true → (t || list_any p xs) ≡ true
    step true k = refl
    step false k = k

-- the powers of ten that are tried
pub tens_at : (k : ℕ) → k < 11 → get_or powers k 0 ≡ tens k
tens_at zero h = refl
tens_at (suc zero) h = refl
tens_at (suc (suc zero)) h = refl
tens_at (suc (suc (suc zero))) h = refl
tens_at (suc (suc (suc (suc zero)))) h = refl
tens_at (suc (suc (suc (suc (suc zero))))) h = refl
tens_at (suc (suc (suc (suc (suc (suc zero)))))) h = refl
tens_at (suc (suc (suc (suc (suc (suc (suc zero))))))) h = refl
tens_at (suc (suc (suc (suc (suc (suc (suc (suc zero)))))))) h = refl
tens_at (suc (suc (suc (suc (suc (suc (suc (suc (suc zero))))))))) h = refl
tens_at (suc (suc (suc (suc (suc (suc (suc (suc (suc (suc zero)))))))))) h = refl
tens_at (suc (suc (suc (suc (suc (suc (suc (suc (suc (suc (suc k))))))))))) h = absurd (omega (arith, h))

-- whole numbers in order
le_up : (least : ℤ) (m n : ℕ) → int_le least (pos m) ≡ true → m ≤ n → int_le least (pos n) ≡ true
le_up least m n h less = grind (arith, ints)

le_down : (least : ℤ) (m n : ℕ) → int_le least (signed true n) ≡ true → m ≤ n → int_le least (signed true m) ≡ true
le_down least m n h less = grind (arith, ints)

reaches_at : (size : ℕ) (least : ℤ) (p v : ℕ) → 0 < p → size * p ≤ v → v + 1 ≤ (size + 1) * p → v ≤ 2147483647 → int_le least (pos v) ≡ true → reaches_by size least p ≡ true
reaches_at size least p v some low high fit h =
    let first : size ≤ 2147483647 / p = (le-div_iff_mul-le {k = p} {x = size} {y = 2147483647} some).1 (omega (arith, low, fit)) in
    let up : v ≤ size * p + (p - 1) = omega (arith, high, some) in
    and-both (nat_le size (2147483647 / p)) (int_le least (pos (size * p + (p - 1)))) (le-leb size (2147483647 / p) first) (le_up least v (size * p + (p - 1)) h up)

-- no digits follow so many that the size would be too large
tens_rise : (j k : ℕ) → j ≤ k → tens j ≤ tens k
tens_rise j zero h = let e : j ≡ 0 = omega (arith, h) in subst (λ n. tens n ≤ 1) (sym e) (omega arith)
tens_rise j (suc k) h = elim (cases_lt j (suc k)) [
  | inl less ↦ let ih = tens_rise j k (omega (arith, less)) in omega (arith, ih)
  | inr same ↦ let e : j ≡ suc k = omega (arith, same, h) in subst (λ n. tens n ≤ tens (suc k)) (sym e) (omega arith)
]

too_long : (size k v : ℕ) → 11 ≤ k → size * tens k ≤ v → v ≤ 2147483647 → size ≡ 0
too_long zero k v h low fit = refl
too_long (suc m) k v h low fit =
    let large : 100000000000 ≤ tens k = tens_rise 11 k h in
    let one : 1 * tens k ≤ suc m * tens k = mul-le-mul_right (tens k) (omega arith) in
    absurd (omega (arith, large, one, low, fit))

-- whether the digits of a number from least on begin with those of size: such digits do
can_reach : (size : ℕ) (least : ℤ) (ds : List ℕ) → list_all is_digit ds ≡ true → size_after size ds ≤ 2147483647 → int_le least (pos (size_after size ds)) ≡ true → reaches size least ≡ true
unfolding reaches
can_reach size least ds digits fit h = elim (cases_lt (length ds) 11) [
  | inl few ↦
      let p = tens_at (length ds) few in
      any_at (reaches_by size least) powers (length ds) few (ap (reaches_by size least) p ∙ reaches_at size least (tens (length ds)) (size_after size ds) (some_tens (length ds)) (size_least size ds) (size_most size ds digits) fit h)
  | inr long ↦
      let nil : size ≡ 0 = too_long size (length ds) (size_after size ds) long (size_least size ds) fit in
      any_at (reaches_by size least) powers 10 (omega arith) (ap (λ n. reaches_by n least 10000000000) nil ∙ reaches_at 0 least 10000000000 2147483647 (omega arith) (omega arith) (omega arith) (omega arith) (le_up least (size_after size ds) 2147483647 h fit))
]

-- what a wanted number says
pub wanted_parts : (w : Wanted) (negative : Bool) (size : ℕ) (n : ℤ) → wanted_number w negative size ≡ Some n → (fits negative size ≡ true) × (is_wanted w (signed negative size) ≡ true) × (n ≡ signed negative size)
unfolding wanted_number
wanted_parts w negative size n h = step (fits negative size) (is_wanted w (signed negative size)) h
  where
    step : (a b : Bool) → cond {A = Option ℤ} (a && b) (Some (signed negative size)) None ≡ Some n → (a ≡ true) × (b ≡ true) × (n ≡ signed negative size)
    step true true k = (refl, refl, sym (same_Some (signed negative size) n k))
    step true false k = absurd (cc)
    step false b k = absurd (cc)

wanted_whole : (w : Wanted) (negative : Bool) (size : ℕ) → fits negative size ≡ true → is_wanted w (signed negative size) ≡ true → wanted_number w negative size ≡ Some (signed negative size)
unfolding wanted_number
wanted_whole w negative size f g = ap (λ t. cond {A = Option ℤ} t (Some (signed negative size)) None) (and-both (fits negative size) (is_wanted w (signed negative size)) f g)

-- where more digits make a number that is wanted, the size can begin it
viable : (w : Wanted) (negative : Bool) (size : ℕ) (ds : List ℕ) → list_all is_digit ds ≡ true → fits negative (size_after size ds) ≡ true → is_wanted w (signed negative (size_after size ds)) ≡ true → can_begin w negative size ≡ true
unfolding can_begin
viable (AtLeast least) true size ds digits f g =
    let more = grows size ds in
    let most = leb-true (size_after size ds) 2147483648 f in
    and-both (nat_le size 2147483648) (int_le least (signed true size)) (le-leb size 2147483648 (omega (arith, more, most))) (le_down least size (size_after size ds) g more)
viable (AtLeast least) false size ds digits f g = can_reach size least ds digits (leb-true (size_after size ds) 2147483647 f) g
viable (Denominator num) negative size [] digits f g = or-right (nat_le size 214748364) (is_some (wanted_number (Denominator num) negative size)) (ap is_some (wanted_whole (Denominator num) negative size f g))
viable (Denominator num) negative size (b ∷ bs) digits f g =
    let more = ten_fold size b bs in
    let most = fits_most negative (size_after size (b ∷ bs)) f in
    ap (λ t. t || is_some (wanted_number (Denominator num) negative size)) (le-leb size 214748364 (omega (arith, more, most)))

pub digits_complete : (w : Wanted) (negative : Bool) (size : ℕ) (used rest : List ℕ) → list_all is_digit used ≡ true → Stops is_digit rest → fits negative (size_after size used) ≡ true → is_wanted w (signed negative (size_after size used)) ≡ true → read_digits w negative size (used ++ rest) ≡ Ok (size_after size used, rest)
digits_complete w negative size [] [] h stop f g = refl
digits_complete w negative size [] (b ∷ bs) h stop f g = ap (λ t. cond {A = Answer ℕ} t (cond {A = Answer ℕ} (can_begin w negative (size * 10 + (b - 48))) (read_digits w negative (size * 10 + (b - 48)) bs) (Err (misspelt (b ∷ bs)))) (Ok (size, b ∷ bs))) stop
digits_complete w negative size (b ∷ bs) rest h stop f g =
    let one = and_left (is_digit b) (list_all is_digit bs) h in
    let others = and_right (is_digit b) (list_all is_digit bs) h in
    ap (λ t. cond {A = Answer ℕ} t (cond {A = Answer ℕ} (can_begin w negative (size * 10 + (b - 48))) (read_digits w negative (size * 10 + (b - 48)) (bs ++ rest)) (Err (misspelt (b ∷ (bs ++ rest))))) (Ok (size, b ∷ (bs ++ rest)))) one
    ∙ ap (λ t. cond {A = Answer ℕ} t (read_digits w negative (size * 10 + (b - 48)) (bs ++ rest)) (Err (misspelt (b ∷ (bs ++ rest))))) (viable w negative (size * 10 + (b - 48)) bs others f g)
    ∙ digits_complete w negative (size * 10 + (b - 48)) bs rest others stop f g

-- digits and the number that they write with a sign
Sized : Wanted → Bool → List ℕ → ℤ → List ℕ → Type 0
Sized w negative y n rest = (digits : List ℕ) × (size : ℕ) × (y ≡ digits ++ rest) × Digits digits size × (fits negative size ≡ true) × (is_wanted w (signed negative size) ≡ true) × (n ≡ signed negative size)

size_sound : (w : Wanted) (negative : Bool) (y rest : List ℕ) (n : ℤ) → read_size w (negative, y) ≡ Ok (n, rest) → Sized w negative y n rest
unfolding read_size Sized
size_sound w negative y rest n h = step (is_some (digit_at y)) refl h
  where
    step : (t : Bool) → is_some (digit_at y) ≡ t → cond {A = Answer ℤ} t (read_digits w negative 0 y >>= λ d. found (wanted_number w negative d.0) d.1) (Err (misspelt y)) ≡ Ok (n, rest) → Sized w negative y n rest
    step true e k =
        let b = bind_ok (read_digits w negative 0 y) (λ d. found (wanted_number w negative d.0) d.1) (n, rest) k in
        let d = digits_sound w negative 0 y b.0.1 b.0.0 b.1 in
        let f = found_ok (wanted_number w negative b.0.0) b.0.1 (n, rest) b.2 in
        let p = wanted_parts w negative b.0.0 n f.0 in
        (d.0, b.0.0, d.1 ∙ ap (λ l. d.0 ++ l) f.1, (d.2, d.4 e, d.3), p.0, p.1, p.2)
    step false e k = absurd (cc)

-- what stands first in digits
digits_begin : (digits rest : List ℕ) (size : ℕ) → Digits digits size → is_some (digit_at (digits ++ rest)) ≡ true
digits_begin [] rest size h = absurd (let some = h.1 in omega (arith, some))
digits_begin (b ∷ bs) rest size h = ap (λ t. is_some (cond {A = Option (ℕ × List ℕ)} t (Some (b - 48, bs ++ rest)) None)) (and_left (is_digit b) (list_all is_digit bs) h.2)

size_complete : (w : Wanted) (negative : Bool) (digits rest : List ℕ) (size : ℕ) → Digits digits size → fits negative size ≡ true → is_wanted w (signed negative size) ≡ true → Stops is_digit rest → read_size w (negative, digits ++ rest) ≡ Ok (signed negative size, rest)
unfolding read_size
size_complete w negative digits rest size h f g stop =
    let e = h.0 in
    let whole = digits_complete w negative 0 digits rest h.2 stop (subst (λ s. fits negative s ≡ true) e f) (subst (λ s. is_wanted w (signed negative s) ≡ true) e g) ∙ ap (λ s. Ok (s, rest)) (sym e) in
    ap (λ t. cond {A = Answer ℤ} t (read_digits w negative 0 (digits ++ rest) >>= λ d. found (wanted_number w negative d.0) d.1) (Err (misspelt (digits ++ rest)))) (digits_begin digits rest size h)
    ∙ ap (λ a. a >>= λ d. found (wanted_number w negative d.0) d.1) whole
    ∙ ap (λ o. found o rest) (wanted_whole w negative size f g)

number_sound : (w : Wanted) (x rest : List ℕ) (n : ℤ) → read_number w x ≡ Ok (n, rest) → Reads_front (Wanted_number w) x n rest
unfolding read_number minus Sized
number_sound w x rest n h = step (can_begin w true 0) (after_byte 45 x) refl h
  where
    plain : read_size w (false, x) ≡ Ok (n, rest) → Reads_front (Wanted_number w) x n rest
    plain k = let s = size_sound w false x rest n k in (s.0, s.2, (inl (s.1, s.3, s.4, s.6), ap (is_wanted w) s.6 ∙ s.5))

    step : (t : Bool) (o : Option (List ℕ)) → after_byte 45 x ≡ o → read_size w (cond {A = Bool × List ℕ} t (behind_minus x o) (false, x)) ≡ Ok (n, rest) → Reads_front (Wanted_number w) x n rest
    step true (Some y) e k = let s = size_sound w true y rest n k in (45 ∷ s.0, after_byte_is 45 x y e ∙ ap (λ l. 45 ∷ l) s.2, (inr (s.0, s.1, refl, s.3, s.4, s.6), ap (is_wanted w) s.6 ∙ s.5))
    step true None e k = plain k
    step false o e k = plain k

digit_no_minus : (b : ℕ) → is_digit b ≡ true → eqb b 45 ≡ false
digit_no_minus b h = elim (eqb_tells b 45) [ inl t ↦ absurd (let bad : is_digit 45 ≡ true = subst (λ n. is_digit n ≡ true) t.1 h in cc) | inr t ↦ t.0 ]

no_minus : (digits rest : List ℕ) (size : ℕ) → Digits digits size → after_byte 45 (digits ++ rest) ≡ None
no_minus [] rest size h = absurd (let some = h.1 in omega (arith, some))
no_minus (b ∷ bs) rest size h = ap (λ t. cond {A = Option (List ℕ)} t (Some (bs ++ rest)) None) (digit_no_minus b (and_left (is_digit b) (list_all is_digit bs) h.2))

number_complete : (w : Wanted) (used rest : List ℕ) (n : ℤ) → Wanted_number w used n → Stops is_digit rest → read_number w (used ++ rest) ≡ Ok (n, rest)
unfolding read_number minus
number_complete w used rest n (inl h, g) stop =
    ap (λ o. read_size w (cond {A = Bool × List ℕ} (can_begin w true 0) (behind_minus (used ++ rest) o) (false, used ++ rest))) (no_minus used rest h.0 h.1)
    ∙ same (can_begin w true 0)
    ∙ size_complete w false used rest h.0 h.1 h.2 (sym (ap (is_wanted w) h.3) ∙ g) stop
    ∙ ap (λ z. Ok (z, rest)) (sym h.3)
  where
    same : (t : Bool) → read_size w (cond {A = Bool × List ℕ} t (false, used ++ rest) (false, used ++ rest)) ≡ read_size w (false, used ++ rest)
    same true = refl
    same false = refl
number_complete w used rest n (inr h, g) stop =
    let want : is_wanted w (signed true h.1) ≡ true = sym (ap (is_wanted w) h.5) ∙ g in
    let can : can_begin w true 0 ≡ true = viable w true 0 h.0 h.3.2 (subst (λ s. fits true s ≡ true) h.3.0 h.4) (subst (λ s. is_wanted w (signed true s) ≡ true) h.3.0 want) in
    ap (λ l. read_size w (cond {A = Bool × List ℕ} (can_begin w true 0) (behind_minus (l ++ rest) (after_byte 45 (l ++ rest))) (false, l ++ rest))) h.2
    ∙ ap (λ t. read_size w (cond {A = Bool × List ℕ} t (behind_minus (45 ∷ (h.0 ++ rest)) (after_byte 45 (45 ∷ (h.0 ++ rest)))) (false, 45 ∷ (h.0 ++ rest)))) can
    ∙ ap (λ o. read_size w (behind_minus (45 ∷ (h.0 ++ rest)) o)) (passes 45 (h.0 ++ rest))
    ∙ size_complete w true h.0 rest h.1 h.3 h.4 want stop
    ∙ ap (λ z. Ok (z, rest)) (sym h.5)

pub reads_number : (w : Wanted) → IsReader (Wanted_number w) is_digit (read_number w)
reads_number w = record { sound = number_sound w; complete = number_complete w }

-- every number of 32 bits is at least the least
all_wanted : (negative : Bool) (size : ℕ) → fits negative size ≡ true → is_wanted (AtLeast least_number) (signed negative size) ≡ true
all_wanted true size h = let a = leb-true size 2147483648 h in grind (arith, ints)
all_wanted false size h = grind (arith, ints)

any_number : (text : List ℕ) (n : ℤ) → Number text n → is_wanted (AtLeast least_number) n ≡ true
any_number text n (inl h) = ap (is_wanted (AtLeast least_number)) h.3 ∙ all_wanted false h.0 h.2
any_number text n (inr h) = ap (is_wanted (AtLeast least_number)) h.5 ∙ all_wanted true h.1 h.4

pub reads_any_number : IsReader Number is_digit (read_number (AtLeast least_number))
reads_any_number = reads_iff (Wanted_number (AtLeast least_number)) Number is_digit (read_number (AtLeast least_number)) (λ text n h. h.0) (λ text n h. (h, any_number text n h)) (reads_number (AtLeast least_number))

-- a number begins with a digit or a minus
pub number_starts : (test : ℕ → Bool) (text : List ℕ) (n : ℤ) → ((b : ℕ) → is_digit b ≡ true → test b ≡ false) → test 45 ≡ false → Number text n → Starts test text
number_starts test [] n f e (inl h) = absurd (let some = h.1.1 in omega (arith, some))
number_starts test (b ∷ bs) n f e (inl h) = f b (and_left (is_digit b) (list_all is_digit bs) h.1.2)
number_starts test text n f e (inr h) = subst (Starts test) (sym h.2) e
