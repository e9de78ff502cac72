-- What was read of a number that is refused begins a number that is wanted.
use Rattle.std.proofs.Common.{◌≡◌, ℕ, zero, suc, ◌<◌, ◌≤◌, ◌+◌, ◌-◌, ◌*◌, ◌/◌, ◌%◌, ℤ, pos, Bool, true, false, not, cond, ◌&&◌, ◌||◌, List, [], ◌∷◌, ◌++◌, length, get_or, Option, Some, None, Ok, Err, inl, inr, ◌⊎◌, refl, sym, ap, ◌∙◌, arith, codes, leb-true, le-leb, unsigned_abs}
use Rattle.std.specs.Prelude.{is_some, int_le, nat_le}
use Rattle.std.specs.Bool.{beq}
use Rattle.std.specs.Int.{IsGcd, is_negative}
use Rattle.std.specs.List.{list_all, list_any}
use Rattle.std.proofs.Math.Nat.{div-le_self, div-mul-le_self, le-div_iff_mul-le, mod-lt, mul-div-le, mul-le-mul_right, pos_of_dvd_of_pos}
use Rattle.std.proofs.lemmas.Bool.{cases_lt, ne_eqb}
use Rattle.std.proofs.lemmas.List.Folds.{list_all-append}
use Rattle.std.proofs.lemmas.Nat.{div-add-mod'}
use Rattle.std.proofs.lemmas.Nat.Gcd.{dvd_of_mod-eq-zero, le_of_dvd}
use Rattle.gst_value.specs.Fractions.{signed}
use Rattle.gst_value.specs.declared.one.One.{One}
use Rattle.gst_value.specs.declared.one.One.TheVariants.{Fraction}
use Rattle.caps_text.specs.Answers.{Answer, misspelt, ◌>>=◌, found}
use Rattle.caps_text.specs.Bytes.{is_digit}
use Rattle.caps_text.specs.Grammar.{Wanted_number, size_after}
use Rattle.caps_text.specs.Ratio.{divisor, fits, parts, ratio, ratio_of}
use Rattle.caps_text.specs.Reading.{after_byte, behind_minus, can_begin, is_wanted, minus, powers, reaches, reaches_by, read_digits, read_number, read_size, wanted_number}
use Rattle.caps_text.specs.declared.number.Wanted.{Wanted}
use Rattle.caps_text.specs.declared.number.Wanted.TheVariants.{AtLeast, Denominator}
use Rattle.caps_text.proofs.Local.{read_is, refused_is, rest_is}
use Rattle.caps_text.proofs.Numbers.{some_tens, tens, tens_at, wanted_parts}
use Rattle.caps_text.proofs.Ratios.{IsGcd-divisor}
use Rattle.caps_text.proofs.Tokens.{after_byte_is, or_cases as some_or}
use Rattle.gst_value.proofs.Basics.{and_left, and_right}
use Rattle.caps_text.proofs.Viable.{stopped as refused_stop}
use Rattle.gst_value.proofs.Basics.{and_both as and-both}
use Rattle.gst_value.proofs.Fractions.{size_of_signed as abs_signed}

-- some numbers are wanted
abbrev pub Possible : Wanted → Type 0
Possible (AtLeast least) = int_le least (pos 2147483647) ≡ true
Possible (Denominator num) = (negative : Bool) × (size : ℕ) × (fits negative size ≡ true) × (num ≡ signed negative size)

-- digits behind those of a size that make a number that is wanted
abbrev pub Completes : Wanted → Bool → ℕ → List ℕ → Type 0
Completes w negative size ds = (list_all is_digit ds ≡ true) × (fits negative (size_after size ds) ≡ true) × (is_wanted w (signed negative (size_after size ds)) ≡ true)

-- so many digits that write a number
pad : ℕ → ℕ → List ℕ
pad zero r = []
pad (suc k) r = (48 + r / tens k) ∷ pad k (r % tens k)

digit_is : (d : ℕ) → d ≤ 9 → (is_digit (48 + d) ≡ true) × (48 + d - 48 ≡ d)
digit_is d h = (grind arith, omega arith)

first_digit : (k r : ℕ) → r < tens (suc k) → r / tens k ≤ 9
first_digit k r less =
    let some = some_tens k in
    let low = mul-div-le r (tens k) in
    elim (cases_lt (r / tens k) 10) [
      | inl h ↦ omega (arith, h)
      | inr h ↦ absurd (let more : 10 * tens k ≤ r / tens k * tens k = mul-le-mul_right (tens k) h in let less_too = div-mul-le_self r (tens k) in omega (arith, more, less_too, less))
    ]

pad_digits : (k r : ℕ) → r < tens k → list_all is_digit (pad k r) ≡ true
unfolding pad
pad_digits zero r h = refl
pad_digits (suc k) r h = and-both (is_digit (48 + r / tens k)) (list_all is_digit (pad k (r % tens k))) (digit_is (r / tens k) (first_digit k r h)).0 (pad_digits k (r % tens k) (mod-lt r (some_tens k)))

pad_size : (k size r : ℕ) → r < tens k → size_after size (pad k r) ≡ size * tens k + r
unfolding pad
pad_size zero size r h = omega (arith, h)
pad_size (suc k) size r h =
    let d = digit_is (r / tens k) (first_digit k r h) in
    let ih = pad_size k (size * 10 + r / tens k) (r % tens k) (mod-lt r (some_tens k)) in
    ap (λ n. size_after (size * 10 + n) (pad k (r % tens k))) d.1 ∙ ih ∙ sum
  where
    split : r / tens k * tens k + r % tens k ≡ r
    split = div-add-mod' r (tens k)

    sum : (size * 10 + r / tens k) * tens k + r % tens k ≡ size * (10 * tens k) + r
    sum = let s : r / tens k * tens k + r % tens k ≡ r = split in omega (arith, s)

-- one of them
any_found : (p : ℕ → Bool) (xs : List ℕ) → list_any p xs ≡ true → (i : ℕ) × (i < length xs) × (p (get_or xs i 0) ≡ true)
any_found p [] h = absurd (cc)
any_found p (x ∷ xs) h = step (p x) refl (any_found p xs)
  where
    step : (t : Bool) → p x ≡ t → (list_any p xs ≡ true → (i : ℕ) × (i < length xs) × (p (get_or xs i 0) ≡ true)) → (i : ℕ) × (i < suc (length xs)) × (p (get_or (x ∷ xs) i 0) ≡ true)
    step true e ih = (0, omega arith, e)
    step false e ih = let f = ih (sym (ap (λ t. t || list_any p xs) e) ∙ h) in (suc f.0, let less = f.1 in omega (arith, less), f.2)

-- a number from least on, or the largest
reached : (size k : ℕ) (least : ℤ) → int_le least (pos 2147483647) ≡ true → reaches_by size least (tens k) ≡ true → (ds : List ℕ) × Completes (AtLeast least) false size ds
reached size k least top h =
    let some = some_tens k in
    let low : size * tens k ≤ 2147483647 = (le-div_iff_mul-le {k = tens k} {x = size} {y = 2147483647} some).0 (leb-true size (2147483647 / tens k) (and_left (nat_le size (2147483647 / tens k)) (int_le least (pos (size * tens k + (tens k - 1)))) h)) in
    let enough = and_right (nat_le size (2147483647 / tens k)) (int_le least (pos (size * tens k + (tens k - 1)))) h in
    elim (cases_lt (size * tens k + (tens k - 1)) 2147483647) [
      | inl less ↦ made (tens k - 1) (omega (arith, some)) (omega (arith, less)) enough
      | inr over ↦ made (2147483647 - size * tens k) (omega (arith, over, low, some)) (omega (arith, low)) (ap (λ n. int_le least (pos n)) (omega (arith, low)) ∙ top)
    ]
  where
    made : (r : ℕ) → r < tens k → size * tens k + r ≤ 2147483647 → int_le least (pos (size * tens k + r)) ≡ true → (ds : List ℕ) × Completes (AtLeast least) false size ds
    made r less fit wanted =
        let is = pad_size k size r less in
        (pad k r, (pad_digits k r less, ap (fits false) is ∙ le-leb (size * tens k + r) 2147483647 fit, ap (λ n. int_le least (pos n)) is ∙ wanted))

both_fit : (s : Bool) (a b g : ℕ) → IsGcd a b g → a ≤ 2147483648 → b % 2 ≡ 0 → 0 < b → b ≤ 2147483647 → is_some (parts s (a / g) (b / g)) ≡ true
both_fit s a b g h wide even some small =
    let lower = div-le_self b g in
    let below : fits false (b / g) ≡ true = le-leb (b / g) 2147483647 (omega (arith, lower, small)) in
    let above : a / g ≤ 2147483647 = upper (cases_lt a 2147483648) in
    ap (λ t. is_some (cond {A = Option One} t (Some (Fraction (signed s (a / g)) (pos (b / g)))) None)) (and-both (fits s (a / g)) (fits false (b / g)) (fit s (a / g) above) below)
  where
    fit : (s : Bool) (n : ℕ) → n ≤ 2147483647 → fits s n ≡ true
    fit true n k = le-leb n 2147483648 (omega (arith, k))
    fit false n k = le-leb n 2147483647 k

    two : a ≡ 2147483648 → 2 ≤ g
    two e = let some_g : 0 < g = pos_of_dvd_of_pos h.1 some in le_of_dvd some_g (h.2 2 (dvd_of_mod-eq-zero 2 (ap (λ n. n % 2) e)) (dvd_of_mod-eq-zero 2 even))

    upper : (a < 2147483648) ⊎ (2147483648 ≤ a) → a / g ≤ 2147483647
    upper (inl less) = let l = div-le_self a g in omega (arith, l, less)
    upper (inr full) =
        let is : a ≡ 2147483648 = omega (arith, full, wide) in
        let least : 2 * (a / g) ≤ g * (a / g) = mul-le-mul_right (a / g) (two is) in
        let most = mul-div-le a g in
        omega (arith, least, most, wide)

pub even_ratio : (num : ℤ) (negative : Bool) (b : ℕ) → Possible (Denominator num) → b % 2 ≡ 0 → 0 < b → b ≤ 2147483647 → is_some (ratio num (signed negative b)) ≡ true
even_ratio num negative b h even some small =
    let above : unsigned_abs num ≡ h.1 = ap unsigned_abs h.3 ∙ abs_signed h.0 h.1 in
    let below : unsigned_abs (signed negative b) ≡ b = abs_signed negative b in
    go (not (beq (is_negative num) (is_negative (signed negative b)))) (unsigned_abs num) (unsigned_abs (signed negative b)) (omega (arith, above, size)) below
  where
    size : h.1 ≤ 2147483648
    size = most h.0 h.1 h.2
      where
        most : (s : Bool) (n : ℕ) → fits s n ≡ true → n ≤ 2147483648
        most true n k = leb-true n 2147483648 k
        most false n k = let l = leb-true n 2147483647 k in omega (arith, l)

    go : (s : Bool) (x y : ℕ) → x ≤ 2147483648 → y ≡ b → is_some (ratio_of s x y (divisor x y)) ≡ true
    go s x y wide e =
        ap (λ n. is_some (ratio_of s x n (divisor x n))) e
        ∙ ap (λ t. is_some (cond {A = Option One} t None (parts s (x / divisor x b) (b / divisor x b)))) (ne_eqb b 0 (λ z. omega (arith, z, some)))
        ∙ both_fit s x b (divisor x b) (IsGcd-divisor x b) wide even some small

even_ten : (size : ℕ) → (size * 10 + 2) % 2 ≡ 0
even_ten size = omega arith

-- what can begin a number that is wanted does
completed : (w : Wanted) (negative : Bool) (size : ℕ) → Possible w → can_begin w negative size ≡ true → (ds : List ℕ) × Completes w negative size ds
unfolding can_begin reaches
completed (AtLeast least) true size p h = ([], (refl, and_left (nat_le size 2147483648) (int_le least (signed true size)) h, and_right (nat_le size 2147483648) (int_le least (signed true size)) h))
completed (AtLeast least) false size p h =
    let f = any_found (reaches_by size least) powers h in
    reached size f.0 least p (sym (ap (reaches_by size least) (tens_at f.0 f.1)) ∙ f.2)
completed (Denominator num) negative size p h = some_or (nat_le size 214748364) (is_some (wanted_number (Denominator num) negative size)) ((ds : List ℕ) × Completes (Denominator num) negative size ds)
    (λ e. let small = leb-true size 214748364 e in (codes "2", (refl, two negative (omega (arith, small)), even_ratio num negative (size * 10 + 2) p (even_ten size) (omega arith) (omega (arith, small)))))
    (λ e. whole (wanted_number (Denominator num) negative size) refl e)
    h
  where
    two : (s : Bool) → size * 10 + 2 ≤ 2147483647 → fits s (size * 10 + 2) ≡ true
    two true k = le-leb (size * 10 + 2) 2147483648 (omega (arith, k))
    two false k = le-leb (size * 10 + 2) 2147483647 k

    whole : (o : Option ℤ) → wanted_number (Denominator num) negative size ≡ o → is_some o ≡ true → (ds : List ℕ) × Completes (Denominator num) negative size ds
    whole None e k = absurd (cc)
    whole (Some n) e k = let q = wanted_parts (Denominator num) negative size n e in ([], (refl, q.0, q.1))

-- what was read of digits can begin a number that is wanted
abbrev Can_go_on : Wanted → Bool → ℕ → List ℕ → List ℕ → Type 0
Can_go_on w negative size x rest = (front : List ℕ) × (x ≡ front ++ rest) × (list_all is_digit front ≡ true) × (can_begin w negative (size_after size front) ≡ true)

can_go_on : (w : Wanted) (negative : Bool) (size : ℕ) (x rest : List ℕ) (o : Option ℕ) → can_begin w negative size ≡ true → read_digits w negative size x ≡ found o rest → Can_go_on w negative size x rest
can_go_on w negative size [] rest o can h = let is = read_is (size, []) o rest h in ([], sym is.1, refl, can)
can_go_on w negative size (b ∷ bs) rest o can h = step (is_digit b) (can_begin w negative (size * 10 + (b - 48))) refl refl h (λ c. can_go_on w negative (size * 10 + (b - 48)) bs rest o c)
  where
    step : (s t : Bool) → is_digit b ≡ s → can_begin w negative (size * 10 + (b - 48)) ≡ t → cond s (cond t (read_digits w negative (size * 10 + (b - 48)) bs) (Err (misspelt (b ∷ bs)))) (Ok (size, b ∷ bs)) ≡ found o rest → (can_begin w negative (size * 10 + (b - 48)) ≡ true → read_digits w negative (size * 10 + (b - 48)) bs ≡ found o rest → Can_go_on w negative (size * 10 + (b - 48)) bs rest) → Can_go_on w negative size (b ∷ bs) rest
    step true true e f k ih = let r = ih f k in (b ∷ r.0, ap (λ l. b ∷ l) r.1, ap (λ t. t && list_all is_digit r.0) e ∙ r.2, r.3)
    step true false e f k ih = let is = refused_is (misspelt (b ∷ bs)) o rest k in ([], rest_is (b ∷ bs) rest is.1, refl, can)
    step false t e f k ih = let is = read_is (size, b ∷ bs) o rest k in ([], sym is.1, refl, can)

size_append : (size : ℕ) (xs ys : List ℕ) → size_after size (xs ++ ys) ≡ size_after (size_after size xs) ys
size_append size [] ys = refl
size_append size (b ∷ bs) ys = size_append (size * 10 + (b - 48)) bs ys

-- what was read of a number without its sign
abbrev Sized_on : Wanted → Bool → List ℕ → List ℕ → Type 0
Sized_on w negative y rest = (front more : List ℕ) × (y ≡ front ++ rest) × (0 < length (front ++ more)) × Completes w negative 0 (front ++ more)

at_start : (w : Wanted) (negative : Bool) (y rest ds : List ℕ) → 0 < length ds → Completes w negative 0 ds → misspelt y ≡ misspelt rest → Sized_on w negative y rest
at_start w negative y rest ds some c e = ([], ds, rest_is y rest e, some, c)

size_on : (w : Wanted) (negative : Bool) (y rest ds : List ℕ) → Possible w → 0 < length ds → Completes w negative 0 ds → read_size w (negative, y) ≡ Err (misspelt rest) → Sized_on w negative y rest
unfolding read_size
size_on w negative [] rest ds p some c h = at_start w negative [] rest ds some c (refused_stop (misspelt []) (misspelt rest) h)
size_on w negative (b ∷ bs) rest ds p some c h = step (is_digit b) refl h
  where
    later : list_all is_digit (b ∷ []) ≡ true → can_begin w negative (0 * 10 + (b - 48)) ≡ true → (o : Option ℕ) → read_digits w negative (0 * 10 + (b - 48)) bs ≡ found o rest → Sized_on w negative (b ∷ bs) rest
    later e f o k =
        let g = can_go_on w negative (0 * 10 + (b - 48)) bs rest o f k in
        let q = completed w negative (size_after (0 * 10 + (b - 48)) g.0) p g.3 in
        let is : size_after 0 (b ∷ (g.0 ++ q.0)) ≡ size_after (size_after (0 * 10 + (b - 48)) g.0) q.0 = size_append (0 * 10 + (b - 48)) g.0 q.0 in
        (b ∷ g.0, q.0, ap (λ l. b ∷ l) g.1, omega arith, (list_all-append is_digit (b ∷ []) (g.0 ++ q.0) ∙ and-both (list_all is_digit (b ∷ [])) (list_all is_digit (g.0 ++ q.0)) e (list_all-append is_digit g.0 q.0 ∙ and-both (list_all is_digit g.0) (list_all is_digit q.0) g.2 q.1.0), ap (fits negative) is ∙ q.1.1, ap (λ n. is_wanted w (signed negative n)) is ∙ q.1.2))

    ended : list_all is_digit (b ∷ []) ≡ true → can_begin w negative (0 * 10 + (b - 48)) ≡ true → (a : Answer ℕ) → read_digits w negative (0 * 10 + (b - 48)) bs ≡ a → (a >>= λ d. found (wanted_number w negative d.0) d.1) ≡ Err (misspelt rest) → Sized_on w negative (b ∷ bs) rest
    ended e f (Err d) k l = later e f None (k ∙ ap Err (refused_stop d (misspelt rest) l))
    ended e f (Ok d) k l = later e f (Some d.0) (k ∙ ap (λ r. Ok (d.0, r)) (none (wanted_number w negative d.0) d.1 l))
      where
        none : (o : Option ℤ) (r : List ℕ) → found o r ≡ Err (misspelt rest) → r ≡ rest
        none None r m = rest_is r rest (refused_stop (misspelt r) (misspelt rest) m)
        none (Some n) r m = absurd (cc)

    digit : (t : Bool) → can_begin w negative (0 * 10 + (b - 48)) ≡ t → is_digit b ≡ true → (cond {A = Answer ℕ} t (read_digits w negative (0 * 10 + (b - 48)) bs) (Err (misspelt (b ∷ bs))) >>= λ d. found (wanted_number w negative d.0) d.1) ≡ Err (misspelt rest) → Sized_on w negative (b ∷ bs) rest
    digit true f e k = ended (ap (λ t. t && true) e) f (read_digits w negative (0 * 10 + (b - 48)) bs) refl k
    digit false f e k = at_start w negative (b ∷ bs) rest ds some c (refused_stop (misspelt (b ∷ bs)) (misspelt rest) k)

    step : (s : Bool) → is_digit b ≡ s → cond {A = Answer ℤ} (is_some (cond {A = Option (ℕ × List ℕ)} s (Some (b - 48, bs)) None)) (cond {A = Answer ℕ} s (cond {A = Answer ℕ} (can_begin w negative (0 * 10 + (b - 48))) (read_digits w negative (0 * 10 + (b - 48)) bs) (Err (misspelt (b ∷ bs)))) (Ok (0, b ∷ bs)) >>= λ d. found (wanted_number w negative d.0) d.1) (Err (misspelt (b ∷ bs))) ≡ Err (misspelt rest) → Sized_on w negative (b ∷ bs) rest
    step true e k = digit (can_begin w negative (0 * 10 + (b - 48))) refl e k
    step false e k = at_start w negative (b ∷ bs) rest ds some c (refused_stop (misspelt (b ∷ bs)) (misspelt rest) k)

-- digits that make a number that is wanted, where none were read
first_digits : (w : Wanted) (negative : Bool) → Possible w → (negative ≡ true → can_begin w true 0 ≡ true) → (ds : List ℕ) × (0 < length ds) × Completes w negative 0 ds
unfolding can_begin
first_digits (AtLeast least) true p can = let h = can refl in (codes "0", omega arith, (refl, refl, and_right (nat_le 0 2147483648) (int_le least (signed true 0)) h))
first_digits (AtLeast least) false p can = (codes "2147483647", omega arith, (refl, refl, p))
first_digits (Denominator num) true p can = (codes "2", omega arith, (refl, refl, even_ratio num true 2 p refl (omega arith) (omega arith)))
first_digits (Denominator num) false p can = (codes "2", omega arith, (refl, refl, even_ratio num false 2 p refl (omega arith) (omega arith)))

-- what was read of a number that is refused
pub number_on : (w : Wanted) (x rest : List ℕ) → Possible w → read_number w x ≡ Err (misspelt rest) → (front more : List ℕ) × (n : ℤ) × (x ≡ front ++ rest) × Wanted_number w (front ++ more) n
unfolding read_number minus
number_on w x rest p h = step (can_begin w true 0) refl (after_byte 45 x) refl h
  where
    plain : read_size w (false, x) ≡ Err (misspelt rest) → (front more : List ℕ) × (n : ℤ) × (x ≡ front ++ rest) × Wanted_number w (front ++ more) n
    plain k =
        let d = first_digits w false p (λ e. absurd (cc)) in
        let s = size_on w false x rest d.0 p d.1 d.2 k in
        (s.0, s.1, signed false (size_after 0 (s.0 ++ s.1)), s.2, (inl (size_after 0 (s.0 ++ s.1), (refl, s.3, s.4.0), s.4.1, refl), s.4.2))

    step : (t : Bool) → can_begin w true 0 ≡ t → (o : Option (List ℕ)) → after_byte 45 x ≡ o → read_size w (cond {A = Bool × List ℕ} t (behind_minus x o) (false, x)) ≡ Err (misspelt rest) → (front more : List ℕ) × (n : ℤ) × (x ≡ front ++ rest) × Wanted_number w (front ++ more) n
    step true c (Some y) e k =
        let d = first_digits w true p (λ t. c) in
        let s = size_on w true y rest d.0 p d.1 d.2 k in
        (45 ∷ s.0, s.1, signed true (size_after 0 (s.0 ++ s.1)), after_byte_is 45 x y e ∙ ap (λ l. 45 ∷ l) s.2, (inr (s.0 ++ s.1, size_after 0 (s.0 ++ s.1), refl, (refl, s.3, s.4.0), s.4.1, refl), s.4.2))
    step true c None e k = plain k
    step false c o e k = plain k
