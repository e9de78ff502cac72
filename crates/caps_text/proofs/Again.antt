-- What is printed stands for what was printed: numbers, strings and single values.
use Rattle.std.proofs.Common.{◌≡◌, ◌≢◌, ℕ, suc, zero, ◌<◌, ◌/◌, ◌^◌, ◌<ℤ◌, ℤ, pos, negsuc, Bool, true, false, cond, eqb, ◌||◌, not, List, [], ◌∷◌, ◌++◌, length, Option, Some, None, SomeIff, FitsSigned, unsigned_abs, inl, inr, ◌⊎◌, refl, sym, ap, ◌∙◌, subst, arith, append_assoc, codes, leb-true, le-ltb}
use Rattle.std.specs.Prelude.{int_le}
use Rattle.std.specs.Bool.{beq}
use Rattle.std.specs.Fmt.{decimal, signed_decimal}
use Rattle.std.specs.Int.{IsInRange, is_negative, w32}
use Rattle.std.specs.List.{list_all}
use Rattle.std.specs.Ordering.{int_eq}
use Rattle.std.proofs.Math.Nat.{div-one}
use Rattle.std.proofs.lemmas.Bool.{eqb-false}
use Rattle.std.proofs.lemmas.Bool.Decides.{eqb_tells}
use Rattle.std.proofs.lemmas.Fmt.{decimal_nonempty, digits_decimal, digits_value-decimal}
use Rattle.std.proofs.lemmas.Int.{ints}
use Rattle.std.proofs.lemmas.Str.Parse.{IsDigitsTest, FoldsDigits, IsNumeralModel, numerals_by_fold}
use Rattle.gst_value.specs.Fractions.{IsReduced, signed}
use Rattle.gst_value.specs.Values.{IsLowest}
use Rattle.gst_value.specs.declared.one.One.{One}
use Rattle.gst_value.specs.declared.one.One.TheVariants.{Int, Bool as Truth, Text, Fraction, IntRange}
use Rattle.caps_text.specs.Bytes.{in_class, is_digit, is_word}
use Rattle.caps_text.specs.Grammar.{Digits, Number, Quotient, Quoted, Some_string, Truth_value, Single_value, Range, Member, size_after}
use Rattle.caps_text.specs.Kinds.{kind_of}
use Rattle.caps_text.specs.Printed.{escaped, one_text, string_text, truth_text}
use Rattle.caps_text.specs.Ratio.{divisor, fits, parts, ratio}
use Rattle.caps_text.specs.Reading.{range}
use Rattle.caps_text.specs.declared.class.Class.TheVariants.{Word}
use Rattle.caps_text.specs.declared.kind.Kind.{Kind}
use Rattle.caps_text.specs.declared.kind.Kind.TheVariants.{Int as Whole, Bool as Either, Text as Words, Fraction as Quotients}
use Rattle.caps_text.proofs.Ratios.{fits_from, fits_to, ratio_found}
use Rattle.caps_text.proofs.Valid.{parts_when, ratio_kind_is, ratio_single}
use Rattle.gst_value.proofs.Basics.{and_left, and_right, and_both as and-both}

-- decimal digits
digit_range : (b : ℕ) → is_digit b ≡ true → IsInRange 48 57 b
digit_range b h = grind arith

range_digit : (b : ℕ) → IsInRange 48 57 b → is_digit b ≡ true
range_digit b h = grind arith

digits_test : IsDigitsTest (λ ds. list_all is_digit ds ≡ true)
digits_test = record {
  empty = refl;
  parts = λ c cs h. (digit_range c (and_left (is_digit c) (list_all is_digit cs) h), and_right (is_digit c) (list_all is_digit cs) h);
  more = λ c cs r h. and-both (is_digit c) (list_all is_digit cs) (range_digit c r) h;
}

folds : FoldsDigits size_after
folds = record { empty = λ n. refl; more = λ n c cs r. refl }

own : IsNumeralModel (λ ds. list_all is_digit ds ≡ true) (size_after 0)
own = numerals_by_fold (λ ds. list_all is_digit ds ≡ true) digits_test size_after folds

decimal_digits : (n : ℕ) → n < 2 ^ 64 → Digits (decimal n) n
decimal_digits n h = (sym (digits_value-decimal own n h), decimal_nonempty n h, digits_decimal own n h)

-- numbers of 32 bits
minus_suc : (k : ℕ) → signed true (suc k) ≡ negsuc k
minus_suc k = grind (arith, ints)

pub number_text : (n : ℤ) → FitsSigned w32 n → Number (signed_decimal n) n
number_text (pos n) h =
    let fit : fits false n ≡ true = fits_to false n h in
    let most = leb-true n 2147483647 fit in
    inl (n, decimal_digits n (omega (arith, most)), fit, refl)
number_text (negsuc k) h =
    let is = minus_suc k in
    let fit : fits true (suc k) ≡ true = fits_to true (suc k) (subst (FitsSigned w32) (sym is) h) in
    let most = leb-true (suc k) 2147483648 fit in
    inr (decimal (suc k), suc k, refl, decimal_digits (suc k) (omega (arith, most)), fit, sym is)

pub number_fits : (text : List ℕ) (n : ℤ) → Number text n → FitsSigned w32 n
number_fits text n (inl h) = subst (FitsSigned w32) (sym h.3) (fits_from false h.0 h.2)
number_fits text n (inr h) = subst (FitsSigned w32) (sym h.5) (fits_from true h.1 h.4)

-- strings
quoted_text : (t : List ℕ) → Quoted (escaped t) t
quoted_text [] = refl
quoted_text (b ∷ bs) = step (quoted_text bs) (eqb b 34) (eqb b 92) refl refl
  where
    step : Quoted (escaped bs) bs → (s u : Bool) → eqb b 34 ≡ s → eqb b 92 ≡ u → (rest : List ℕ) × (((cond (s || u) (92 ∷ b ∷ []) (b ∷ []) ++ escaped bs ≡ b ∷ rest) × (b ≢ 34) × (b ≢ 92)) ⊎ (cond (s || u) (92 ∷ b ∷ []) (b ∷ []) ++ escaped bs ≡ 92 ∷ b ∷ rest)) × Quoted rest bs
    step ih true u e f = (escaped bs, inr refl, ih)
    step ih false true e f = (escaped bs, inr refl, ih)
    step ih false false e f = (escaped bs, inl (refl, eqb-false b 34 e, eqb-false b 92 f), ih)

not_zero : (n : ℕ) → not (eqb n 0) ≡ true → 0 < n
not_zero zero h = absurd (cc)
not_zero (suc n) h = omega arith

pub string_again : (t : List ℕ) → Some_string (string_text t) t
string_again t = step (is_word t) refl
  where
    step : (s : Bool) → is_word t ≡ s → Some_string (cond s t (34 ∷ (escaped t ++ 34 ∷ []))) t
    step true e = inl (refl, not_zero (length t) (and_left (not (eqb (length t) 0)) (list_all (in_class Word) t) e), and_right (not (eqb (length t) 0)) (list_all (in_class Word) t) e)
    step false e = inr (escaped t, refl, quoted_text t)

truth_again : (b : Bool) → Truth_value (truth_text b) b
truth_again true = inl (refl, refl)
truth_again false = inr (refl, refl)

-- a single value that some text stands for
abbrev pub Fine : One → Type 0
Fine (Int n) = FitsSigned w32 n
Fine (Truth b) = Unit {0}
Fine (Text t) = Unit {0}
Fine (Fraction a b) = FitsSigned w32 a × FitsSigned w32 b × IsLowest a b
Fine (IntRange l h) = FitsSigned w32 l × FitsSigned w32 h × (int_le l h ≡ true) × (int_eq l h ≡ false)

-- fractions
no_minus : (n : ℕ) → is_negative (pos n) ≡ false
no_minus n = le-ltb n 0 (omega arith)

same_sign : (a : ℤ) → a ≡ signed (is_negative a) (unsigned_abs a)
same_sign (pos n) = sym (ap (λ t. signed t n) (no_minus n))
same_sign (negsuc k) = sym (minus_suc k)

over_one : (a b : ℤ) → pos 0 <ℤ b → not (beq (is_negative a) (is_negative b)) ≡ is_negative a
over_one a (pos n) h = ap (λ t. not (beq (is_negative a) t)) (no_minus n) ∙ step (is_negative a)
  where
    step : (t : Bool) → not (beq t false) ≡ t
    step true = refl
    step false = refl
over_one a (negsuc k) h = absurd (omega (arith, ints, h))

positive_abs : (b : ℤ) → pos 0 <ℤ b → b ≡ pos (unsigned_abs b)
positive_abs (pos n) h = refl
positive_abs (negsuc k) h = absurd (omega (arith, ints, h))

reduced_again : (a b : ℤ) → IsLowest a b → IsReduced a b a b
reduced_again a b l = record {
  divisor = 1;
  greatest = l.lowest;
  numerator = same_sign a ∙ (λ i. signed (sym (over_one a b l.positive) i) (sym (div-one (unsigned_abs a)) i));
  denominator = positive_abs b l.positive ∙ ap pos (sym (div-one (unsigned_abs b)));
}

ratio_again : (a b : ℤ) → FitsSigned w32 a → FitsSigned w32 b → IsLowest a b → ratio a b ≡ Some (Fraction a b)
ratio_again a b f g l = sym (ratio_found a b a b (reduced_again a b l) l.positive f g)

quotient_again : (a b : ℤ) → FitsSigned w32 a → FitsSigned w32 b → IsLowest a b → Quotient (signed_decimal a ++ codes "/" ++ signed_decimal b) (Fraction a b)
quotient_again a b f g l =
    (signed_decimal a, 47 ∷ signed_decimal b, a, append_assoc (signed_decimal a) (47 ∷ []) (signed_decimal b), number_text a f, (47 ∷ [], signed_decimal b, tt, refl, refl, (b, number_text b g, ratio_again a b f g l)))

-- ranges
range_again : (l h : ℤ) → FitsSigned w32 l → FitsSigned w32 h → int_le l h ≡ true → int_eq l h ≡ false → Range (one_text (IntRange l h)) (IntRange l h)
range_again l h f g le ne =
    let low = signed_decimal l in
    let high = signed_decimal h in
    let ends : IntRange l h ≡ range l h = sym (ap (λ t. cond {A = One} t (Int l) (IntRange l h)) ne) in
    let tail : codes "]" ≡ codes "]" = refl in
    let e : one_text (IntRange l h) ≡ 91 ∷ 32 ∷ (low ++ (44 ∷ 32 ∷ (high ++ (32 ∷ 93 ∷ [])))) =
    append_assoc (((91 ∷ 32 ∷ []) ++ low) ++ (44 ∷ 32 ∷ [])) high (32 ∷ 93 ∷ [])
    ∙ append_assoc ((91 ∷ 32 ∷ []) ++ low) (44 ∷ 32 ∷ []) (high ++ 32 ∷ 93 ∷ []) in (
      91 ∷ [],
      32 ∷ (low ++ (44 ∷ 32 ∷ (high ++ (32 ∷ 93 ∷ [])))),
      tt,
      e,
      refl,
      (
        32 ∷ [],
        low ++ (44 ∷ 32 ∷ (high ++ (32 ∷ 93 ∷ []))),
        tt,
        refl,
        refl,
        (
          low,
          44 ∷ 32 ∷ (high ++ (32 ∷ 93 ∷ [])),
          l,
          refl,
          number_text l f,
          (
            44 ∷ 32 ∷ [],
            high ++ (32 ∷ 93 ∷ []),
            tt,
            refl,
            ([], 44 ∷ 32 ∷ [], tt, refl, refl, (44 ∷ [], 32 ∷ [], tt, refl, refl, refl)),
            (high, 32 ∷ 93 ∷ [], h, refl, (number_text h g, le), (32 ∷ [], 93 ∷ [], tt, refl, refl, (tt, refl, ends))),
          ),
        ),
      ),
    )

-- a fine value is spelled by its text
pub one_again : (one : One) → Fine one → Member (Some (kind_of one)) (one_text one) one
one_again (Int n) f = inr (n, number_text n f, refl)
one_again (Truth b) f = inr (b, truth_again b, refl)
one_again (Text t) f = inr (t, string_again t, refl)
one_again (Fraction a b) f = inr (quotient_again a b f.0 f.1 f.2)
one_again (IntRange l h) f = inl (refl, range_again l h f.0 f.1 f.2 f.3)

-- a value for which some text stands is fine
ratio_fits : (num den a b : ℤ) → ratio num den ≡ Some (Fraction a b) → FitsSigned w32 a × FitsSigned w32 b
ratio_fits num den a b h = elim (eqb_tells (unsigned_abs den) 0) [
  | inl t ↦ absurd (let bad : None ≡ Some (Fraction a b) = sym (ap (λ c. cond {A = Option One} c None (parts sign (unsigned_abs num / g) (unsigned_abs den / g))) t.0) ∙ h in cc)
  | inr t ↦ go (parts sign (unsigned_abs num / g) (unsigned_abs den / g)) (parts_when sign (unsigned_abs num / g) (unsigned_abs den / g)) (sym (ap (λ c. cond {A = Option One} c None (parts sign (unsigned_abs num / g) (unsigned_abs den / g))) t.0) ∙ h)
]
  where
    g : ℕ
    g = divisor (unsigned_abs num) (unsigned_abs den)

    sign : Bool
    sign = not (beq (is_negative num) (is_negative den))

    go : (o : Option One) → SomeIff o (FitsSigned w32 (signed sign (unsigned_abs num / g)) × FitsSigned w32 (pos (unsigned_abs den / g))) (Fraction (signed sign (unsigned_abs num / g)) (pos (unsigned_abs den / g))) → o ≡ Some (Fraction a b) → FitsSigned w32 a × FitsSigned w32 b
    go None s e = absurd (cc)
    go (Some x) s e =
        let same : Fraction (signed sign (unsigned_abs num / g)) (pos (unsigned_abs den / g)) ≡ Fraction a b = cc in
        let up : signed sign (unsigned_abs num / g) ≡ a = cc in
        let down : pos (unsigned_abs den / g) ≡ b = cc in
        (subst (FitsSigned w32) up s.0.0, subst (FitsSigned w32) down s.0.1)

quotient_kind : (one : One) (num den : ℤ) → ratio num den ≡ Some one → Fine one
quotient_kind (Int n) num den h = absurd (let k = ratio_kind_is num den (Int n) h in cc)
quotient_kind (Truth b) num den h = tt
quotient_kind (Text t) num den h = tt
quotient_kind (Fraction a b) num den h = let f = ratio_fits num den a b h in (f.0, f.1, ratio_single num den (Fraction a b) h)
quotient_kind (IntRange l u) num den h = absurd (let k = ratio_kind_is num den (IntRange l u) h in cc)

range_fine : (t : Bool) (l h : ℤ) → int_eq l h ≡ t → FitsSigned w32 l → FitsSigned w32 h → int_le l h ≡ true → Fine (cond {A = One} t (Int l) (IntRange l h))
range_fine true l h e f g le = f
range_fine false l h e f g le = (f, g, le, e)

word_fine : (a b : Bool) (text : List ℕ) → Fine (cond {A = One} a (Truth true) (cond {A = One} b (Truth false) (Text text)))
word_fine true b text = tt
word_fine false true text = tt
word_fine false false text = tt

single_fine : (kind : Option Kind) (text : List ℕ) (one : One) → Single_value kind text one → Fine one
single_fine None text one (inl (r, inl h)) = subst Fine (sym h.2) (number_fits text h.0 h.1)
single_fine None text one (inl (r, inr (inl h))) = quotient_kind one h.2 h.5.5.0 h.5.5.2
single_fine None text one (inl (r, inr (inr h))) = subst Fine (sym h.2) (word_fine _ _ text)
single_fine None text one (inr h) = subst Fine (sym h.2) tt
single_fine (Some Whole) text one h = subst Fine (sym h.2) (number_fits text h.0 h.1)
single_fine (Some Words) text one h = subst Fine (sym h.2) tt
single_fine (Some Either) text one h = subst Fine (sym h.2) tt
single_fine (Some Quotients) text one h = quotient_kind one h.2 h.5.5.0 h.5.5.2

pub member_fine : (kind : Option Kind) (text : List ℕ) (one : One) → Member kind text one → Fine one
member_fine kind text one (inl h) =
    let low = h.1.5.5 in
    let high = low.5.5 in
    let e = high.5.5 in
    subst Fine (sym e.2) (range_fine (int_eq low.2 high.2) low.2 high.2 refl (number_fits low.0 low.2 low.4) (number_fits high.0 high.2 high.4.0) high.4.1)
member_fine kind text one (inr h) = single_fine kind text one h
