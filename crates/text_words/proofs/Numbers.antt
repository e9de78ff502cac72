-- Decimal digits as `parse` reads them.
use Rattle.std.proofs.Common.{◌≡◌, ◌∙◌, ◌<◌, ◌^◌, ◌&&◌, ℕ, true, false, cond, not, eqb, List, [], ◌∷◌, Some, None, Result, Ok, Err, inl, inr, refl, sym, ap, arith, rules, length}
use Rattle.std.specs.Prelude.{nat_lt}
use Rattle.std.specs.List.{list_all}
use Rattle.std.specs.Result.{OkIff}
use Rattle.std.specs.Str.Parse.{ParsesUnsigned, digits_value}
use Rattle.std.proofs.lemmas.Bool.{cases_lt}
use Rattle.std.proofs.lemmas.Str.Parse.{IsNumeralModel, numerals_by_value, parse_digits}
use Rattle.text_words.specs.Bytes.{is_digit}
use Rattle.text_words.specs.Values.{are_digits, number_of}
use Rattle.gst_value.proofs.Basics.{and_left, and_right}

no : false ≡ true → ⊥
no e = cc

own : IsNumeralModel (λ ds. list_all is_digit ds ≡ true) (digits_value 10)
own = numerals_by_value (λ ds. list_all is_digit ds ≡ true) (search rules)

some_digit : (text : List ℕ) → not (eqb (length text) 0) ≡ true → 0 < length text
some_digit [] h = absurd (wrong h)
  where
    wrong : false ≡ true → ⊥
    wrong e = cc
some_digit (b ∷ bs) h = omega arith

read : {E : Type 0} (text : List ℕ) (r : Result ℕ E) → are_digits text ≡ true → ParsesUnsigned 64 10 text r → OkIff r ((0 < length text) × (digits_value 10 text < 2 ^ 64)) (digits_value 10 text)
read text r digits h = parse_digits own 64 text r h (and_right (not (eqb (length text) 0)) (list_all is_digit text) digits)

pub number_is : (limit : ℕ) (text : List ℕ) (n : ℕ) → are_digits text ≡ true → n ≡ digits_value 10 text → number_of limit text ≡ cond (nat_lt n limit) (Some n) None
unfolding number_of
number_is limit text n digits e = ap (λ t. cond (t && nat_lt (digits_value 10 text) limit) (Some (digits_value 10 text)) None) digits ∙ ap (λ m. cond (nat_lt m limit) (Some m) None) (sym e)

pub number_none : {E : Type 0} (limit : ℕ) (text : List ℕ) (r : Result ℕ E) (e : E) → r ≡ Err e → limit < 2 ^ 64 → are_digits text ≡ true → ParsesUnsigned 64 10 text r → None ≡ number_of limit text
number_none limit text (Ok m) e is small digits h = absurd (wrong is)
  where
    wrong : Ok m ≡ Err e → ⊥
    wrong f = cc
number_none limit text (Err f) e is small digits h = sym (number_is limit text (digits_value 10 text) digits refl ∙ ap (λ t. cond t (Some (digits_value 10 text)) None) large)
  where
    beyond : ¬ ((0 < length text) × (digits_value 10 text < 2 ^ 64))
    beyond = read text (Err f) digits h

    some : 0 < length text
    some = some_digit text (and_left (not (eqb (length text) 0)) (list_all is_digit text) digits)

    large : nat_lt (digits_value 10 text) limit ≡ false
    large = elim (cases_lt (digits_value 10 text) limit) [
      | inl less ↦ absurd (beyond (some, omega (arith, less, small)))
      | inr more ↦ grind (arith, more)
    ]
