-- The values of options.
use Rattle.std.proofs.Common.{◌≡◌, ◌∙◌, ◌&&◌, ◌==◌, ℕ, Bool, true, false, List, [], ◌∷◌, Option, Some, None, Result, Ok, Err, MatchOption, refl, sym, ap, subst, codes, arith, map, length, option_map}
use Rattle.std.specs.Prelude.{unwrap_or}
use Rattle.std.specs.Option.{option_map_or}
use Rattle.std.specs.Result.{result_ok}
use Rattle.std.specs.Str.Parse.{ParsesUnsigned, digits_value, without_leading_plus}
use Rattle.std.specs.Borrow.{Bor}
use Rattle.clap.specs.Words.{first_of, first_value, matched_of, raw_values, rows_of}
use Rattle.clap.specs.declared.parser.matches.Found.{Found}
use Rattle.clap.proofs.WalkLemmas.{first_value-rows, raw_values-rows}
use Rattle.clap.specs.ValueTests.{is_unsigned_in}
use Rattle.clap.specs.declared.builder.value_parser.ValueParser.TheVariants.{Unsigned}
use Rattle.clap.proofs.ValueTestLemmas.{Accepts-accepts, accepts-Accepts}
use Rattle.run_words.specs.Said.{is_bare, is_number, line_words_in}

-- what `get_str` shows is the first value of the rows
pub none_shown : (f : Found) (id : List ℕ) (shown : Option (Bor (List ℕ))) → option_map (λ s. s.now) shown ≡ first_value f id → shown ≡ None → None ≡ first_of id (rows_of f)
none_shown f id shown e is = sym (ap (option_map (λ s. s.now)) is) ∙ (e ∙ first_value-rows f id)

pub some_shown : (f : Found) (id : List ℕ) (shown : Option (Bor (List ℕ))) (text : Bor (List ℕ)) → option_map (λ s. s.now) shown ≡ first_value f id → shown ≡ Some text
    → Some text.now ≡ first_of id (rows_of f)
some_shown f id shown text e is = sym (ap (option_map (λ s. s.now)) is) ∙ (e ∙ first_value-rows f id)

-- an option that has no value
pub value_none : {X : Type 0} (holds : List ℕ → Bool) (read : List ℕ → X) (plain : X) (o : Option (List ℕ)) → None ≡ o
    → (option_map_or holds o true ≡ true) × (plain ≡ option_map_or read o plain)
value_none holds read plain o e = (ap (λ v. option_map_or holds v true) (sym e), ap (λ v. option_map_or read v plain) e)

-- and one that has a value
pub value_some : {X : Type 0} (holds : List ℕ → Bool) (read : List ℕ → X) (plain : X) (o : Option (List ℕ)) (text : List ℕ) (r : Option X) → Some text ≡ o
    → MatchOption r (holds text ≡ false) (λ x. (holds text ≡ true) × (x ≡ read text))
    → MatchOption r (option_map_or holds o true ≡ false) (λ x. (option_map_or holds o true ≡ true) × (x ≡ option_map_or read o plain))
value_some holds read plain o text r e h =
    subst (λ v. MatchOption r (option_map_or holds v true ≡ false) (λ x. (option_map_or holds v true ≡ true) × (x ≡ option_map_or read v plain))) e h

no_plus : (text : List ℕ) → is_bare text ≡ true → without_leading_plus text ≡ text
no_plus [] h = refl
no_plus (x ∷ xs) h = go (x == 43) refl
  where
    go : (b : Bool) → (x == 43) ≡ b → without_leading_plus (x ∷ xs) ≡ x ∷ xs
    go true is = let bad = rw is at h in cc
    go false is = rw is refl

-- bare digits are a number exactly where `u64` reads them
pub number_read : {E : Type 0} (text : List ℕ) (r : Result ℕ E) → is_bare text ≡ true → ParsesUnsigned 64 10 text r
    → MatchOption (result_ok r) (is_number text ≡ false) (λ n. (is_number text ≡ true) × (n ≡ digits_value 10 text))
number_read text (Ok x) bare p =
    let taken = Accepts-accepts false (Unsigned 0 18446744073709551615) text (p.0.0, p.0.1, omega arith, omega (arith, p.0.1)) in
    (rw (bare, taken) refl, p.1 ∙ ap (digits_value 10) (no_plus text bare))
number_read text (Err e) bare p = go (is_unsigned_in 0 18446744073709551615 text) refl
  where
    go : (b : Bool) → is_unsigned_in 0 18446744073709551615 text ≡ b → (is_bare text && is_unsigned_in 0 18446744073709551615 text) ≡ false
    go true is = let a = accepts-Accepts false (Unsigned 0 18446744073709551615) text is in absurd (p (a.0, a.1))
    go false is = rw (bare, is) refl

-- the words of the line, as `get_strs` shows them
pub words_shown : (f : Found) (shown : Option (Bor (List (Bor (List ℕ))))) → option_map (λ s. map (λ v. v.now) s.now) shown ≡ option_map raw_values (matched_of f (codes "WORD"))
    → unwrap_or (option_map (λ s. map (λ v. v.now) s.now) shown) [] ≡ line_words_in (rows_of f)
words_shown f shown e = ap (λ o. unwrap_or o []) (e ∙ raw_values-rows f (codes "WORD"))

pub some_words : (f : Found) (shown : Option (Bor (List (Bor (List ℕ))))) (words : Bor (List (Bor (List ℕ)))) → shown ≡ Some words
    → option_map (λ s. map (λ v. v.now) s.now) shown ≡ option_map raw_values (matched_of f (codes "WORD")) → map (λ v. v.now) words.now ≡ line_words_in (rows_of f)
some_words f shown words is e = sym (ap (λ o. unwrap_or (option_map (λ s. map (λ v. v.now) s.now) o) []) is) ∙ words_shown f shown e

pub no_words : (f : Found) (shown : Option (Bor (List (Bor (List ℕ))))) → shown ≡ None
    → option_map (λ s. map (λ v. v.now) s.now) shown ≡ option_map raw_values (matched_of f (codes "WORD")) → line_words_in (rows_of f) ≡ []
no_words f shown is e = sym (words_shown f shown e) ∙ ap (λ o. unwrap_or (option_map (λ s. map (λ v. v.now) s.now) o) []) is

pub are_words : (words : List (Bor (List ℕ))) → false ≡ (length words == 0) → map (λ v. v.now) words ≡ [] → ⊥
are_words [] more e = cc
are_words (x ∷ xs) more e = cc

pub are_none : (words : List (Bor (List ℕ))) → length words ≡ 0 → map (λ v. v.now) words ≡ []
are_none [] e = refl
are_none (x ∷ xs) e = absurd (omega arith)
