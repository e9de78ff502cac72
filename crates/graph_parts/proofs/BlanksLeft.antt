-- Blanks that are left, from a number on.
use Rattle.std.proofs.Common.{◌≡◌, ◌+◌, ℕ, suc, List, ◌∷◌, Option, None, Some, length, refl, sym, ap, ◌∙◌, subst, arith}
use Rattle.std.specs.Prelude.{option_map, slice_get}
use Rattle.el_settings.specs.declared.settings.Settings.{Settings}
use Rattle.graph_core.specs.Elements.{Made}
use Rattle.graph_parts.specs.declared.blank.Blank.{Blank}
use Rattle.graph_parts.specs.Blanks.{AreBlanks, BlankAt}

-- what holds of the settings of an element
pub of_settings : (P : Settings → Type 0) (made : List Made) (e : ℕ) (settings : Settings) → option_map (λ (m : Made). m.settings) (slice_get made e) ≡ Some settings → P settings → (m : Made) → slice_get made e ≡ Some m → P m.settings
of_settings P made e settings told holds m is = subst P (same (sym told ∙ ap (option_map (λ (m : Made). m.settings)) is)) holds
  where
    same : Some settings ≡ Some m.settings → settings ≡ m.settings
    same h = cc

-- and what holds of an element holds of the settings
pub in_settings : (P : Settings → Type 0) (made : List Made) (e : ℕ) (settings : Settings) → option_map (λ (m : Made). m.settings) (slice_get made e) ≡ Some settings → ((m : Made) → slice_get made e ≡ Some m → P m.settings) → P settings
in_settings P made e settings told holds = by (slice_get made e) refl told
  where
    same : (m : Made) → Some m.settings ≡ Some settings → m.settings ≡ settings
    same m h = cc

    by : (found : Option Made) → slice_get made e ≡ found → option_map (λ (m : Made). m.settings) found ≡ Some settings → P settings
    by None is none = absurd (cc)
    by (Some m) is here = subst P (same m here) (holds m is)

module _ (made : List Made) where
  pub record BlanksFrom (n : ℕ) (blanks : List Blank) : Type 0 where
    pub count : length blanks + n ≡ length made
    pub each : (e j : ℕ) (blank : Blank) → e ≡ n + j → slice_get blanks j ≡ Some blank → BlankAt made e blank

  pub all_from : (blanks : List Blank) → AreBlanks made blanks → BlanksFrom 0 blanks
  all_from blanks are = record {
    count = let count = are.count in omega (arith, count);
    each = λ e j blank is at. are.each e blank (ap (λ i. slice_get blanks i) (is ∙ no_more j) ∙ at);
  }
    where
      no_more : (j : ℕ) → 0 + j ≡ j
      no_more j = omega arith

  pub first_blank : (n : ℕ) (blanks rest : List Blank) (blank : Blank) → blanks ≡ blank ∷ rest → BlanksFrom n blanks → BlankAt made n blank
  first_blank n blanks rest blank is from = from.each n 0 blank (omega arith) (ap (λ bs. slice_get bs 0) is)

  pub rest_blanks : (n : ℕ) (blanks rest : List Blank) (blank : Blank) → blanks ≡ blank ∷ rest → BlanksFrom n blanks → BlanksFrom (n + 1) rest
  rest_blanks n blanks rest blank is from = record {
    count = let all = ap length is in let count = from.count in omega (arith, all, count);
    each = λ e j one here at. from.each e (suc j) one (omega (arith, here)) (ap (λ bs. slice_get bs (suc j)) is ∙ at);
  }
