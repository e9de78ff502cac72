-- Characters of a text, with and without a backslash before them.
use Rattle.std.proofs.Common.{◌≡◌, ℕ, ◌≤◌, true, false, List, [], ◌∷◌, ◌++◌, inl, inr, refl, sym, ap, ◌∙◌, arith, append_assoc}
use Rattle.std.specs.Char.{encode_utf8}
use Rattle.std.proofs.lemmas.Bool.{cases_lt}
use Rattle.std.proofs.lemmas.Str.{encode_ascii}
use Rattle.launch_text.specs.Printed.{is_marked, with_marks}
use Rattle.launch_text.specs.declared.printing.Marked.{Marked}
use Rattle.launch_text.specs.declared.printing.Marked.TheVariants.{Value, Caps}
use Rattle.gst_value.proofs.Basics.{apart}
use Rattle.gst_value.proofs.Characters.{AllHigh, encode_high, high_head, high_tail}

high_unmarked : (m : Marked) (b : ℕ) → 128 ≤ b → is_marked m b ≡ false
high_unmarked Value b h = rw (apart b 32 (λ e. omega (arith, h, e)), apart b 9 (λ e. omega (arith, h, e)), apart b 10 (λ e. omega (arith, h, e)), apart b 34 (λ e. omega (arith, h, e)), apart b 92 (λ e. omega (arith, h, e))) refl
high_unmarked Caps b h = apart b 32 (λ e. omega (arith, h, e))

marks_high : (m : Marked) (xs : List ℕ) → AllHigh xs → with_marks m xs ≡ xs
marks_high m [] h = refl
marks_high m (x ∷ xs) h = rw (high_unmarked m x (high_head x xs h)) (ap (λ l. x ∷ l) (marks_high m xs (high_tail x xs h)))

-- a character that has a backslash before it, and one that has none
pub marked_one : (m : Marked) (c : ℕ) → is_marked m c ≡ true → with_marks m (encode_utf8 c) ≡ 92 ∷ encode_utf8 c
marked_one m c h = elim (cases_lt c 128) [
  | inl small ↦ rw (encode_ascii c small) (rw h refl)
  | inr big ↦ absurd (differ (sym h ∙ high_unmarked m c big))
]
  where
    differ : true ≡ false → ⊥
    differ e = cc

pub unmarked_one : (m : Marked) (c : ℕ) → is_marked m c ≡ false → with_marks m (encode_utf8 c) ≡ encode_utf8 c
unmarked_one m c h = elim (cases_lt c 128) [
  | inl small ↦ rw (encode_ascii c small) (rw h refl)
  | inr big ↦ marks_high m (encode_utf8 c) (encode_high c big)
]

-- a character is put, with a backslash before it or without
pub marked_put : (m : Marked) (c : ℕ) (into mid made : List ℕ) → is_marked m c ≡ true → mid ≡ into ++ encode_utf8 92 → made ≡ mid ++ encode_utf8 c → made ≡ into ++ with_marks m (encode_utf8 c)
marked_put m c into mid made h e f =
    rw (f, e, encode_ascii 92 (omega arith)) (append_assoc into (92 ∷ []) (encode_utf8 c) ∙ ap (λ l. into ++ l) (sym (marked_one m c h)))

pub unmarked_put : (m : Marked) (c : ℕ) (into mid made : List ℕ) → is_marked m c ≡ false → mid ≡ into → made ≡ mid ++ encode_utf8 c → made ≡ into ++ with_marks m (encode_utf8 c)
unmarked_put m c into mid made h e f = rw (f, e) (ap (λ l. into ++ l) (sym (unmarked_one m c h)))
