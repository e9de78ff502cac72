-- Characters of a text, in quotes and out of them.
use Rattle.std.proofs.Common.{◌≡◌, ◌≢◌, ℕ, ◌<◌, true, false, eqb, List, [], ◌∷◌, ◌++◌, length, inl, inr, refl, sym, ap, ◌∙◌, subst, arith, append_assoc, append-nil}
use Rattle.std.specs.Char.{encode_utf8}
use Rattle.std.proofs.lemmas.Bool.{cases_lt}
use Rattle.std.proofs.lemmas.Bool.Decides.{eqb_tells}
use Rattle.std.proofs.lemmas.Str.{encode_ascii}
use Rattle.caps_text.specs.Printed.{escaped, escaped_byte}
use Rattle.caps_text.specs.Reading.{read_quoted}
use Rattle.gst_value.proofs.Characters.{some_bytes, AllHigh, encode_high, high_head, high_tail}

-- a byte that is neither a double quote nor a backslash
pub plain_escaped : (b : ℕ) → b ≢ 34 → b ≢ 92 → escaped_byte b ≡ b ∷ []
plain_escaped b p q = elim (eqb_tells b 34) [ inl t ↦ absurd (p t.1) | inr t ↦ elim (eqb_tells b 92) [ inl u ↦ absurd (q u.1) | inr u ↦ rw (t.0, u.0) refl ] ]

escaped_high : (xs : List ℕ) → AllHigh xs → escaped xs ≡ xs
escaped_high [] h = refl
escaped_high (x ∷ xs) h =
    let high = high_head x xs h in
    rw (plain_escaped x (λ e. omega (arith, high, e)) (λ e. omega (arith, high, e))) (ap (λ l. x ∷ l) (escaped_high xs (high_tail x xs h)))

-- a character that is neither of the two stands for itself
pub escaped_plain : (c : ℕ) → c ≢ 34 → c ≢ 92 → escaped (encode_utf8 c) ≡ encode_utf8 c
escaped_plain c p q = elim (cases_lt c 128) [
  | inl small ↦ rw (encode_ascii c small) (rw (plain_escaped c p q) refl)
  | inr big ↦ escaped_high (encode_utf8 c) (encode_high c big)
]

-- the bytes of a part that is not ASCII are read as they are
quoted_high : (xs so_far y : List ℕ) → AllHigh xs → read_quoted false so_far (xs ++ y) ≡ read_quoted false (so_far ++ xs) y
quoted_high [] so_far y h = rw (append-nil so_far) refl
quoted_high (x ∷ xs) so_far y h =
    let high = high_head x xs h in
    let one : eqb x 34 ≡ false = apart x 34 (λ e. omega (arith, high, e)) in
    let two : eqb x 92 ≡ false = apart x 92 (λ e. omega (arith, high, e)) in
    rw (one, two) (quoted_high xs (so_far ++ x ∷ []) y (high_tail x xs h) ∙ ap (λ l. read_quoted false l y) (append_assoc so_far (x ∷ []) xs))
  where
    apart : (a b : ℕ) → a ≢ b → eqb a b ≡ false
    apart a b h = elim (eqb_tells a b) [ inl t ↦ absurd (h t.1) | inr t ↦ t.0 ]

pub quoted_plain : (c : ℕ) (so_far x y : List ℕ) → x ≡ encode_utf8 c ++ y → c ≢ 34 → c ≢ 92 → read_quoted false so_far x ≡ read_quoted false (so_far ++ encode_utf8 c) y
quoted_plain c so_far x y e p q = elim (cases_lt c 128) [
  | inl small ↦ let one = encode_ascii c small in rw e (rw one (elim (eqb_tells c 34) [ inl t ↦ absurd (p t.1) | inr t ↦ elim (eqb_tells c 92) [ inl u ↦ absurd (q u.1) | inr u ↦ rw (t.0, u.0) refl ] ]))
  | inr big ↦ rw e (quoted_high (encode_utf8 c) so_far y (encode_high c big))
]

-- a character behind a backslash is taken as it is
high_from_second : (c x : ℕ) (xs : List ℕ) → encode_utf8 c ≡ x ∷ xs → AllHigh xs
high_from_second c x xs e = elim (cases_lt c 128) [
  | inl small ↦ let none : x ∷ xs ≡ c ∷ [] = sym e ∙ encode_ascii c small in let nil : xs ≡ [] = cc in λ k below. absurd (let no : k < 0 = subst (λ l. k < length l) nil below in omega (arith, no))
  | inr big ↦ high_tail x xs (subst AllHigh e (encode_high c big))
]

taken_first : (xs so_far y : List ℕ) → 0 < length xs → ((x : ℕ) (rest : List ℕ) → xs ≡ x ∷ rest → AllHigh rest) → read_quoted true so_far (xs ++ y) ≡ read_quoted false (so_far ++ xs) y
taken_first [] so_far y some h = absurd (omega (arith, some))
taken_first (x ∷ xs) so_far y some h = quoted_high xs (so_far ++ x ∷ []) y (h x xs refl) ∙ ap (λ l. read_quoted false l y) (append_assoc so_far (x ∷ []) xs)

pub quoted_taken : (c d : ℕ) (so_far w x y : List ℕ) → w ≡ encode_utf8 c ++ x → c ≡ 92 → x ≡ encode_utf8 d ++ y → read_quoted false so_far w ≡ read_quoted false (so_far ++ encode_utf8 d) y
quoted_taken c d so_far w x y e is f =
    let one : encode_utf8 c ≡ 92 ∷ [] = ap encode_utf8 is ∙ encode_ascii 92 (omega arith) in
    rw (e, one, f) (taken_first (encode_utf8 d) so_far y (some_bytes d) (λ z rest g. high_from_second d z rest g))
