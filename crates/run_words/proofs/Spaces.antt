-- Characters of a word, with and without a backslash before them.
use Rattle.std.proofs.Common.{◌≡◌, ◌≢◌, ◌==◌, ℕ, false, List, [], ◌∷◌, ◌++◌, inl, inr, refl, sym, ap, arith, append_assoc, append-nil}
use Rattle.std.specs.Char.{encode_utf8}
use Rattle.std.proofs.lemmas.Bool.{cases_lt}
use Rattle.std.proofs.lemmas.Str.{encode_ascii}
use Rattle.run_words.specs.Line.{joined, with_backslashes, with_more}
use Rattle.gst_value.proofs.Basics.{apart}
use Rattle.gst_value.proofs.Characters.{AllHigh, encode_high, high_head, high_tail}

marks_high : (xs : List ℕ) → AllHigh xs → with_backslashes xs ≡ xs
marks_high [] h = refl
marks_high (x ∷ xs) h = rw (apart x 32 (λ e. omega (arith, high_head x xs h, e))) (ap (λ l. x ∷ l) (marks_high xs (high_tail x xs h)))

plain_one : (c : ℕ) → (c == 32) ≡ false → with_backslashes (encode_utf8 c) ≡ encode_utf8 c
plain_one c h = elim (cases_lt c 128) [
  | inl small ↦ rw (encode_ascii c small) (rw h refl)
  | inr big ↦ marks_high (encode_utf8 c) (encode_high c big)
]

-- a space is put behind its backslash
pub space_put : (c : ℕ) (into mid made : List ℕ) → c ≡ 32 → mid ≡ into ++ encode_utf8 92 → made ≡ mid ++ encode_utf8 c → made ≡ into ++ with_backslashes (encode_utf8 c)
space_put c into mid made h e f =
    rw (f, e, h, encode_ascii 92 (omega arith), encode_ascii 32 (omega arith)) (append_assoc into (92 ∷ []) (32 ∷ []))

-- and another character as it is
pub plain_put : (c : ℕ) (into mid made : List ℕ) → c ≢ 32 → mid ≡ into → made ≡ mid ++ encode_utf8 c → made ≡ into ++ with_backslashes (encode_utf8 c)
plain_put c into mid made h e f = rw (f, e) (ap (λ l. into ++ l) (sym (plain_one c (apart c 32 h))))

-- the first word, and each further one behind a space
pub joined_more : (word : List ℕ) (others : List (List ℕ)) → with_backslashes word ++ with_more others ≡ joined (word ∷ others)
joined_more word [] = append-nil (with_backslashes word)
joined_more word (next ∷ others) = ap (λ rest. with_backslashes word ++ 32 ∷ rest) (joined_more next others)

-- the first word is put behind nothing, and the others behind it
pub line_put : (word : List ℕ) (others : List (List ℕ)) (start one all : List ℕ) → start ≡ [] → one ≡ start ++ with_backslashes word → all ≡ one ++ with_more others → all ≡ joined (word ∷ others)
line_put word others start one all e f g = rw (g, f, e) (joined_more word others)
