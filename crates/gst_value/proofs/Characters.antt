-- The bytes of a character that is not ASCII.
use Rattle.std.proofs.Common.{◌≡◌, ◌≤◌, ◌<◌, ℕ, suc, List, [], ◌∷◌, ◌++◌, length, get_or, inl, inr, sym, subst, arith, append-nil, length-append}
use Rattle.std.proofs.lemmas.Bool.{cases_lt}
use Rattle.std.proofs.lemmas.Str.{inside_one, len_utf8_bounds, length-encode}
use Rattle.std.specs.Char.{encode_utf8}

pub some_bytes : (c : ℕ) → 0 < length (encode_utf8 c)
some_bytes c = let n = length-encode c in let b = len_utf8_bounds c in omega (arith, n, b.0)

pub shorter_by : (c : ℕ) (x y : List ℕ) → x ≡ encode_utf8 c ++ y → length y < length x
shorter_by c x y e = let some = some_bytes c in let n = length-append (encode_utf8 c) y in subst (λ l. length y < length l) (sym e) (omega (arith, some, n))

-- a byte from 128 on
abbrev pub AllHigh : List ℕ → Type 0
AllHigh xs = (k : ℕ) → k < length xs → 128 ≤ get_or xs k 0

pub encode_high : (c : ℕ) → 128 ≤ c → AllHigh (encode_utf8 c)
encode_high c big k below = elim (cases_lt (get_or (encode_utf8 c) k 0) 128) [
  | inl low ↦ absurd (omega (arith, inside_one c [] (encode_utf8 c) k (sym (append-nil _)) below low, big))
  | inr h ↦ h
]

pub high_tail : (x : ℕ) (xs : List ℕ) → AllHigh (x ∷ xs) → AllHigh xs
high_tail x xs h k below = h (suc k) (omega (arith, below))

pub high_head : (x : ℕ) (xs : List ℕ) → AllHigh (x ∷ xs) → 128 ≤ x
high_head x xs h = h 0 (omega arith)
