-- What characters add to a value.
use Rattle.std.proofs.Common.{◌≡◌, ℕ, ◌<◌, ◌≤◌, Bool, true, false, List, [], ◌∷◌, ◌++◌, length, inl, inr, refl, sym, ap, ◌∙◌, arith, append_assoc, append-nil}
use Rattle.std.specs.Char.{encode_utf8}
use Rattle.std.proofs.lemmas.Bool.{cases_lt}
use Rattle.std.proofs.lemmas.Str.{encode_ascii}
use Rattle.text_words.specs.Values.{kept, taken}
use Rattle.text_words.specs.Words.{after, mode_behind}
use Rattle.text_words.specs.declared.word.Mode.{Mode}
use Rattle.gst_value.proofs.Basics.{apart}
use Rattle.gst_value.proofs.Characters.{AllHigh, encode_high, high_head, high_tail, some_bytes}

abbrev pub at_mode : Bool → Bool → Mode
at_mode q e = record { quoted = q; escaped = e }

pub high_after : (q e : Bool) (b : ℕ) → 128 ≤ b → after (at_mode q e) b ≡ at_mode q false
high_after q true b h = refl
high_after q false b h = rw (apart b 34 (λ e. omega (arith, h, e)), apart b 92 (λ e. omega (arith, h, e))) refl

high_kept : (b : ℕ) (bytes : List ℕ) → 128 ≤ b → kept false b bytes ≡ bytes
high_kept b bytes h = rw (apart b 34 (λ e. omega (arith, h, e)), apart b 92 (λ e. omega (arith, h, e))) refl

behind_high : (q : Bool) (xs : List ℕ) → AllHigh xs → mode_behind (at_mode q false) xs ≡ at_mode q false
behind_high q [] h = refl
behind_high q (x ∷ xs) h = rw (high_after q false x (high_head x xs h)) (behind_high q xs (high_tail x xs h))

taken_high : (q : Bool) (xs : List ℕ) → AllHigh xs → taken (at_mode q false) xs ≡ xs
taken_high q [] h = refl
taken_high q (x ∷ xs) h = rw (high_kept x (x ∷ []) (high_head x xs h), high_after q false x (high_head x xs h)) (ap (λ l. x ∷ l) (taken_high q xs (high_tail x xs h)))

high_behind : (q e : Bool) (xs : List ℕ) → 0 < length xs → AllHigh xs → mode_behind (at_mode q e) xs ≡ at_mode q false
high_behind q e [] some h = absurd (omega (arith, some))
high_behind q e (x ∷ xs) some h = rw (high_after q e x (high_head x xs h)) (behind_high q xs (high_tail x xs h))

high_first : (e : Bool) (x c : ℕ) (xs : List ℕ) → 128 ≤ x → 128 ≤ c → kept e x (x ∷ []) ++ xs ≡ kept e c (x ∷ xs)
high_first true x c xs h g = refl
high_first false x c xs h g = rw (high_kept x (x ∷ []) h, high_kept c (x ∷ xs) g) refl

high_taken : (q e : Bool) (c : ℕ) (xs : List ℕ) → 128 ≤ c → 0 < length xs → AllHigh xs → taken (at_mode q e) xs ≡ kept e c xs
high_taken q e c [] big some h = absurd (omega (arith, some))
high_taken q e c (x ∷ xs) big some h = rw (high_after q e x (high_head x xs h), taken_high q xs (high_tail x xs h)) (high_first e x c xs (high_head x xs h) big)

one_taken : (q e : Bool) (c : ℕ) → taken (at_mode q e) (c ∷ []) ≡ kept e c (c ∷ [])
one_taken q e c = append-nil (kept e c (c ∷ []))

-- a character in UTF-8 is passed as one byte is
pub behind_one : (m : Mode) (c : ℕ) → mode_behind m (encode_utf8 c) ≡ after m c
behind_one m c = elim (cases_lt c 128) [
  | inl small ↦ rw (encode_ascii c small) refl
  | inr big ↦ high_behind m.quoted m.escaped (encode_utf8 c) (some_bytes c) (encode_high c big) ∙ sym (high_after m.quoted m.escaped c big)
]

pub taken_one : (m : Mode) (c : ℕ) → taken m (encode_utf8 c) ≡ kept m.escaped c (encode_utf8 c)
taken_one m c = elim (cases_lt c 128) [
  | inl small ↦ rw (encode_ascii c small) (one_taken m.quoted m.escaped c)
  | inr big ↦ high_taken m.quoted m.escaped c (encode_utf8 c) big (some_bytes c) (encode_high c big)
]

pub behind_append : (m : Mode) (xs ys : List ℕ) → mode_behind m (xs ++ ys) ≡ mode_behind (mode_behind m xs) ys
behind_append m [] ys = refl
behind_append m (x ∷ xs) ys = behind_append (after m x) xs ys

pub taken_append : (m : Mode) (xs ys : List ℕ) → taken m (xs ++ ys) ≡ taken m xs ++ taken (mode_behind m xs) ys
taken_append m [] ys = refl
taken_append m (x ∷ xs) ys = ap (λ l. kept m.escaped x (x ∷ []) ++ l) (taken_append (after m x) xs ys) ∙ sym (append_assoc (kept m.escaped x (x ∷ [])) (taken (after m x) xs) (taken (mode_behind (after m x) xs) ys))

-- one character more of a word
pub behind_step : (m : Mode) (c : ℕ) (x y : List ℕ) → x ≡ encode_utf8 c ++ y → mode_behind (after m c) y ≡ mode_behind m x
behind_step m c x y e = rw e (ap (λ n. mode_behind n y) (sym (behind_one m c)) ∙ sym (behind_append m (encode_utf8 c) y))

pub taken_step : (m : Mode) (c : ℕ) (into made x y : List ℕ) → x ≡ encode_utf8 c ++ y → made ≡ into ++ kept m.escaped c (encode_utf8 c) → made ++ taken (after m c) y ≡ into ++ taken m x
taken_step m c into made x y e f =
    rw (e, f) (append_assoc into (kept m.escaped c (encode_utf8 c)) (taken (after m c) y)
    ∙ ap (λ l. into ++ l) (ap (λ l. l ++ taken (after m c) y) (sym (taken_one m c)) ∙ ap (λ n. taken m (encode_utf8 c) ++ taken n y) (sym (behind_one m c)) ∙ sym (taken_append m (encode_utf8 c) y)))
