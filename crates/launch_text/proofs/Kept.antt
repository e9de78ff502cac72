-- What characters add to a value or to caps.
use Rattle.std.proofs.Common.{◌≡◌, ℕ, ◌<◌, ◌≤◌, Bool, true, false, List, [], ◌∷◌, ◌++◌, length, inl, inr, refl, sym, ap, ◌∙◌, arith, append_assoc, append-nil}
use Rattle.std.specs.Char.{encode_utf8}
use Rattle.std.proofs.lemmas.Bool.{cases_lt}
use Rattle.std.proofs.lemmas.Str.{encode_ascii}
use Rattle.text_words.specs.Words.{after, mode_behind}
use Rattle.text_words.specs.declared.word.Mode.{Mode}
use Rattle.launch_text.specs.Words.{kept, taken}
use Rattle.launch_text.specs.declared.printing.Marked.{Marked}
use Rattle.launch_text.specs.declared.printing.Marked.TheVariants.{Value, Caps}
use Rattle.gst_value.proofs.Basics.{apart}
use Rattle.text_words.proofs.Kept.{at_mode, behind_one, high_after}
use Rattle.gst_value.proofs.Characters.{AllHigh, encode_high, high_head, high_tail, some_bytes}

high_kept : (k : Marked) (b : ℕ) (bytes : List ℕ) → 128 ≤ b → kept k false b bytes ≡ bytes
high_kept Value b bytes h = rw (apart b 34 (λ e. omega (arith, h, e)), apart b 92 (λ e. omega (arith, h, e))) refl
high_kept Caps b bytes h = rw (apart b 92 (λ e. omega (arith, h, e))) refl

taken_high : (k : Marked) (q : Bool) (xs : List ℕ) → AllHigh xs → taken k (at_mode q false) xs ≡ xs
taken_high k q [] h = refl
taken_high k q (x ∷ xs) h = rw (high_kept k x (x ∷ []) (high_head x xs h), high_after q false x (high_head x xs h)) (ap (λ l. x ∷ l) (taken_high k q xs (high_tail x xs h)))

high_first : (k : Marked) (e : Bool) (x c : ℕ) (xs : List ℕ) → 128 ≤ x → 128 ≤ c → kept k e x (x ∷ []) ++ xs ≡ kept k e c (x ∷ xs)
high_first Value true x c xs h g = refl
high_first Value false x c xs h g = rw (high_kept Value x (x ∷ []) h, high_kept Value c (x ∷ xs) g) refl
high_first Caps true x c xs h g = rw (apart x 32 (λ e. omega (arith, h, e)), apart c 32 (λ e. omega (arith, g, e))) refl
high_first Caps false x c xs h g = rw (high_kept Caps x (x ∷ []) h, high_kept Caps c (x ∷ xs) g) refl

high_taken : (k : Marked) (q e : Bool) (c : ℕ) (xs : List ℕ) → 128 ≤ c → 0 < length xs → AllHigh xs → taken k (at_mode q e) xs ≡ kept k e c xs
high_taken k q e c [] big some h = absurd (omega (arith, some))
high_taken k q e c (x ∷ xs) big some h = rw (high_after q e x (high_head x xs h), taken_high k q xs (high_tail x xs h)) (high_first k e x c xs (high_head x xs h) big)

one_taken : (k : Marked) (q e : Bool) (c : ℕ) → taken k (at_mode q e) (c ∷ []) ≡ kept k e c (c ∷ [])
one_taken k q e c = append-nil (kept k e c (c ∷ []))

-- a character in UTF-8 is taken as one byte is
pub taken_one : (k : Marked) (m : Mode) (c : ℕ) → taken k m (encode_utf8 c) ≡ kept k m.escaped c (encode_utf8 c)
taken_one k m c = elim (cases_lt c 128) [
  | inl small ↦ rw (encode_ascii c small) (one_taken k m.quoted m.escaped c)
  | inr big ↦ high_taken k m.quoted m.escaped c (encode_utf8 c) big (some_bytes c) (encode_high c big)
]

pub taken_append : (k : Marked) (m : Mode) (xs ys : List ℕ) → taken k m (xs ++ ys) ≡ taken k m xs ++ taken k (mode_behind m xs) ys
taken_append k m [] ys = refl
taken_append k m (x ∷ xs) ys = ap (λ l. kept k m.escaped x (x ∷ []) ++ l) (taken_append k (after m x) xs ys) ∙ sym (append_assoc (kept k m.escaped x (x ∷ [])) (taken k (after m x) xs) (taken k (mode_behind (after m x) xs) ys))

-- one character more of a word
pub taken_step : (k : Marked) (m : Mode) (c : ℕ) (into made x y : List ℕ) → x ≡ encode_utf8 c ++ y → made ≡ into ++ kept k m.escaped c (encode_utf8 c) → made ++ taken k (after m c) y ≡ into ++ taken k m x
taken_step k m c into made x y e f =
    rw (e, f) (append_assoc into (kept k m.escaped c (encode_utf8 c)) (taken k (after m c) y)
    ∙ ap (λ l. into ++ l) (ap (λ l. l ++ taken k (after m c) y) (sym (taken_one k m c)) ∙ ap (λ n. taken k m (encode_utf8 c) ++ taken k n y) (sym (behind_one m c)) ∙ sym (taken_append k m (encode_utf8 c) y)))
