-- Where a text is cut into words.
use Rattle.std.proofs.Common.{◌≡◌, ℕ, zero, suc, ◌<◌, ◌≤◌, Bool, true, false, cond, eqb, ◌&&◌, not, List, [], ◌∷◌, length, drop, take, get_or, inl, inr, refl, sym, ap, ◌∙◌, subst, arith}
use Rattle.std.specs.List.{filter, take_while}
use Rattle.std.specs.Str.{IsUtf8, IsCharBoundary}
use Rattle.std.proofs.lemmas.Bool.{cases_lt}
use Rattle.std.proofs.lemmas.Bool.Decides.{eqb_tells}
use Rattle.std.proofs.lemmas.List.Sums.{take_while-cons}
use Rattle.std.proofs.lemmas.Str.{IsCharBoundary-start, IsCharBoundary-end, IsCharBoundary-after_ascii, IsCharBoundary-before_ascii}
use Rattle.text_words.specs.Bytes.{separates}
use Rattle.text_words.specs.Words.{after, is_plain, is_some, is_start, onto, pieces, plain, word_length, words_of}
use Rattle.text_words.specs.declared.word.Mode.{Mode}
use Rattle.text_words.specs.declared.word.Separator.{Separator}
use Rattle.text_words.specs.declared.word.Separator.TheVariants.{White, Space}

off : (b k : ℕ) → 128 ≤ b → k < 128 → eqb b k ≡ false
off b k big small = elim (eqb_tells b k) [ inl t ↦ absurd (omega (arith, t.1, big, small)) | inr t ↦ t.0 ]

none : (s : Separator) (b : ℕ) → 128 ≤ b → separates s b ≡ false
none White b big = rw (off b 32 big (omega arith), off b 9 big (omega arith), off b 10 big (omega arith)) refl
none Space b big = off b 32 big (omega arith)

no : true ≡ false → ⊥
no e = cc

pub separator_ascii : (s : Separator) (b : ℕ) → separates s b ≡ true → b < 128
separator_ascii s b h = elim (cases_lt b 128) [ inl small ↦ small | inr big ↦ absurd (no (sym h ∙ none s b big)) ]

-- the separators at the front are ASCII
front_run : (s : Separator) (x : List ℕ) (k : ℕ) → k < length (take_while (separates s) x) → (k < length x) × (get_or x k 0 < 128)
front_run s [] k h = absurd (omega (arith, h))
front_run s (b ∷ bs) k h = step (front_run s bs) (separates s b) refl k (rw (take_while-cons (separates s) b bs) at h)
  where
    step : ((k : ℕ) → k < length (take_while (separates s) bs) → (k < length bs) × (get_or bs k 0 < 128)) → (t : Bool) → separates s b ≡ t → (k : ℕ) → k < length (cond t (b ∷ take_while (separates s) bs) []) → (k < length (b ∷ bs)) × (get_or (b ∷ bs) k 0 < 128)
    step ih true e zero h = (omega arith, separator_ascii s b e)
    step ih true e (suc k) h = let r = ih k (omega (arith, h)) in (omega (arith, r.0), r.1)
    step ih false e k h = absurd (omega (arith, h))

pub front_boundary : (s : Separator) (x : List ℕ) (n : ℕ) → IsUtf8 x → n ≡ length (take_while (separates s) x) → IsCharBoundary x n
front_boundary s x zero u e = IsCharBoundary-start x u
front_boundary s x (suc k) u e = let at = front_run s x k (omega (arith, e)) in subst (IsCharBoundary x) (omega arith) (IsCharBoundary-after_ascii x k u at.0 at.1)

-- what is behind them does not begin with a separator, and has the same words
pub behind_start : (s : Separator) (x : List ℕ) → is_start s (drop (length (take_while (separates s) x)) x) ≡ true
behind_start s [] = refl
behind_start s (b ∷ bs) = rw (take_while-cons (separates s) b bs) (step (behind_start s bs) (separates s b) refl)
  where
    step : is_start s (drop (length (take_while (separates s) bs)) bs) ≡ true → (t : Bool) → separates s b ≡ t → is_start s (drop (length (cond t (b ∷ take_while (separates s) bs) [])) (b ∷ bs)) ≡ true
    step ih true e = ih
    step ih false e = rw e refl

passed : (s : Separator) (b : ℕ) (bs : List ℕ) → separates s b ≡ true → words_of s (b ∷ bs) ≡ words_of s bs
unfolding words_of
passed s b bs e = rw e refl

pub behind_words : (s : Separator) (x : List ℕ) → words_of s (drop (length (take_while (separates s) x)) x) ≡ words_of s x
behind_words s [] = refl
behind_words s (b ∷ bs) = rw (take_while-cons (separates s) b bs) (step (behind_words s bs) (separates s b) refl)
  where
    step : words_of s (drop (length (take_while (separates s) bs)) bs) ≡ words_of s bs → (t : Bool) → separates s b ≡ t → words_of s (drop (length (cond t (b ∷ take_while (separates s) bs) [])) (b ∷ bs)) ≡ words_of s (b ∷ bs)
    step ih true e = ih ∙ sym (passed s b bs e)
    step ih false e = refl

-- a word is no longer than the text
pub within : (s : Separator) (m : Mode) (x : List ℕ) → word_length s m x ≤ length x
within s m [] = omega arith
within s m (b ∷ bs) = step (within s (after m b) bs) (is_plain m && separates s b)
  where
    step : word_length s (after m b) bs ≤ length bs → (t : Bool) → cond t 0 (suc (word_length s (after m b) bs)) ≤ suc (length bs)
    step ih true = omega arith
    step ih false = omega (arith, ih)

-- where the text goes on behind a word, a separator stands there
stops_at : (s : Separator) (m : Mode) (x : List ℕ) → word_length s m x < length x → separates s (get_or x (word_length s m x) 0) ≡ true
stops_at s m [] h = absurd (omega (arith, h))
stops_at s m (b ∷ bs) h = step (λ g. stops_at s (after m b) bs g) (is_plain m) (separates s b) refl h
  where
    step : (word_length s (after m b) bs < length bs → separates s (get_or bs (word_length s (after m b) bs) 0) ≡ true) → (p w : Bool) → separates s b ≡ w → cond (p && w) 0 (suc (word_length s (after m b) bs)) < suc (length bs) → separates s (get_or (b ∷ bs) (cond (p && w) 0 (suc (word_length s (after m b) bs))) 0) ≡ true
    step ih true true e h = e
    step ih true false e h = ih (omega (arith, h))
    step ih false w e h = ih (omega (arith, h))

pub word_boundary : (s : Separator) (x : List ℕ) (n : ℕ) → n ≡ word_length s plain x → IsCharBoundary x n
word_boundary s x n e = elim (cases_lt (word_length s plain x) (length x)) [
  | inl less ↦ subst (IsCharBoundary x) (sym e) (IsCharBoundary-before_ascii x (word_length s plain x) less (separator_ascii s _ (stops_at s plain x less)))
  | inr all ↦ subst (IsCharBoundary x) (omega (arith, all, within s plain x, e)) (IsCharBoundary-end x)
]

-- the pieces behind the one at the front
abbrev more_pieces : Separator → List ℕ → List (List ℕ)
more_pieces s [] = []
more_pieces s (b ∷ bs) = pieces s plain bs

-- the piece at the front is the word there
front_piece : (s : Separator) (m : Mode) (x : List ℕ) → pieces s m x ≡ take (word_length s m x) x ∷ more_pieces s (drop (word_length s m x) x)
front_piece s m [] = refl
front_piece s m (b ∷ bs) = step (front_piece s (after m b) bs) (is_plain m && separates s b)
  where
    step : pieces s (after m b) bs ≡ take (word_length s (after m b) bs) bs ∷ more_pieces s (drop (word_length s (after m b) bs) bs) → (t : Bool) → cond t ([] ∷ pieces s plain bs) (onto b (pieces s (after m b) bs)) ≡ take (cond t 0 (suc (word_length s (after m b) bs))) (b ∷ bs) ∷ more_pieces s (drop (cond t 0 (suc (word_length s (after m b) bs))) (b ∷ bs))
    step ih true = refl
    step ih false = ap (onto b) ih

-- behind a word stands a separator or nothing, so that the words there are the other pieces
abbrev ends : Separator → List ℕ → Bool
ends s [] = true
ends s (b ∷ bs) = separates s b

ends_behind : (s : Separator) (m : Mode) (x : List ℕ) → ends s (drop (word_length s m x) x) ≡ true
ends_behind s m [] = refl
ends_behind s m (b ∷ bs) = step (ends_behind s (after m b) bs) (is_plain m) (separates s b) refl
  where
    step : ends s (drop (word_length s (after m b) bs) bs) ≡ true → (p w : Bool) → separates s b ≡ w → ends s (drop (cond (p && w) 0 (suc (word_length s (after m b) bs))) (b ∷ bs)) ≡ true
    step ih true true e = e
    step ih true false e = ih
    step ih false w e = ih

more_words : (s : Separator) (x : List ℕ) → ends s x ≡ true → filter is_some (more_pieces s x) ≡ words_of s x
unfolding words_of
more_words s [] e = refl
more_words s (b ∷ bs) e = rw e refl

not_zero : (n : ℕ) → eqb (suc n) 0 ≡ false
not_zero n = elim (eqb_tells (suc n) 0) [ inl t ↦ absurd (omega (arith, t.1)) | inr t ↦ t.0 ]

some_word : (s : Separator) (x : List ℕ) → is_start s x ≡ true → eqb (length x) 0 ≡ false → is_some (take (word_length s plain x) x) ≡ true
some_word s [] h some = absurd (no some)
some_word s (b ∷ bs) h some = step (separates s b) refl
  where
    wrong : not true ≡ true → ⊥
    wrong e = cc

    step : (t : Bool) → separates s b ≡ t → is_some (take (cond t 0 (suc (word_length s (after plain b) bs))) (b ∷ bs)) ≡ true
    step true e = absurd (wrong (rw e at h))
    step false e = ap not (not_zero (length (take (word_length s (after plain b) bs) bs)))

-- the word at the front is the first of the words
pub first_word : (s : Separator) (x : List ℕ) → is_start s x ≡ true → eqb (length x) 0 ≡ false → words_of s x ≡ take (word_length s plain x) x ∷ words_of s (drop (word_length s plain x) x)
unfolding words_of
first_word s x start some =
    ap (filter is_some) (front_piece s plain x)
    ∙ (rw (some_word s x start some) (ap (λ l. take (word_length s plain x) x ∷ l) (more_words s (drop (word_length s plain x) x) (ends_behind s plain x))))

pub no_words : (s : Separator) (x : List ℕ) → eqb (length x) 0 ≡ true → words_of s x ≡ []
unfolding words_of
no_words s [] e = refl
no_words s (b ∷ bs) e = absurd (no (sym e ∙ not_zero (length bs)))
