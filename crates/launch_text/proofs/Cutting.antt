-- Where a text is cut into words.
use Rattle.std.proofs.Common.{◌≡◌, ℕ, zero, suc, ◌<◌, ◌≤◌, ◌+◌, Bool, true, false, cond, eqb, ◌&&◌, not, List, [], ◌∷◌, ◌++◌, length, drop, take, get_or, inl, inr, refl, sym, ap, subst, arith}
use Rattle.std.specs.List.{list_all, take_while}
use Rattle.std.specs.Str.{IsCharBoundary}
use Rattle.std.proofs.lemmas.Bool.{cases_lt}
use Rattle.std.proofs.lemmas.List.Sums.{take_while-cons}
use Rattle.std.proofs.lemmas.Str.{IsCharBoundary-end, IsCharBoundary-before_ascii}
use Rattle.text_words.specs.Bytes.{is_white}
use Rattle.text_words.specs.Words.{after, is_plain, plain}
use Rattle.text_words.specs.declared.word.Mode.{Mode}
use Rattle.text_words.specs.declared.word.Separator.TheVariants.{White}
use Rattle.text_words.proofs.Cutting.{separator_ascii}
use Rattle.launch_text.specs.Words.{ends, is_start, word_length}

-- what is behind it does not begin with white space, and it is white space
pub behind_start : (x : List ℕ) → is_start (drop (length (take_while is_white x)) x) ≡ true
behind_start [] = refl
behind_start (b ∷ bs) = rw (take_while-cons is_white b bs) (step (behind_start bs) (is_white b) refl)
  where
    step : is_start (drop (length (take_while is_white bs)) bs) ≡ true → (t : Bool) → is_white b ≡ t → is_start (drop (length (cond t (b ∷ take_while is_white bs) [])) (b ∷ bs)) ≡ true
    step ih true e = ih
    step ih false e = rw e refl

pub front_white : (x : List ℕ) → (front : List ℕ) × (x ≡ front ++ drop (length (take_while is_white x)) x) × (list_all is_white front ≡ true)
front_white [] = ([], refl, refl)
front_white (b ∷ bs) = rw (take_while-cons is_white b bs) (step (front_white bs) (is_white b) refl)
  where
    step : (front : List ℕ) × (bs ≡ front ++ drop (length (take_while is_white bs)) bs) × (list_all is_white front ≡ true) → (t : Bool) → is_white b ≡ t → (front : List ℕ) × (b ∷ bs ≡ front ++ drop (length (cond t (b ∷ take_while is_white bs) [])) (b ∷ bs)) × (list_all is_white front ≡ true)
    step r true e = (b ∷ r.0, ap (λ l. b ∷ l) r.1, rw e r.2)
    step r false e = ([], refl, refl)

-- a word is no longer than the text
pub within : (m : Mode) (x : List ℕ) → word_length m x ≤ length x
within m [] = omega arith
within m (b ∷ bs) = step (within (after m b) bs) (is_plain m && is_white b)
  where
    step : word_length (after m b) bs ≤ length bs → (t : Bool) → cond t 0 (suc (word_length (after m b) bs)) ≤ suc (length bs)
    step ih true = omega arith
    step ih false = omega (arith, ih)

-- where the text goes on behind a word, white space stands there
stops_at : (m : Mode) (x : List ℕ) → word_length m x < length x → is_white (get_or x (word_length m x) 0) ≡ true
stops_at m [] h = absurd (omega (arith, h))
stops_at m (b ∷ bs) h = step (λ g. stops_at (after m b) bs g) (is_plain m) (is_white b) refl h
  where
    step : (word_length (after m b) bs < length bs → is_white (get_or bs (word_length (after m b) bs) 0) ≡ true) → (p w : Bool) → is_white b ≡ w → cond (p && w) 0 (suc (word_length (after m b) bs)) < suc (length bs) → is_white (get_or (b ∷ bs) (cond (p && w) 0 (suc (word_length (after m b) bs))) 0) ≡ true
    step ih true true e h = e
    step ih true false e h = ih (omega (arith, h))
    step ih false w e h = ih (omega (arith, h))

pub word_boundary : (x : List ℕ) (n : ℕ) → n ≡ word_length plain x → IsCharBoundary x n
word_boundary x n e = elim (cases_lt (word_length plain x) (length x)) [
  | inl less ↦ subst (IsCharBoundary x) (sym e) (IsCharBoundary-before_ascii x (word_length plain x) less (separator_ascii White _ (stops_at plain x less)))
  | inr all ↦ subst (IsCharBoundary x) (omega (arith, all, within plain x, e)) (IsCharBoundary-end x)
]

pub ends_behind : (m : Mode) (x : List ℕ) → ends (drop (word_length m x) x) ≡ true
ends_behind m [] = refl
ends_behind m (b ∷ bs) = step (ends_behind (after m b) bs) (is_plain m) (is_white b) refl
  where
    step : ends (drop (word_length (after m b) bs) bs) ≡ true → (p w : Bool) → is_white b ≡ w → ends (drop (cond (p && w) 0 (suc (word_length (after m b) bs))) (b ∷ bs)) ≡ true
    step ih true true e = e
    step ih true false e = ih
    step ih false w e = ih

pub some_word : (x : List ℕ) → is_start x ≡ true → 0 < length x → 0 < word_length plain x
some_word [] s h = absurd (omega (arith, h))
some_word (b ∷ bs) s h = step (is_white b) refl
  where
    no : not true ≡ true → ⊥
    no e = cc

    step : (t : Bool) → is_white b ≡ t → 0 < cond t 0 (suc (word_length (after plain b) bs))
    step true e = absurd (no (rw e at s))
    step false e = omega arith

pub length_front : (x : List ℕ) (n : ℕ) → n ≤ length x → length (take n x) ≡ n
length_front x zero h = refl
length_front [] (suc n) h = absurd (omega (arith, h))
length_front (b ∷ bs) (suc n) h = ap suc (length_front bs n (omega (arith, h)))

length_back : (x : List ℕ) (n : ℕ) → n ≤ length x → length (drop n x) + n ≡ length x
length_back x zero h = omega arith
length_back [] (suc n) h = absurd (omega (arith, h))
length_back (b ∷ bs) (suc n) h = omega (arith, length_back bs n (omega (arith, h)))

pub shorter : (x : List ℕ) → is_start x ≡ true → 0 < length x → length (drop (word_length plain x) x) < length x
shorter x s h = omega (arith, some_word x s h, length_back x (word_length plain x) (within plain x))

pub two_parts : (x : List ℕ) (n : ℕ) → x ≡ take n x ++ drop n x
two_parts x zero = refl
two_parts [] (suc n) = refl
two_parts (b ∷ bs) (suc n) = ap (λ l. b ∷ l) (two_parts bs n)

pub positive : (n : ℕ) → eqb n 0 ≡ false → 0 < n
positive zero e = absurd (no e)
  where
    no : true ≡ false → ⊥
    no e = cc
positive (suc n) e = omega arith
