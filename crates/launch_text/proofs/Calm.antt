-- Bytes that neither end a word nor change how the next one stands.
use Rattle.std.proofs.Common.{◌≡◌, ℕ, suc, ◌<◌, Bool, true, false, cond, eqb, ◌&&◌, not, List, [], ◌∷◌, ◌++◌, length, drop, Option, Some, None, inl, inr, refl, sym, ap, ◌∙◌, arith, length-append}
use Rattle.std.specs.List.{list_all}
use Rattle.std.proofs.lemmas.Bool.{eqb-true}
use Rattle.std.proofs.lemmas.Bool.Decides.{eqb_tells}
use Rattle.std.proofs.lemmas.List.Folds.{list_all-append}
use Rattle.text_words.specs.Bytes.{in_class, is_run, is_white}
use Rattle.text_words.specs.Words.{after, mode_behind, is_closed, is_plain, plain}
use Rattle.text_words.specs.declared.class.Class.{Class}
use Rattle.text_words.specs.declared.class.Class.TheVariants.{Kind, Name, Property}
use Rattle.text_words.specs.declared.word.Mode.{Mode}
use Rattle.launch_text.specs.Printed.{reference_text}
use Rattle.launch_text.specs.Words.{ends, is_pad, is_word, word_length}
use Rattle.launch_text.proofs.Cutting.{ends_behind}
use Rattle.text_words.proofs.Kept.{behind_append}
use Rattle.launch_text.proofs.Splitting.{drop_front}
use Rattle.gst_value.proofs.Basics.{no_true, and_left, and_right, and_both as both_true, not_false}

abbrev pub calm : ℕ → Bool
calm b = not (eqb b 34) && (not (eqb b 92) && not (is_white b))

class_calm : (class : Class) (b : ℕ) → in_class class b ≡ true → calm b ≡ true
class_calm Kind b h = grind arith
class_calm Name b h = grind arith
class_calm Property b h = grind arith

all_calm : (class : Class) (x : List ℕ) → list_all (in_class class) x ≡ true → list_all calm x ≡ true
all_calm class [] h = refl
all_calm class (b ∷ bs) h = both_true (calm b) (list_all calm bs) (class_calm class b (and_left (in_class class b) _ h)) (all_calm class bs (and_right (in_class class b) _ h))

pub run_all : (class : Class) (x : List ℕ) → is_run class x ≡ true → list_all (in_class class) x ≡ true
run_all class x h = and_right (not (eqb (length x) 0)) (list_all (in_class class) x) h

pub run_calm : (class : Class) (x : List ℕ) → is_run class x ≡ true → list_all calm x ≡ true
run_calm class x h = all_calm class x (run_all class x h)

pub run_some : (class : Class) (x : List ℕ) → is_run class x ≡ true → 0 < length x
run_some class [] h = absurd (no_true h)
run_some class (b ∷ bs) h = omega arith

calm_after : (b : ℕ) → calm b ≡ true → after plain b ≡ plain
calm_after b h =
    let q : eqb b 34 ≡ false = not_false (eqb b 34) (and_left _ _ h) in
    let s : eqb b 92 ≡ false = not_false (eqb b 92) (and_left _ _ (and_right (not (eqb b 34)) _ h)) in
    rw (q, s) refl

calm_white : (b : ℕ) → calm b ≡ true → is_white b ≡ false
calm_white b h = not_false (is_white b) (and_right (not (eqb b 92)) _ (and_right (not (eqb b 34)) _ h))

pub calm_behind : (x : List ℕ) → list_all calm x ≡ true → mode_behind plain x ≡ plain
calm_behind [] h = refl
calm_behind (b ∷ bs) h = ap (λ m. mode_behind m bs) (calm_after b (and_left (calm b) _ h)) ∙ calm_behind bs (and_right (calm b) _ h)

pub calm_closed : (x : List ℕ) → list_all calm x ≡ true → is_closed x ≡ true
calm_closed x h = ap is_plain (calm_behind x h)

pub calm_length : (x : List ℕ) → list_all calm x ≡ true → word_length plain x ≡ length x
calm_length [] h = refl
calm_length (b ∷ bs) h = ap (λ t. cond t 0 (suc (word_length (after plain b) bs))) (calm_white b (and_left (calm b) _ h)) ∙ ap (λ m. suc (word_length m bs)) (calm_after b (and_left (calm b) _ h)) ∙ ap suc (calm_length bs (and_right (calm b) _ h))

-- a closed word stops where white space or the end stands
pub stops_more : (m : Mode) (w x : List ℕ) → word_length m w ≡ length w → is_plain (mode_behind m w) ≡ true → ends x ≡ true → word_length m (w ++ x) ≡ length w
stops_more m [] [] h c e = refl
stops_more m [] (b ∷ bs) h c e = rw (c, e) refl
stops_more m (b ∷ bs) x h c e = step (is_plain m && is_white b) h (λ k. stops_more (after m b) bs x k c e)
  where
    step : (t : Bool) → cond t 0 (suc (word_length (after m b) bs)) ≡ suc (length bs) → (word_length (after m b) bs ≡ length bs → word_length (after m b) (bs ++ x) ≡ length bs) → cond t 0 (suc (word_length (after m b) (bs ++ x))) ≡ suc (length bs)
    step true k ih = absurd (omega (arith, k))
    step false k ih = ap suc (ih (omega (arith, k)))

-- a word that stops is a word, and what follows ends it
pub stops_alone : (m : Mode) (w x : List ℕ) → word_length m (w ++ x) ≡ length w → word_length m w ≡ length w
stops_alone m [] x h = refl
stops_alone m (b ∷ bs) x h = step (is_plain m && is_white b) h (λ k. stops_alone (after m b) bs x k)
  where
    step : (t : Bool) → cond t 0 (suc (word_length (after m b) (bs ++ x))) ≡ suc (length bs) → (word_length (after m b) (bs ++ x) ≡ length bs → word_length (after m b) bs ≡ length bs) → cond t 0 (suc (word_length (after m b) bs)) ≡ suc (length bs)
    step true k ih = absurd (omega (arith, k))
    step false k ih = ap suc (ih (omega (arith, k)))

pub stops_ends : (w x : List ℕ) → word_length plain (w ++ x) ≡ length w → ends x ≡ true
stops_ends w x h = ap ends (sym (drop_front w x) ∙ ap (λ n. drop n (w ++ x)) (sym h)) ∙ ends_behind plain (w ++ x)

pub not_zero : (n : ℕ) → 0 < n → not (eqb n 0) ≡ true
not_zero n some = elim (eqb_tells n 0) [ inl t ↦ absurd (omega (arith, some, t.1)) | inr t ↦ rw t.0 refl ]

same_length : (n m : ℕ) → 0 < n → m ≡ n → (not (eqb n 0) && eqb m n) ≡ true
same_length n m some e = both_true (not (eqb n 0)) (eqb m n) (not_zero n some) second
  where
    second : eqb m n ≡ true
    second = elim (eqb_tells m n) [ inl t ↦ t.0 | inr t ↦ absurd (t.1 e) ]

pub word_is : (w : List ℕ) → 0 < length w → word_length plain w ≡ length w → is_word w ≡ true
word_is w some h = same_length (length w) (word_length plain w) some h

pub word_some : (w : List ℕ) → is_word w ≡ true → 0 < length w
word_some [] h = absurd (no_true h)
word_some (b ∷ bs) h = omega arith

pub word_all : (w : List ℕ) → is_word w ≡ true → word_length plain w ≡ length w
word_all w h = eqb-true (word_length plain w) (length w) (and_right (not (eqb (length w) 0)) _ h)

-- the word of a reference is calm
pub reference_calm : (name : List ℕ) (pad : Option (List ℕ)) → is_run Name name ≡ true → is_pad pad ≡ true → list_all calm (reference_text name pad) ≡ true
reference_calm name None h k = list_all-append calm name (46 ∷ []) ∙ both_true (list_all calm name) true (run_calm Name name h) refl
reference_calm name (Some pad) h k = list_all-append calm name (46 ∷ pad) ∙ both_true (list_all calm name) (list_all calm pad) (run_calm Name name h) (run_calm Name pad k)

pub some_more : (x : List ℕ) (b : ℕ) (y : List ℕ) → 0 < length (x ++ b ∷ y)
some_more x b y = omega (arith, length-append x (b ∷ y))

pub reference_some : (name : List ℕ) (pad : Option (List ℕ)) → 0 < length (reference_text name pad)
reference_some name None = some_more name 46 []
reference_some name (Some pad) = some_more name 46 pad

-- a word with `=` behind the name of a property is closed where its value is
pub property_closed : (name spelling : List ℕ) → is_run Property name ≡ true → is_closed (name ++ 61 ∷ spelling) ≡ is_closed spelling
property_closed name spelling h = ap is_plain (behind_append plain name (61 ∷ spelling) ∙ ap (λ m. mode_behind m (61 ∷ spelling)) (calm_behind name (run_calm Property name h)))
