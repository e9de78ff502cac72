-- Readers of fractions, single values and ranges.
use Rattle.std.proofs.Common.{◌≡◌, ℕ, suc, ℤ, Bool, true, false, cond, eqb, ◌||◌, List, [], ◌∷◌, ◌++◌, length, Option, Some, None, Ok, Err, inl, inr, ◌⊎◌, refl, sym, ap, ◌∙◌, subst, arith, append-nil, codes}
use Rattle.std.specs.Prelude.{is_some}
use Rattle.std.specs.List.{list_all}
use Rattle.std.proofs.lemmas.Bool.{eqb-true}
use Rattle.std.proofs.lemmas.Bool.Decides.{eqb_tells}
use Rattle.std.proofs.lemmas.Option.{same_Some}
use Rattle.gst_value.specs.declared.one.One.{One}
use Rattle.gst_value.specs.declared.one.One.TheVariants.{Int, Bool as Truth, Text}
use Rattle.caps_text.specs.Answers.{Answer, ◌>>=◌, found}
use Rattle.caps_text.specs.Bytes.{in_class, is_digit, is_letter, is_sign}
use Rattle.caps_text.specs.Grammar.{Then, As, Sure, Is, Spaces, Mark, Run, Number, Wanted_number, Pair, Quotient, Bare_word, Untyped, In_quotes, Some_string, Truth_value, Single_value, Range, Member, is_space}
use Rattle.caps_text.specs.Ratio.{ratio}
use Rattle.caps_text.specs.Reading.{after_byte, behind_spaces, expect, judge, judge_number, judge_pair, judge_words, least_number, range, read_fraction, read_mark, read_member, read_member_from, read_number, read_pair, read_quoted, read_range, read_single, read_string, read_truth, read_untyped, read_untyped_from, some_run, takes_ranges, whole, whole_number, whole_pair}
use Rattle.caps_text.specs.declared.class.Class.TheVariants.{Word}
use Rattle.caps_text.specs.declared.kind.Kind.{Kind}
use Rattle.caps_text.specs.declared.kind.Kind.TheVariants.{Int as Whole, Bool as Either, Text as Words, Fraction as Quotients}
use Rattle.caps_text.specs.declared.number.Wanted.TheVariants.{AtLeast, Denominator}
use Rattle.caps_text.proofs.Choices.{Behind, is_byte, reads_choice, reads_iff}
use Rattle.caps_text.proofs.Numbers.{reads_number, reads_any_number, number_starts}
use Rattle.caps_text.proofs.Readers.{IsReader, Stops, Starts, nothing, ok_is, reads_then, reads_as, reads_sure, reads_weaker, reads_any, stops_nothing, starts_stop, starts_more}
use Rattle.caps_text.proofs.Strings.{To_quote, reads_to_quote, reads_string, reads_truth, word_apart}
use Rattle.caps_text.proofs.Words.{reads_byte, reads_mark, reads_run, reads_spaces, skipping, starts_is, starts_mark, starts_spaces}
use Rattle.gst_value.proofs.Basics.{and_left, neither as not_or}

abbrev pub any_read : List ℕ → Answer ℤ
any_read = read_number (AtLeast least_number)

-- two numbers with a slash between
pub reads_pair : IsReader Pair is_digit read_pair
unfolding read_pair
reads_pair = reads_then Number (λ num. Then (Is (codes "/")) (λ s. As (λ den. (num, den)) Number)) is_digit is_digit any_read (λ num x. expect 47 x >>= λ s. any_read s.1 >>= λ d. Ok ((num, d.0), d.1)) reads_any_number
    (λ num. reads_then (Is (codes "/")) (λ s. As (λ den. (num, den)) Number) nothing is_digit (expect 47) (λ s x. any_read x >>= λ d. Ok ((num, d.0), d.1)) (reads_byte 47) (λ s. reads_as (λ den. (num, den)) Number is_digit any_read reads_any_number) (λ v back w rest q stop. stops_nothing (back ++ rest)))
    (λ num back w rest q stop. starts_stop is_digit back rest (starts_is is_digit 47 [] (λ s. As (λ den. (num, den)) Number) back w refl q))

-- a fraction whose denominator is judged as it is read
abbrev Judged : List ℕ → One → Type 0
Judged = Then Number (λ num. Then (Is (codes "/")) (λ s. Sure (λ den. ratio num den) (Wanted_number (Denominator num))))

reads_judged : IsReader Judged is_digit read_fraction
unfolding read_fraction
reads_judged = reads_then Number (λ num. Then (Is (codes "/")) (λ s. Sure (λ den. ratio num den) (Wanted_number (Denominator num)))) is_digit is_digit any_read (λ num x. expect 47 x >>= λ s. read_number (Denominator num) s.1 >>= λ d. found (ratio num d.0) d.1) reads_any_number
    (λ num. reads_then (Is (codes "/")) (λ s. Sure (λ den. ratio num den) (Wanted_number (Denominator num))) nothing is_digit (expect 47) (λ s x. read_number (Denominator num) x >>= λ d. found (ratio num d.0) d.1) (reads_byte 47) (λ s. reads_sure (λ den. ratio num den) (Wanted_number (Denominator num)) is_digit (read_number (Denominator num)) (reads_number (Denominator num))) (λ v back w rest q stop. stops_nothing (back ++ rest)))
    (λ num back w rest q stop. starts_stop is_digit back rest (starts_is is_digit 47 [] (λ s. Sure (λ den. ratio num den) (Wanted_number (Denominator num))) back w refl q))

judged_to : (text : List ℕ) (one : One) → Judged text one → Quotient text one
judged_to text one h = let s = h.5 in let d = s.5 in (h.0, h.1, h.2, h.3, h.4, (s.0, s.1, s.2, s.3, s.4, (d.0, d.1.0, d.2)))

judged_from : (text : List ℕ) (one : One) → Quotient text one → Judged text one
judged_from text one h = let s = h.5 in let d = s.5 in (h.0, h.1, h.2, h.3, h.4, (s.0, s.1, s.2, s.3, s.4, (d.0, (d.1, ap is_some d.2), d.2)))

pub reads_fraction : IsReader Quotient is_digit read_fraction
reads_fraction = reads_iff Judged Quotient is_digit read_fraction judged_to judged_from reads_judged

-- a value of a whole text
pub no_length : (xs : List ℕ) → eqb (length xs) 0 ≡ true → xs ≡ []
no_length [] h = refl
no_length (x ∷ xs) h = absurd (let e = eqb-true (suc (length xs)) 0 h in omega (arith, e))

module _ {V : Type 0} (P : List ℕ → V → Type 0) (test : ℕ → Bool) (r : List ℕ → Answer V) (first : IsReader P test r) where
  whole_step : (x : List ℕ) (v : V) (a : Answer V) → r x ≡ a → whole a ≡ Some v → P x v
  whole_step x v (Err e) k h = absurd (cc)
  whole_step x v (Ok p) k h = go (eqb (length p.1) 0) refl h
    where
      go : (t : Bool) → eqb (length p.1) 0 ≡ t → cond {A = Option V} t (Some p.0) None ≡ Some v → P x v
      go true e h =
          let nil = no_length p.1 e in
          let s = first.sound x p.1 p.0 k in
          let is : x ≡ s.0 = s.1 ∙ ap (λ l. s.0 ++ l) nil ∙ append-nil s.0 in
          subst (P x) (same_Some p.0 v h) (subst (λ l. P l p.0) (sym is) s.2)
      go false e h = absurd (cc)

  pub whole_to : (x : List ℕ) (v : V) → whole (r x) ≡ Some v → P x v
  whole_to x v h = whole_step x v (r x) refl h

  pub whole_from : (x : List ℕ) (v : V) → P x v → whole (r x) ≡ Some v
  whole_from x v p = ap (λ l. whole (r l)) (sym (append-nil x)) ∙ ap whole (first.complete x [] v p tt)

  pub whole_none : (x : List ℕ) → whole (r x) ≡ None → (v : V) → P x v → ⊥
  whole_none x h v p = let bad : None ≡ Some v = sym h ∙ whole_from x v p in cc

-- two numbers with a slash between are no number
pair_no_number : (text : List ℕ) (p : ℤ × ℤ) (n : ℤ) → Pair text p → Number text n → ⊥
pair_no_number text p n h k =
    let s = h.5 in
    let back : h.1 ≡ 47 ∷ s.1 = s.3 ∙ ap (λ l. l ++ s.1) s.4 in
    let one : any_read text ≡ Ok (h.2, h.1) = ap any_read h.3 ∙ reads_any_number.complete h.0 h.1 h.2 h.4 (subst (Stops is_digit) (sym back) refl) in
    let two : any_read text ≡ Ok (n, []) = ap any_read (sym (append-nil text)) ∙ reads_any_number.complete text [] n k tt in
    let same : h.1 ≡ [] = ap (λ q. q.1) (ok_is (h.2, h.1) (n, []) (sym one ∙ two)) in
    let bad : 47 ∷ s.1 ≡ [] = sym back ∙ same in
    cc

pair_quotient : (text : List ℕ) (p : ℤ × ℤ) (one : One) → Pair text p → ratio p.0 p.1 ≡ Some one → Quotient text one
pair_quotient text p one h e =
    let s = h.5 in
    let d = s.5 in
    let is : ratio h.2 d.0 ≡ Some one = (λ i. ratio ((sym d.2 i).0) ((sym d.2 i).1)) ∙ e in
    (h.0, h.1, h.2, h.3, h.4, (s.0, s.1, s.2, s.3, s.4, (d.0, d.1, is)))

quotient_pair : (text : List ℕ) (one : One) → Quotient text one → (p : ℤ × ℤ) × Pair text p × (ratio p.0 p.1 ≡ Some one)
quotient_pair text one h =
    let s = h.5 in
    let d = s.5 in
    ((h.2, d.0), (h.0, h.1, h.2, h.3, h.4, (s.0, s.1, s.2, s.3, s.4, (d.0, d.1, refl))), d.2)

-- what a word is
judge_to : (text : List ℕ) (one : One) → judge text ≡ Some one → Bare_word text one
unfolding judge whole_number whole_pair
judge_to text one h = step (whole (any_read text)) (whole (read_pair text)) refl refl h
  where
    step : (o : Option ℤ) (q : Option (ℤ × ℤ)) → whole (any_read text) ≡ o → whole (read_pair text) ≡ q → judge_number text o ≡ Some one → Bare_word text one
    step (Some n) q e f k = inl (n, whole_to Number is_digit any_read reads_any_number text n e, sym (same_Some (Int n) one k))
    step None q e f k = inr (pair q f k)
      where
        pair : (q : Option (ℤ × ℤ)) → whole (read_pair text) ≡ q → judge_number text None ≡ Some one → Quotient text one ⊎ (((n : ℤ) → ¬ Number text n) × ((p : ℤ × ℤ) → ¬ Pair text p) × (one ≡ judge_words text))
        pair (Some p) f k = inl (pair_quotient text p one (whole_to Pair is_digit read_pair reads_pair text p f) (sym (ap (judge_pair text) f) ∙ k))
        pair None f k = inr (whole_none Number is_digit any_read reads_any_number text e, whole_none Pair is_digit read_pair reads_pair text f, sym (same_Some (judge_words text) one (sym (ap (judge_pair text) f) ∙ k)))

none_of : {V : Type 0} (o : Option V) → ((v : V) → o ≡ Some v → ⊥) → o ≡ None
none_of None h = refl
none_of (Some v) h = absurd (h v refl)

judge_from : (text : List ℕ) (one : One) → Bare_word text one → judge text ≡ Some one
unfolding judge whole_number whole_pair
judge_from text one (inl h) = ap (judge_number text) (whole_from Number is_digit any_read reads_any_number text h.0 h.1) ∙ ap Some (sym h.2)
judge_from text one (inr (inl h)) =
    let q = quotient_pair text one h in
    ap (judge_number text) (none_of (whole (any_read text)) (λ n e. pair_no_number text q.0 n q.1 (whole_to Number is_digit any_read reads_any_number text n e)))
    ∙ ap (judge_pair text) (whole_from Pair is_digit read_pair reads_pair text q.0 q.1)
    ∙ q.2
judge_from text one (inr (inr h)) =
    ap (judge_number text) (none_of (whole (any_read text)) (λ n e. h.0 n (whole_to Number is_digit any_read reads_any_number text n e)))
    ∙ ap (judge_pair text) (none_of (whole (read_pair text)) (λ p e. h.1 p (whole_to Pair is_digit read_pair reads_pair text p e)))
    ∙ ap Some (sym h.2)

-- a value without type
reads_untyped_parts : IsReader (λ text one. Behind 34 (As Text To_quote) text one ⊎ Sure judge (Run Word) text one) (in_class Word) read_untyped
unfolding read_untyped
reads_untyped_parts = reads_choice 34 (As Text To_quote) (Sure judge (Run Word)) (in_class Word) (λ x. read_quoted false [] x >>= λ a. Ok (Text a.0, a.1)) (λ x. some_run Word x >>= λ a. found (judge a.0) a.1) read_untyped_from
    (reads_any (As Text To_quote) (in_class Word) _ (reads_as Text To_quote nothing (read_quoted false []) reads_to_quote))
    (reads_sure judge (Run Word) (in_class Word) (some_run Word) (reads_run Word))
    (λ used v q. word_apart used q.0 q.1) (λ x y. refl) (λ x. refl)

pub reads_untyped : IsReader Untyped (in_class Word) read_untyped
reads_untyped = reads_iff (λ text one. Behind 34 (As Text To_quote) text one ⊎ Sure judge (Run Word) text one) Untyped (in_class Word) read_untyped
    (λ text one h. elim h [
      | inl q ↦ inr (q.2.0, (q.2.1.0, q.1 ∙ ap (λ l. 34 ∷ l) q.2.1.1, q.2.1.2), q.2.2)
      | inr s ↦ inl ((refl, s.1.1, s.1.2), judge_to text one (sym (ap judge s.1.0) ∙ s.2))
    ])
    (λ text one h. elim h [
      | inl w ↦ inr (text, w.0, judge_from text one w.1)
      | inr q ↦ inl (q.1.0 ++ 34 ∷ [], q.1.1, (q.0, (q.1.0, refl, q.1.2), q.2))
    ])
    reads_untyped_parts

no_digit : (b : ℕ) → in_class Word b ≡ false → is_digit b ≡ false
no_digit b h = (not_or (is_letter b) (is_digit b) (not_or (is_letter b || is_digit b) (is_sign Word b) h).0).1

pub stops_digit : (rest : List ℕ) → Stops (in_class Word) rest → Stops is_digit rest
stops_digit [] h = tt
stops_digit (b ∷ bs) h = no_digit b h

-- a single value
pub reads_single : (kind : Option Kind) → IsReader (Single_value kind) (in_class Word) (read_single kind)
unfolding read_single
reads_single None = reads_untyped
reads_single (Some Whole) = reads_weaker (As Int Number) is_digit (in_class Word) _ stops_digit (reads_as Int Number is_digit any_read reads_any_number)
reads_single (Some Words) = reads_as Text Some_string (in_class Word) read_string reads_string
reads_single (Some Either) = reads_any (As Truth Truth_value) (in_class Word) _ (reads_as Truth Truth_value nothing read_truth reads_truth)
reads_single (Some Quotients) = reads_weaker Quotient is_digit (in_class Word) read_fraction stops_digit reads_fraction

-- the kinds of bytes with which values begin
abbrev pub Opens_none : (ℕ → Bool) → Type 0
Opens_none test = ((b : ℕ) → in_class Word b ≡ true → test b ≡ false) × (test 34 ≡ false)

or-second : (a b c : Bool) → b ≡ true → ((a || b) || c) ≡ true
or-second true b c h = refl
or-second false b c h = ap (λ t. t || c) h

digit_word : (b : ℕ) → is_digit b ≡ true → in_class Word b ≡ true
digit_word b h = or-second (is_letter b) (is_digit b) (is_sign Word b) h

word_opens : (test : ℕ → Bool) (text run : List ℕ) → Opens_none test → Run Word text run → Starts test text
word_opens test [] run o h = absurd (let some = h.1 in omega (arith, some))
word_opens test (b ∷ bs) run o h = o.0 b (and_left (in_class Word b) (list_all (in_class Word) bs) h.2)

number_opens : (test : ℕ → Bool) (text : List ℕ) (n : ℤ) → Opens_none test → Number text n → Starts test text
number_opens test text n o h = number_starts test text n (λ b d. o.0 b (digit_word b d)) (o.0 45 refl) h

quotient_opens : (test : ℕ → Bool) (text : List ℕ) (one : One) → Opens_none test → Quotient text one → Starts test text
quotient_opens test text one o h = subst (Starts test) (sym h.3) (starts_more test h.0 h.1 (number_opens test h.0 h.2 o h.4))

quotes_open : (test : ℕ → Bool) (text t : List ℕ) → Opens_none test → In_quotes text t → Starts test text
quotes_open test text t o h = subst (Starts test) (sym h.1) o.1

pub single_opens : (test : ℕ → Bool) (kind : Option Kind) (text : List ℕ) (one : One) → Opens_none test → Single_value kind text one → Starts test text
single_opens test None text one o (inl h) = word_opens test text text o h.0
single_opens test None text one o (inr h) = quotes_open test text h.0 o h.1
single_opens test (Some Whole) text one o h = number_opens test text h.0 o h.1
single_opens test (Some Words) text one o h = elim h.1 [ inl r ↦ word_opens test text h.0 o r | inr q ↦ quotes_open test text h.0 o q ]
single_opens test (Some Either) text one o h = elim h.1 [ inl p ↦ subst (Starts test) (sym p.0) (o.0 116 refl) | inr p ↦ subst (Starts test) (sym p.0) (o.0 102 refl) ]
single_opens test (Some Quotients) text one o h = quotient_opens test text one o h

-- the test for one byte that begins no value
pub byte_opens : (m : ℕ) → in_class Word m ≡ false → eqb 34 m ≡ false → Opens_none (is_byte m)
byte_opens m e f = (λ b h. elim (eqb_tells b m) [ inl t ↦ absurd (let bad : in_class Word m ≡ true = subst (λ n. in_class Word n ≡ true) t.1 h in let worse : true ≡ false = sym bad ∙ e in cc) | inr t ↦ t.0 ], f)

pub space_opens : Opens_none is_space
space_opens = byte_opens 32 refl refl

-- what stands in a range behind its opening bracket
abbrev pub Range_end : ℤ → ℤ → List ℕ → One → Type 0
Range_end low high = Then Spaces (λ t. As (λ e. range low high) (Is (codes "]")))

abbrev pub Range_high : ℤ → List ℕ → One → Type 0
Range_high low = Then (Wanted_number (AtLeast low)) (λ high. Range_end low high)

abbrev pub Range_tail : List ℕ → One → Type 0
Range_tail = Then Spaces (λ s. Then Number (λ low. Then (Mark 44) (λ m. Range_high low)))

reads_range_end : (low high : ℤ) → IsReader (Range_end low high) nothing (λ x. expect 93 (behind_spaces x) >>= λ e. Ok (range low high, e.1))
reads_range_end low high = reads_then Spaces (λ t. As (λ e. range low high) (Is (codes "]"))) is_space nothing skipping (λ t x. expect 93 x >>= λ e. Ok (range low high, e.1)) reads_spaces
    (λ t. reads_as (λ e. range low high) (Is (codes "]")) nothing (expect 93) (reads_byte 93))
    (λ v back w rest q stop. starts_stop is_space back rest (subst (Starts is_space) (sym q.1) refl))

end_starts : (test : ℕ → Bool) (low high : ℤ) (text : List ℕ) (one : One) → test 32 ≡ false → test 93 ≡ false → Range_end low high text one → Starts test text
end_starts test low high text one e f h =
    subst (Starts test) (sym h.3) (starts_spaces test h.0 h.1 h.4 e (subst (Starts test) (sym h.5.1) f))

reads_range_high : (low : ℤ) → IsReader (Range_high low) nothing (λ x. read_number (AtLeast low) x >>= λ high. expect 93 (behind_spaces high.1) >>= λ e. Ok (range low high.0, e.1))
reads_range_high low = reads_then (Wanted_number (AtLeast low)) (λ high. Range_end low high) is_digit nothing (read_number (AtLeast low)) (λ high x. expect 93 (behind_spaces x) >>= λ e. Ok (range low high, e.1)) (reads_number (AtLeast low)) (λ high. reads_range_end low high)
    (λ high back w rest q stop. starts_stop is_digit back rest (end_starts is_digit low high back w refl refl q))

high_starts : (low : ℤ) (text : List ℕ) (one : One) → Range_high low text one → Starts is_space text
high_starts low text one h = subst (Starts is_space) (sym h.3) (starts_more is_space h.0 h.1 (number_opens is_space h.0 h.2 space_opens h.4.0))

pub reads_range : IsReader Range_tail nothing read_range
unfolding read_range
reads_range = reads_then Spaces (λ s. Then Number (λ low. Then (Mark 44) (λ m. Range_high low))) is_space nothing skipping (λ s x. any_read x >>= λ low. read_mark 44 low.1 >>= λ m. read_number (AtLeast low.0) m.1 >>= λ high. expect 93 (behind_spaces high.1) >>= λ e. Ok (range low.0 high.0, e.1)) reads_spaces
    (λ s. reads_then Number (λ low. Then (Mark 44) (λ m. Range_high low)) is_digit nothing any_read (λ low x. read_mark 44 x >>= λ m. read_number (AtLeast low) m.1 >>= λ high. expect 93 (behind_spaces high.1) >>= λ e. Ok (range low high.0, e.1)) reads_any_number
    (λ low. reads_then (Mark 44) (λ m. Range_high low) is_space nothing (read_mark 44) (λ m x. read_number (AtLeast low) x >>= λ high. expect 93 (behind_spaces high.1) >>= λ e. Ok (range low high.0, e.1)) (reads_mark 44 refl) (λ m. reads_range_high low) (λ m back w rest q stop. starts_stop is_space back rest (high_starts low back w q)))
    (λ low back w rest q stop. starts_stop is_digit back rest (starts_mark is_digit 44 (λ m. Range_high low) back w refl refl q)))
    (λ s back w rest q stop. starts_stop is_space back rest (subst (Starts is_space) (sym q.3) (starts_more is_space q.0 q.1 (number_opens is_space q.0 q.2 space_opens q.4))))

behind_to : (text : List ℕ) (one : One) → Behind 91 Range_tail text one → Range text one
behind_to text one h = (91 ∷ [], h.0, tt, h.1, refl, h.2)

behind_from : (text : List ℕ) (one : One) → Range text one → Behind 91 Range_tail text one
behind_from text one h = (h.1, h.3 ∙ ap (λ l. l ++ h.1) h.4, h.5)

-- a single value or a range
reads_either : (kind : Option Kind) → IsReader (λ text one. Behind 91 Range_tail text one ⊎ Single_value kind text one) (in_class Word) (λ x. read_member_from kind x (after_byte 91 x))
reads_either kind = reads_choice 91 Range_tail (Single_value kind) (in_class Word) read_range (read_single kind) (read_member_from kind) (reads_any Range_tail (in_class Word) read_range reads_range) (reads_single kind) (λ used v q. single_opens (is_byte 91) kind used v (byte_opens 91 refl refl) q) (λ x y. refl) (λ x. refl)

either_member : (kind : Option Kind) → takes_ranges kind ≡ true → IsReader (Member kind) (in_class Word) (λ x. read_member_from kind x (after_byte 91 x))
either_member kind e = reads_iff (λ text one. Behind 91 Range_tail text one ⊎ Single_value kind text one) (Member kind) (in_class Word) _
    (λ text one h. elim h [ inl b ↦ inl (e, behind_to text one b) | inr s ↦ inr s ])
    (λ text one h. elim h [ inl r ↦ inl (behind_from text one r.1) | inr s ↦ inr s ])
    (reads_either kind)

single_member : (kind : Option Kind) → takes_ranges kind ≡ false → IsReader (Member kind) (in_class Word) (read_single kind)
single_member kind e = reads_iff (Single_value kind) (Member kind) (in_class Word) _
    (λ text one h. inr h)
    (λ text one h. elim h [ inl r ↦ absurd (let bad : true ≡ false = sym r.0 ∙ e in cc) | inr s ↦ s ])
    (reads_single kind)

pub reads_member : (kind : Option Kind) → IsReader (Member kind) (in_class Word) (read_member kind)
unfolding read_member
reads_member None = either_member None refl
reads_member (Some Whole) = either_member (Some Whole) refl
reads_member (Some Words) = single_member (Some Words) refl
reads_member (Some Either) = single_member (Some Either) refl
reads_member (Some Quotients) = single_member (Some Quotients) refl

pub member_opens : (test : ℕ → Bool) (kind : Option Kind) (text : List ℕ) (one : One) → Opens_none test → test 91 ≡ false → Member kind text one → Starts test text
member_opens test kind text one o e (inl h) = subst (Starts test) (sym (h.1.3 ∙ ap (λ l. l ++ h.1.1) h.1.4)) e
member_opens test kind text one o e (inr h) = single_opens test kind text one o h
