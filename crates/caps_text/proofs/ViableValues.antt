-- What was read of a value that is refused begins some value.
use Rattle.std.proofs.Common.{◌≡◌, ℕ, ◌<◌, ℤ, pos, Bool, true, false, cond, List, [], ◌∷◌, ◌++◌, length, Option, Some, None, Ok, Err, inl, inr, refl, sym, ap, ◌∙◌, subst, arith, append_assoc, append-nil, length-append, codes, leb-true}
use Rattle.std.specs.Prelude.{is_some, int_le}
use Rattle.std.specs.List.{list_all}
use Rattle.std.proofs.lemmas.Int.{ints}
use Rattle.std.proofs.lemmas.List.Folds.{list_all-append}
use Rattle.gst_caps.specs.Common.{as_value}
use Rattle.gst_value.specs.Fractions.{signed}
use Rattle.gst_value.specs.declared.one.One.{One}
use Rattle.gst_value.specs.declared.one.One.TheVariants.{Int, Bool as Truth, Text}
use Rattle.gst_caps.specs.declared.value.Value.TheVariants.{One as Single}
use Rattle.caps_text.specs.Answers.{Answer, misspelt, ◌>>=◌, found}
use Rattle.caps_text.specs.Bytes.{in_class, is_digit}
use Rattle.caps_text.specs.Grammar.{Then, As, Sure, Is, Spaces, Mark, Run, Digits, Number, Wanted_number, Pair, Quotient, Untyped, Some_string, Truth_value, Single_value, Member, Type_word, List_step, List_step_to, Plain_value_to, Field_value_to, Repeated, last}
use Rattle.caps_text.specs.Kinds.{kind_of, kind_text}
use Rattle.caps_text.specs.Ratio.{fits, ratio}
use Rattle.caps_text.specs.Reading.{Next, done, after_byte, behind_spaces, begins, begins_run, expect, judge, judge_words, kept_member, least_number, list_step, list_step_from, range, read_fraction, read_kind, read_kind_word, read_list, read_literal, read_mark, read_member, read_member_from, read_members, read_number, read_quoted, read_range, read_single, read_string, read_string_from, read_truth, read_untyped, read_untyped_from, read_value, read_value_from, read_whole_member, some_run, takes_ranges, within_limit}
use Rattle.caps_text.specs.declared.class.Class.TheVariants.{Word}
use Rattle.caps_text.specs.declared.kind.Kind.{Kind}
use Rattle.caps_text.specs.declared.kind.Kind.TheVariants.{Int as Whole, Bool as Either, Text as Words, Fraction as Quotients}
use Rattle.caps_text.specs.declared.number.Wanted.TheVariants.{AtLeast, Denominator}
use Rattle.caps_text.proofs.Ended.{ended, member_ended}
use Rattle.caps_text.proofs.Listed.{Only, from_typed, list_is_step, over_limit, step_to, value_split}
use Rattle.caps_text.proofs.Local.{rest_is}
use Rattle.caps_text.proofs.LooseListed.{Any_members, Any_tail, In_any_step, More_members, Typed_any}
use Rattle.caps_text.proofs.Numbers.{reads_any_number, reads_number}
use Rattle.caps_text.proofs.Readers.{Reads_front, nothing}
use Rattle.caps_text.proofs.Strings.{To_quote, reads_kind}
use Rattle.caps_text.proofs.Values.{Range_end, Range_high, Range_tail, any_read, reads_member}
use Rattle.caps_text.proofs.Viable.{Begins, Filled, IsSound, IsViable, fill_mark, stopped, viable_as, viable_behind, viable_byte, viable_choice, viable_cond, viable_if, viable_literal, viable_mark, viable_never, viable_quoted, viable_repeat, viable_run, viable_same, viable_then, viable_within}
use Rattle.caps_text.proofs.ViableNumbers.{Possible, even_ratio, number_on}
use Rattle.caps_text.proofs.Words.{reads_byte, reads_mark, reads_run}
use Rattle.gst_value.proofs.Basics.{and_left, and_right, and_both as and-both}

pub fill_then : {V W : Type 0} (P : List ℕ → V → Type 0) (Q : V → List ℕ → W → Type 0) → Filled P → ((used : List ℕ) (v : V) → P used v → Filled (Q v)) → Filled (Then P Q)
fill_then P Q one two = let t = two one.0 one.1 one.2 in (one.0 ++ t.0, t.1, (one.0, t.0, one.1, refl, one.2, t.2))

-- numbers
possible : (text : List ℕ) (n : ℤ) → Number text n → Possible (Denominator n)
possible text n (inl h) = (false, h.0, h.2, h.3)
possible text n (inr h) = (true, h.1, h.4, h.5)

below_top : (negative : Bool) (size : ℕ) → fits negative size ≡ true → int_le (signed negative size) (pos 2147483647) ≡ true
below_top true size h = grind (arith, ints)
below_top false size h = let k = leb-true size 2147483647 h in grind (arith, ints, k)

top : (text : List ℕ) (n : ℤ) → Number text n → int_le n (pos 2147483647) ≡ true
top text n (inl h) = ap (λ z. int_le z (pos 2147483647)) h.3 ∙ below_top false h.0 h.2
top text n (inr h) = ap (λ z. int_le z (pos 2147483647)) h.5 ∙ below_top true h.1 h.4

at_least_itself : (n : ℤ) → int_le n n ≡ true
at_least_itself n = grind (arith, ints)

viable_any : IsViable Number any_read
viable_any = viable_if (Wanted_number (AtLeast least_number)) Number any_read (λ text v p. (v, p.0)) (λ x rest h. number_on (AtLeast least_number) x rest refl h)

fill_number : Filled Number
fill_number = (codes "0", pos 0, inl (0, (refl, omega arith, refl), refl, refl))

-- fractions
some_ratio : (o : Option One) → is_some o ≡ true → (one : One) × (o ≡ Some one)
some_ratio None h = absurd (cc)
some_ratio (Some one) h = (one, refl)

never_found : {W : Type 0} (o : Option W) (r rest : List ℕ) → is_some o ≡ true → found o r ≡ Err (misspelt rest) → ⊥
never_found None r rest h k = cc
never_found (Some w) r rest h k = cc

viable_denominator : (num : ℤ) → Possible (Denominator num) → IsViable (Sure (λ den. ratio num den) Number) (λ x. read_number (Denominator num) x >>= λ d. found (ratio num d.0) d.1)
viable_denominator num p x rest h = step (read_number (Denominator num) x) refl h
  where
    step : (a : Answer ℤ) → read_number (Denominator num) x ≡ a → (a >>= λ d. found (ratio num d.0) d.1) ≡ Err (misspelt rest) → Begins (Sure (λ den. ratio num den) Number) x rest
    step (Err d) e k =
        let one = number_on (Denominator num) x rest p (e ∙ ap Err (stopped d (misspelt rest) k)) in
        let r = some_ratio (ratio num one.2) one.4.1 in
        (one.0, one.1, r.0, one.3, (one.2, one.4.0, r.1))
    step (Ok d) e k = let s = (reads_number (Denominator num)).sound x d.1 d.0 e in absurd (never_found (ratio num d.0) d.1 rest s.2.1 k)

fill_denominator : (num : ℤ) → Possible (Denominator num) → Filled (Sure (λ den. ratio num den) Number)
fill_denominator num p =
    let r = some_ratio (ratio num (pos 2)) (even_ratio num false 2 p refl (omega arith) (omega arith)) in
    (codes "2", r.0, (pos 2, inl (2, (refl, omega arith, refl), refl, refl), r.1))

fill_slash : (num : ℤ) → Possible (Denominator num) → Filled (Then (Is (codes "/")) (λ s. Sure (λ den. ratio num den) Number))
fill_slash num p = fill_then (Is (codes "/")) (λ s. Sure (λ den. ratio num den) Number) (codes "/", tt, refl) (λ used s q. fill_denominator num p)

fill_quotient : Filled Quotient
fill_quotient = fill_then Number (λ num. Then (Is (codes "/")) (λ s. Sure (λ den. ratio num den) Number)) fill_number (λ used num p. fill_slash num (possible used num p))

viable_fraction : IsViable Quotient read_fraction
unfolding read_fraction
viable_fraction = viable_then Number (λ num. Then (Is (codes "/")) (λ s. Sure (λ den. ratio num den) Number)) any_read (λ num x. expect 47 x >>= λ s. read_number (Denominator num) s.1 >>= λ d. found (ratio num d.0) d.1) reads_any_number.sound viable_any
    (λ used num p. viable_then (Is (codes "/")) (λ s. Sure (λ den. ratio num den) Number) (expect 47) (λ s x. read_number (Denominator num) x >>= λ d. found (ratio num d.0) d.1) (reads_byte 47).sound (viable_byte 47) (λ used2 s q. viable_denominator num (possible used num p)) (λ used2 s q. fill_denominator num (possible used num p)))
    (λ used num p. fill_slash num (possible used num p))

-- a text that ends with a digit
abbrev ends_digit : List ℕ → Bool
ends_digit [] = false
ends_digit (b ∷ []) = is_digit b
ends_digit (b ∷ c ∷ cs) = ends_digit (c ∷ cs)

ends_behind : (front : List ℕ) (b : ℕ) (bs : List ℕ) → ends_digit (front ++ b ∷ bs) ≡ ends_digit (b ∷ bs)
ends_behind [] b bs = refl
ends_behind (c ∷ []) b bs = refl
ends_behind (c ∷ d ∷ ds) b bs = ends_behind (d ∷ ds) b bs

digits_end : (text : List ℕ) (size : ℕ) → Digits text size → ends_digit text ≡ true
digits_end text size h = go text h.1 h.2
  where
    go : (l : List ℕ) → 0 < length l → list_all is_digit l ≡ true → ends_digit l ≡ true
    go [] some e = absurd (omega (arith, some))
    go (b ∷ []) some e = and_left (is_digit b) true e
    go (b ∷ c ∷ cs) some e = go (c ∷ cs) (omega arith) (and_right (is_digit b) (list_all is_digit (c ∷ cs)) e)

tail_ends : (front back : List ℕ) → ends_digit back ≡ true → ends_digit (front ++ back) ≡ true
tail_ends front [] h = absurd (cc)
tail_ends front (b ∷ bs) h = ends_behind front b bs ∙ h

number_ends : (text : List ℕ) (n : ℤ) → Number text n → ends_digit text ≡ true
number_ends text n (inl h) = digits_end text h.0 h.1
number_ends text n (inr h) = ap ends_digit h.2 ∙ tail_ends (45 ∷ []) h.0 (digits_end h.0 h.1 h.3)

pair_ends : (text : List ℕ) (p : ℤ × ℤ) → Pair text p → ends_digit text ≡ true
pair_ends text p h = let s = h.5 in let d = s.5 in ap ends_digit h.3 ∙ tail_ends h.0 h.1 (ap ends_digit s.3 ∙ tail_ends s.0 s.1 (number_ends s.1 d.0 d.1))

-- a word that ends with a letter is a string or a truth value
letter_ends : (run : List ℕ) → ends_digit (run ++ codes "x") ≡ false
letter_ends run = ends_behind run 120 []

lettered : (run : List ℕ) → list_all (in_class Word) run ≡ true → Untyped (run ++ codes "x") (judge_words (run ++ codes "x"))
lettered run h =
    let no : (ends_digit (run ++ codes "x") ≡ true) → ⊥ = λ e. let bad : false ≡ true = sym (letter_ends run) ∙ e in cc in
    let size = length-append run (codes "x") in
    inl ((refl, omega (arith, size), list_all-append (in_class Word) run (codes "x") ∙ and-both (list_all (in_class Word) run) (list_all (in_class Word) (codes "x")) h refl), inr (inr ((λ n k. no (number_ends (run ++ codes "x") n k)), (λ p k. no (pair_ends (run ++ codes "x") p k)), refl)))

viable_word : IsViable Untyped (λ x. some_run Word x >>= λ a. found (judge a.0) a.1)
viable_word x rest h = step (some_run Word x) refl h
  where
    word : (run y : List ℕ) (o : Option One) → some_run Word x ≡ Ok (run, y) → found o y ≡ Err (misspelt rest) → Begins Untyped x rest
    word run y None e k = let s = (reads_run Word).sound x y run e in (s.0, codes "x", judge_words (s.0 ++ codes "x"), s.1 ∙ ap (λ l. s.0 ++ l) (rest_is y rest (stopped (misspelt y) (misspelt rest) k)), lettered s.0 s.2.2)
    word run y (Some one) e k = absurd (cc)

    step : (a : Answer (List ℕ)) → some_run Word x ≡ a → (a >>= λ a. found (judge a.0) a.1) ≡ Err (misspelt rest) → Begins Untyped x rest
    step (Err d) e k = let one = viable_run Word x rest (e ∙ ap Err (stopped d (misspelt rest) k)) in (one.0, one.1 ++ codes "x", judge_words (one.0 ++ (one.1 ++ codes "x")), one.3, subst (λ l. Untyped l (judge_words l)) (append_assoc one.0 one.1 (codes "x")) (lettered (one.0 ++ one.1) one.4.2))
    step (Ok a) e k = word a.0 a.1 (judge a.0) e k

-- single values
viable_untyped : IsViable Untyped read_untyped
unfolding read_untyped
viable_untyped = viable_choice 34 (As Text To_quote) Untyped (λ x. read_quoted false [] x >>= λ a. Ok (Text a.0, a.1)) (λ x. some_run Word x >>= λ a. found (judge a.0) a.1) read_untyped_from
    (viable_as Text To_quote (read_quoted false []) viable_quoted)
    (λ text one p. (one, inr (p.0, (p.1.0, ap (λ l. 34 ∷ l) p.1.1, p.1.2), p.2)))
    viable_word (λ x y. refl) (λ x. refl)

viable_string : IsViable Some_string read_string
unfolding read_string
viable_string = viable_choice 34 To_quote Some_string (read_quoted false []) (some_run Word) read_string_from viable_quoted (λ text t p. (t, inr (p.0, ap (λ l. 34 ∷ l) p.1, p.2)))
    (viable_if (Run Word) Some_string (some_run Word) (λ text t p. (t, inl p)) (viable_run Word)) (λ x y. refl) (λ x. refl)

viable_just : {V : Type 0} (ws : List ℕ) (v : V) → IsViable (As (λ u. v) (Is ws)) (λ x. read_literal ws x >>= λ a. Ok (v, a.1))
viable_just ws v = viable_as (λ u. v) (Is ws) (read_literal ws) (viable_literal ws)

viable_truth : IsViable Truth_value read_truth
unfolding read_truth
viable_truth = viable_cond Truth_value (begins 116) (λ x. read_literal (codes "true") x >>= λ a. Ok (true, a.1)) (λ x. read_literal (codes "false") x >>= λ a. Ok (false, a.1))
    (viable_if (As (λ u. true) (Is (codes "true"))) Truth_value _ (λ text b p. (b, inl (p.1, p.2))) (viable_just (codes "true") true))
    (viable_if (As (λ u. false) (Is (codes "false"))) Truth_value _ (λ text b p. (b, inr (p.1, p.2))) (viable_just (codes "false") false))

viable_single : (kind : Option Kind) → IsViable (Single_value kind) (read_single kind)
unfolding read_single
viable_single None = viable_untyped
viable_single (Some Whole) = viable_as Int Number any_read viable_any
viable_single (Some Words) = viable_as Text Some_string read_string viable_string
viable_single (Some Either) = viable_as Truth Truth_value read_truth viable_truth
viable_single (Some Quotients) = viable_fraction

fill_single : (kind : Option Kind) → Filled (Single_value kind)
fill_single None = (codes "\"\"", Text [], inr ([], ([], refl, refl), refl))
fill_single (Some Whole) = let f = fill_number in (f.0, Int f.1, (f.1, f.2, refl))
fill_single (Some Words) = (codes "\"\"", Text [], ([], inr ([], refl, refl), refl))
fill_single (Some Either) = (codes "true", Truth true, (true, inl (refl, refl), refl))
fill_single (Some Quotients) = fill_quotient

-- ranges
fill_end : (low high : ℤ) → Filled (Range_end low high)
fill_end low high = (codes "]", range low high, ([], codes "]", tt, refl, refl, (tt, refl, refl)))

viable_end : (low high : ℤ) → IsViable (Range_end low high) (λ x. expect 93 (behind_spaces x) >>= λ e. Ok (range low high, e.1))
viable_end low high = viable_behind (As (λ e. range low high) (Is (codes "]"))) (λ x. expect 93 x >>= λ e. Ok (range low high, e.1)) (viable_as (λ e. range low high) (Is (codes "]")) (expect 93) (viable_byte 93)) (codes "]", range low high, (tt, refl, refl))

viable_high : (low : ℤ) → Possible (AtLeast low) → IsViable (Range_high low) (λ x. read_number (AtLeast low) x >>= λ high. expect 93 (behind_spaces high.1) >>= λ e. Ok (range low high.0, e.1))
viable_high low p = viable_then (Wanted_number (AtLeast low)) (λ high. Range_end low high) (read_number (AtLeast low)) (λ high x. expect 93 (behind_spaces x) >>= λ e. Ok (range low high, e.1)) (reads_number (AtLeast low)).sound (λ x rest h. number_on (AtLeast low) x rest p h) (λ used high q. viable_end low high) (λ used high q. fill_end low high)

fill_high : (used : List ℕ) (low : ℤ) → Number used low → Filled (Range_high low)
fill_high used low p = fill_then (Wanted_number (AtLeast low)) (λ high. Range_end low high) (used, low, (p, at_least_itself low)) (λ used high q. fill_end low high)

fill_behind_low : (used : List ℕ) (low : ℤ) → Number used low → Filled (Then (Mark 44) (λ m. Range_high low))
fill_behind_low used low p = fill_then (Mark 44) (λ m. Range_high low) (fill_mark 44) (λ used2 m q. fill_high used low p)

viable_range : IsViable Range_tail read_range
unfolding read_range
viable_range = viable_behind (Then Number (λ low. Then (Mark 44) (λ m. Range_high low))) (λ x. any_read x >>= λ low. read_mark 44 low.1 >>= λ m. read_number (AtLeast low.0) m.1 >>= λ high. expect 93 (behind_spaces high.1) >>= λ e. Ok (range low.0 high.0, e.1))
    (viable_then Number (λ low. Then (Mark 44) (λ m. Range_high low)) any_read (λ low x. read_mark 44 x >>= λ m. read_number (AtLeast low) m.1 >>= λ high. expect 93 (behind_spaces high.1) >>= λ e. Ok (range low high.0, e.1)) reads_any_number.sound viable_any
    (λ used low p. viable_then (Mark 44) (λ m. Range_high low) (read_mark 44) (λ m x. read_number (AtLeast low) x >>= λ high. expect 93 (behind_spaces high.1) >>= λ e. Ok (range low high.0, e.1)) (reads_mark 44 refl).sound (viable_mark 44) (λ used2 m q. viable_high low (top used low p)) (λ used2 m q. fill_high used low p))
    fill_behind_low)
    (fill_then Number (λ low. Then (Mark 44) (λ m. Range_high low)) fill_number fill_behind_low)

-- members
fill_member : (kind : Option Kind) → Filled (Member kind)
fill_member kind = let f = fill_single kind in (f.0, f.1, inr f.2)

viable_either : (kind : Option Kind) → takes_ranges kind ≡ true → IsViable (Member kind) (λ x. read_member_from kind x (after_byte 91 x))
viable_either kind e = viable_choice 91 Range_tail (Member kind) read_range (read_single kind) (read_member_from kind) viable_range (λ text one p. (one, inl (e, (91 ∷ [], text, tt, refl, refl, p)))) (viable_if (Single_value kind) (Member kind) (read_single kind) (λ text one p. (one, inr p)) (viable_single kind)) (λ x y. refl) (λ x. refl)

pub viable_member : (kind : Option Kind) → IsViable (Member kind) (read_member kind)
unfolding read_member
viable_member None = viable_either None refl
viable_member (Some Whole) = viable_either (Some Whole) refl
viable_member (Some Words) = viable_if (Single_value (Some Words)) (Member (Some Words)) (read_single (Some Words)) (λ text one p. (one, inr p)) (viable_single (Some Words))
viable_member (Some Either) = viable_if (Single_value (Some Either)) (Member (Some Either)) (read_single (Some Either)) (λ text one p. (one, inr p)) (viable_single (Some Either))
viable_member (Some Quotients) = viable_if (Single_value (Some Quotients)) (Member (Some Quotients)) (read_single (Some Quotients)) (λ text one p. (one, inr p)) (viable_single (Some Quotients))

-- lists
fill_next : (kind : Kind) (members : List One) → Filled (As (step_to members) (Member (Some kind)))
fill_next kind members = let f = fill_member (Some kind) in (f.0, step_to members f.1, (f.1, f.2, refl))

fill_spaced : {W : Type 0} (P : List ℕ → W → Type 0) → Filled P → Filled (Then Spaces (λ s. P))
fill_spaced P f = (f.0, f.1, ([], f.0, tt, refl, refl, f.2))

pub viable_ended : {V : Type 0} (P : List ℕ → V → Type 0) (r s : List ℕ → Answer V) → ((x : List ℕ) → s x ≡ (r x >>= λ a. ended a.0 a.1)) → IsSound P r → IsViable P r → IsViable P s
viable_ended {V} P r s is sound first x rest h = step (r x) refl (sym (is x) ∙ h)
  where
    behind : (v : V) (y : List ℕ) → Reads_front P x v y → (t : Bool) → cond {A = Answer V} t (Err (misspelt y)) (Ok (v, y)) ≡ Err (misspelt rest) → Begins P x rest
    behind v y f true k = (f.0, [], v, f.1 ∙ ap (λ l. f.0 ++ l) (rest_is y rest (stopped (misspelt y) (misspelt rest) k)), subst (λ l. P l v) (sym (append-nil f.0)) f.2)
    behind v y f false k = absurd (cc)

    step : (a : Answer V) → r x ≡ a → (a >>= λ a. ended a.0 a.1) ≡ Err (misspelt rest) → Begins P x rest
    step (Err d) e k = first x rest (e ∙ ap Err (stopped d (misspelt rest) k))
    step (Ok p) e k = behind p.0 p.1 (sound x p.1 p.0 e) (begins_run Word p.1) k

viable_whole_member : (kind : Option Kind) → IsViable (Member kind) (read_whole_member kind)
viable_whole_member kind = viable_ended (Member kind) (read_member kind) (read_whole_member kind) (member_ended kind) (reads_member kind).sound (viable_member kind)

viable_more : (kind : Kind) (members : List One) → IsViable (More_members kind members) (λ x. expect 44 x >>= λ m. read_whole_member (Some kind) (behind_spaces m.1) >>= λ one. within_limit (kept_member members one.0) one.1)
viable_more kind members = viable_then (Is (44 ∷ [])) (λ m. Then Spaces (λ s. As (step_to members) (Member (Some kind)))) (expect 44) (λ m x. read_whole_member (Some kind) (behind_spaces x) >>= λ one. within_limit (kept_member members one.0) one.1) (reads_byte 44).sound (viable_byte 44)
    (λ used m p. viable_behind (As (step_to members) (Member (Some kind))) (λ x. read_whole_member (Some kind) x >>= λ one. within_limit (kept_member members one.0) one.1) (viable_within (over_limit members) (step_to members) (Member (Some kind)) (read_whole_member (Some kind)) (viable_whole_member (Some kind))) (fill_next kind members))
    (λ used m p. fill_spaced (As (step_to members) (Member (Some kind))) (fill_next kind members))

any_words : (kind : Kind) (members : List One) (text : List ℕ) (n : Next (List One) (List One)) → Then Spaces (λ s. In_any_step kind members) text n → List_step_to None kind members text n
any_words kind members text n h = go h.5
  where
    go : In_any_step kind members h.1 n → List_step_to None kind members text n
    go (inl b) = inl ((h.0, h.1, tt, h.3, h.4, b.1 ∙ ap (λ l. 125 ∷ l) b.2.0), b.2.1)
    go (inr b) =
        let s = b.5 in
        let w = s.5 in
        let mark : Mark 44 (h.0 ++ (44 ∷ s.0)) tt = (h.0, 44 ∷ s.0, tt, refl, h.4, (44 ∷ [], s.0, tt, refl, refl, s.4)) in
        let split : text ≡ (h.0 ++ 44 ∷ s.0) ++ s.1 = h.3 ∙ ap (λ l. h.0 ++ l) (b.3 ∙ (λ i. b.4 i ++ s.3 i)) ∙ sym (append_assoc h.0 (44 ∷ s.0) s.1) in
        inr (w.0, (h.0 ++ 44 ∷ s.0, s.1, tt, split, mark, w.1), tt, w.2)

viable_step : (kind : Kind) (members : List One) → IsViable (List_step_to None kind members) (list_step kind members)
unfolding list_step
viable_step kind members = viable_if (Then Spaces (λ s. In_any_step kind members)) (List_step_to None kind members) (list_step kind members) (λ text n p. (n, any_words kind members text n p))
    (viable_behind (In_any_step kind members) (λ x. list_step_from kind members x (after_byte 125 x))
    (viable_choice 125 (Only (done members)) (In_any_step kind members) (λ x. Ok (done members, x)) (λ x. expect 44 x >>= λ m. read_whole_member (Some kind) (behind_spaces m.1) >>= λ one. within_limit (kept_member members one.0) one.1) (list_step_from kind members)
    (viable_never (Only (done members)) (λ x. (done members, x))) (λ text n p. (n, inl (text, refl, p)))
    (viable_if (More_members kind members) (In_any_step kind members) _ (λ text n p. (n, inr p)) (viable_more kind members)) (λ x y. refl) (λ x. refl))
    (codes "}", done members, inl ([], refl, (refl, refl))))

pub wider_step : (kind : Kind) (members : List One) (text : List ℕ) (n : Next (List One) (List One)) → List_step kind members text n → List_step_to None kind members text n
wider_step kind members text n (inl h) = inl h
wider_step kind members text n (inr h) = inr (h.0, h.1, tt, h.3)

closes : (kind : Kind) (members : List One) → (text : List ℕ) × (v : List One) × List_step_to None kind members text (done v)
closes kind members = (codes "}", members, inl (([], codes "}", tt, refl, refl, refl), refl))

fill_members : (first : One) → Filled (As as_value (Repeated (List_step_to None (kind_of first)) (first ∷ [])))
fill_members first = let c = closes (kind_of first) (first ∷ []) in (c.0, as_value c.1, (c.1, last (first ∷ []) c.0 c.1 c.2, refl))

viable_members : (first : One) → IsViable (Repeated (List_step_to None (kind_of first)) (first ∷ [])) (read_members first)
unfolding read_members
viable_members first = viable_repeat (List_step (kind_of first)) (List_step_to None (kind_of first)) nothing (list_step (kind_of first)) (list_is_step (kind_of first)) (wider_step (kind_of first)) (viable_step (kind_of first)) (closes (kind_of first)) (first ∷ [])

viable_list : (kind : Option Kind) → IsViable (Any_tail kind) (read_list kind)
unfolding read_list
viable_list kind = viable_behind (Any_members kind) (λ x. read_member kind x >>= λ first. read_members first.0 first.1 >>= λ all. Ok (as_value all.0, all.1))
    (viable_then (Member kind) (λ first. As as_value (Repeated (List_step_to None (kind_of first)) (first ∷ []))) (read_member kind) (λ first x. read_members first x >>= λ all. Ok (as_value all.0, all.1)) (reads_member kind).sound (viable_member kind)
    (λ used first p. viable_as as_value (Repeated (List_step_to None (kind_of first)) (first ∷ [])) (read_members first) (viable_members first)) (λ used first p. fill_members first))
    (fill_then (Member kind) (λ first. As as_value (Repeated (List_step_to None (kind_of first)) (first ∷ []))) (fill_member kind) (λ used first p. fill_members first))

-- values
viable_plain : (kind : Option Kind) → IsViable (Plain_value_to None kind) (λ x. read_value_from kind x (after_byte 123 x))
viable_plain kind = viable_choice 123 (Any_tail kind) (Plain_value_to None kind) (read_list kind) (λ x. read_member kind x >>= λ a. Ok (Single a.0, a.1)) (read_value_from kind) (viable_list kind) (λ text v p. (v, inl (123 ∷ [], text, tt, refl, refl, p)))
    (viable_if (As Single (Member kind)) (Plain_value_to None kind) (λ x. read_member kind x >>= λ a. Ok (Single a.0, a.1)) (λ text v p. (v, inr p)) (viable_as Single (Member kind) (read_member kind) (viable_member kind))) (λ x y. refl) (λ x. refl)

fill_plain : (kind : Option Kind) → Filled (Plain_value_to None kind)
fill_plain kind = let f = fill_member kind in (f.0, Single f.1, inr (f.1, f.2, refl))

abbrev Behind_bracket : List ℕ → Kind → Type 0
Behind_bracket text kind = 40 ∷ text ≡ kind_text kind

viable_one : (ws : List ℕ) (kind : Kind) → 40 ∷ ws ≡ kind_text kind → IsViable Behind_bracket (λ x. read_literal ws x >>= λ a. Ok (kind, a.1))
viable_one ws kind e = viable_if (As (λ u. kind) (Is ws)) Behind_bracket (λ x. read_literal ws x >>= λ a. Ok (kind, a.1)) (λ text k p. (kind, ap (λ l. 40 ∷ l) p.1 ∙ e)) (viable_just ws kind)

viable_kind_word : IsViable Behind_bracket read_kind_word
unfolding read_kind_word
viable_kind_word =
    viable_cond Behind_bracket (begins 105) (λ x. read_literal (codes "int)") x >>= λ a. Ok (Whole, a.1)) (λ x. cond (begins 115 x) (read_literal (codes "string)") x >>= λ a. Ok (Words, a.1)) (cond (begins 98 x) (read_literal (codes "boolean)") x >>= λ a. Ok (Either, a.1)) (read_literal (codes "fraction)") x >>= λ a. Ok (Quotients, a.1)))) (viable_one (codes "int)") Whole refl)
    (viable_cond Behind_bracket (begins 115) (λ x. read_literal (codes "string)") x >>= λ a. Ok (Words, a.1)) (λ x. cond (begins 98 x) (read_literal (codes "boolean)") x >>= λ a. Ok (Either, a.1)) (read_literal (codes "fraction)") x >>= λ a. Ok (Quotients, a.1))) (viable_one (codes "string)") Words refl)
    (viable_cond Behind_bracket (begins 98) (λ x. read_literal (codes "boolean)") x >>= λ a. Ok (Either, a.1)) (λ x. read_literal (codes "fraction)") x >>= λ a. Ok (Quotients, a.1)) (viable_one (codes "boolean)") Either refl) (viable_one (codes "fraction)") Quotients refl)))

viable_kind : IsViable Type_word read_kind
unfolding read_kind
viable_kind = viable_if (Then (Is (40 ∷ [])) (λ u. Behind_bracket)) Type_word read_kind (λ text kind p. (kind, p.3 ∙ ap (λ l. l ++ p.1) p.4 ∙ p.5))
    (viable_then (Is (40 ∷ [])) (λ u. Behind_bracket) (expect 40) (λ u. read_kind_word) (reads_byte 40).sound (viable_byte 40) (λ used u p. viable_kind_word) (λ used u p. (codes "int)", Whole, refl)))

fill_spaced_plain : (kind : Kind) → Filled (Then Spaces (λ s. Plain_value_to None (Some kind)))
fill_spaced_plain kind = fill_spaced (Plain_value_to None (Some kind)) (fill_plain (Some kind))

viable_typed : IsViable Typed_any from_typed
viable_typed = viable_then Type_word (λ kind. Then Spaces (λ s. Plain_value_to None (Some kind))) read_kind (λ kind x. read_value_from (Some kind) (behind_spaces x) (after_byte 123 (behind_spaces x))) reads_kind.sound viable_kind
    (λ used kind p. viable_behind (Plain_value_to None (Some kind)) (λ x. read_value_from (Some kind) x (after_byte 123 x)) (viable_plain (Some kind)) (fill_plain (Some kind)))
    (λ used kind p. fill_spaced_plain kind)

pub viable_value : IsViable (Field_value_to None) read_value
viable_value = viable_same (Field_value_to None) (λ x. cond (begins 40 x) (from_typed x) (read_value_from None x (after_byte 123 x))) read_value value_split
    (viable_cond (Field_value_to None) (begins 40) from_typed (λ x. read_value_from None x (after_byte 123 x))
    (viable_if Typed_any (Field_value_to None) from_typed (λ text v p. (v, inl p)) viable_typed)
    (viable_if (Plain_value_to None None) (Field_value_to None) (λ x. read_value_from None x (after_byte 123 x)) (λ text v p. (v, inr p)) (viable_plain None)))

pub fill_value : Filled (Field_value_to None)
fill_value = let f = fill_plain None in (f.0, f.1, inr f.2)
