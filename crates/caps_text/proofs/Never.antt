-- Parts that have no limit are not refused for one.
use Rattle.std.proofs.Common.{◌≡◌, ℕ, ◌+◌, ◌-◌, ◌*◌, ℤ, Bool, true, false, cond, eqb, List, [], ◌∷◌, ◌++◌, length, Option, Some, None, Ok, Err, refl, sym, ap, ◌∙◌, codes}
use Rattle.std.specs.Prelude.{is_some}
use Rattle.gst_value.specs.declared.one.One.TheVariants.{Int, Bool as Truth, Text}
use Rattle.caps_text.specs.Answers.{Answer, Stop, misspelt, many, ◌>>=◌, found}
use Rattle.caps_text.specs.Bytes.{is_digit}
use Rattle.caps_text.specs.Ratio.{ratio}
use Rattle.caps_text.specs.Reading.{after_byte, bare, begins, begins_run, behind_minus, behind_run, behind_spaces, can_begin, digit_at, expect, judge, least_number, letter_first, minus, passed, range, read_digits, read_fraction, read_head, read_kind, read_kind_word, read_literal, read_mark, read_media, read_member, read_member_from, read_name, read_number, read_quoted, read_range, read_single, read_size, read_string, read_string_from, read_truth, read_untyped, read_untyped_from, run_of, some_run, takes_ranges, wanted_number}
use Rattle.caps_text.specs.declared.class.Class.{Class}
use Rattle.caps_text.specs.declared.class.Class.TheVariants.{Media, Name, Word}
use Rattle.caps_text.specs.declared.kind.Kind.{Kind}
use Rattle.caps_text.specs.declared.kind.Kind.TheVariants.{Int as Whole, Bool as Either, Text as Words, Fraction as Quotients}
use Rattle.caps_text.specs.declared.number.Wanted.{Wanted}
use Rattle.caps_text.specs.declared.number.Wanted.TheVariants.{AtLeast, Denominator}
use Rattle.caps_text.proofs.Ended.{ended}
use Rattle.caps_text.proofs.Values.{any_read}

abbrev pub IsNever : {V : Type 0} → (List ℕ → Answer V) → Type 0
IsNever r = (x : List ℕ) → r x ≡ Err many → ⊥

pub never_ok : {V : Type 0} (p : List ℕ → V × List ℕ) → IsNever (λ x. Ok (p x))
never_ok p x h = cc

differ : {V : Type 0} (x : List ℕ) → ◌≡◌ {A = Answer V} (Err (misspelt x)) (Err many) → ⊥
differ x h = cc

pub never_misspelt : {V : Type 0} (f : List ℕ → List ℕ) → IsNever {V = V} (λ x. Err (misspelt (f x)))
never_misspelt {V} f x h = differ {V = V} (f x) h

pub never_found : {V : Type 0} (o : Option V) → IsNever (found o)
never_found {V} None x h = differ {V = V} x h
never_found (Some v) x h = cc

pub never_bind : {V W : Type 0} (r : List ℕ → Answer V) (s : V → List ℕ → Answer W) → IsNever r → ((v : V) → IsNever (s v)) → IsNever (λ x. r x >>= λ a. s a.0 a.1)
never_bind {V} {W} r s first second x h = step (r x) refl h
  where
    same : (d : Stop) → ◌≡◌ {A = Answer W} (Err d) (Err many) → d ≡ many
    same d k = cc

    step : (a : Answer V) → r x ≡ a → (a >>= λ a. s a.0 a.1) ≡ Err many → ⊥
    step (Ok p) e k = second p.0 p.1 k
    step (Err d) e k = first x (e ∙ ap Err (same d k))

pub never_as : {V W : Type 0} (f : V → W) (r : List ℕ → Answer V) → IsNever r → IsNever (λ x. r x >>= λ a. Ok (f a.0, a.1))
never_as f r first = never_bind r (λ v x. Ok (f v, x)) first (λ v. never_ok (λ x. (f v, x)))

pub never_sure : {V W : Type 0} (f : V → Option W) (r : List ℕ → Answer V) → IsNever r → IsNever (λ x. r x >>= λ a. found (f a.0) a.1)
never_sure f r first = never_bind r (λ v x. found (f v) x) first (λ v. never_found (f v))

pub never_cond : {V : Type 0} (t : List ℕ → Bool) (r s : List ℕ → Answer V) → IsNever r → IsNever s → IsNever (λ x. cond (t x) (r x) (s x))
never_cond t r s f g x h = step (t x) h
  where
    step : (b : Bool) → cond b (r x) (s x) ≡ Err many → ⊥
    step true k = f x k
    step false k = g x k

pub never_choice : {V : Type 0} (m : ℕ) (r s : List ℕ → Answer V) (from : List ℕ → Option (List ℕ) → Answer V) → IsNever r → IsNever s → ((x y : List ℕ) → from x (Some y) ≡ r y) → ((x : List ℕ) → from x None ≡ s x) → IsNever (λ x. from x (after_byte m x))
never_choice m r s from f g is else x h = step (after_byte m x) h
  where
    step : (o : Option (List ℕ)) → from x o ≡ Err many → ⊥
    step (Some y) k = f y (sym (is x y) ∙ k)
    step None k = g x (sym (else x) ∙ k)

pub never_behind : {V : Type 0} (r : List ℕ → Answer V) → IsNever r → IsNever (λ x. r (behind_spaces x))
never_behind r first x h = first (behind_spaces x) h

pub never_byte : (m : ℕ) → IsNever (expect m)
unfolding expect
never_byte m = never_choice m (λ x. Ok (tt, x)) (λ x. Err (misspelt x)) passed (never_ok (λ x. (tt, x))) (never_misspelt (λ x. x)) (λ x y. refl) (λ x. refl)

pub never_mark : (m : ℕ) → IsNever (read_mark m)
unfolding read_mark
never_mark m = never_behind (λ x. expect m x >>= λ a. Ok (tt, behind_spaces a.1)) (never_bind (expect m) (λ u x. Ok (tt, behind_spaces x)) (never_byte m) (λ u. never_ok (λ x. (tt, behind_spaces x))))

never_literal : (ws : List ℕ) → IsNever (read_literal ws)
never_literal [] = never_ok (λ x. (tt, x))
never_literal (w ∷ ws) = never_bind (expect w) (λ u x. read_literal ws x) (never_byte w) (λ u. never_literal ws)

never_run : (class : Class) → IsNever (some_run class)
unfolding some_run
never_run class = never_cond (λ x. eqb (length (run_of class x)) 0) (λ x. Err (misspelt (behind_run class x))) (λ x. Ok (run_of class x, behind_run class x)) (never_misspelt (behind_run class)) (never_ok (λ x. (run_of class x, behind_run class x)))

pub never_name : IsNever read_name
unfolding read_name
never_name = never_cond letter_first (λ x. Ok (run_of Name x, behind_run Name x)) (λ x. Err (misspelt x)) (never_ok (λ x. (run_of Name x, behind_run Name x))) (never_misspelt (λ x. x))

never_media : IsNever read_media
unfolding read_media
never_media = never_bind (some_run Media) (λ above x. expect 47 x >>= λ s. some_run Media s.1 >>= λ b. Ok (above ++ codes "/" ++ b.0, b.1)) (never_run Media)
    (λ above. never_bind (expect 47) (λ s x. some_run Media x >>= λ b. Ok (above ++ codes "/" ++ b.0, b.1)) (never_byte 47) (λ s. never_as (λ below. above ++ codes "/" ++ below) (some_run Media) (never_run Media)))

pub never_head : IsNever read_head
unfolding read_head
never_head = never_as bare read_media never_media

-- numbers
never_digits : (w : Wanted) (negative : Bool) (size : ℕ) → IsNever (read_digits w negative size)
never_digits w negative size [] h = cc
never_digits w negative size (b ∷ bs) h = step (is_digit b) (can_begin w negative (size * 10 + (b - 48))) (never_digits w negative (size * 10 + (b - 48)) bs) h
  where
    step : (s t : Bool) → (read_digits w negative (size * 10 + (b - 48)) bs ≡ Err many → ⊥) → cond {A = Answer ℕ} s (cond t (read_digits w negative (size * 10 + (b - 48)) bs) (Err (misspelt (b ∷ bs)))) (Ok (size, b ∷ bs)) ≡ Err many → ⊥
    step true true ih k = ih k
    step true false ih k = differ {V = ℕ} (b ∷ bs) k
    step false t ih k = cc

never_size : (w : Wanted) (negative : Bool) → IsNever (λ x. read_size w (negative, x))
unfolding read_size
never_size w negative = never_cond (λ x. is_some (digit_at x)) (λ x. read_digits w negative 0 x >>= λ d. found (wanted_number w negative d.0) d.1) (λ x. Err (misspelt x)) (never_sure (wanted_number w negative) (read_digits w negative 0) (never_digits w negative 0)) (never_misspelt (λ x. x))

never_number : (w : Wanted) → IsNever (read_number w)
unfolding read_number minus
never_number w = step (can_begin w true 0)
  where
    step : (t : Bool) → IsNever (λ x. read_size w (cond {A = Bool × List ℕ} t (behind_minus x (after_byte 45 x)) (false, x)))
    step true = never_choice 45 (λ x. read_size w (true, x)) (λ x. read_size w (false, x)) (λ x o. read_size w (behind_minus x o)) (never_size w true) (never_size w false) (λ x y. refl) (λ x. refl)
    step false = never_size w false

never_fraction : IsNever read_fraction
unfolding read_fraction
never_fraction = never_bind any_read (λ num x. expect 47 x >>= λ s. read_number (Denominator num) s.1 >>= λ d. found (ratio num d.0) d.1) (never_number (AtLeast least_number))
    (λ num. never_bind (expect 47) (λ s x. read_number (Denominator num) x >>= λ d. found (ratio num d.0) d.1) (never_byte 47) (λ s. never_sure (ratio num) (read_number (Denominator num)) (never_number (Denominator num))))

-- single values
never_quoted : (escaped : Bool) (so_far x : List ℕ) → read_quoted escaped so_far x ≡ Err many → ⊥
never_quoted true so_far [] h = differ {V = List ℕ} [] h
never_quoted false so_far [] h = differ {V = List ℕ} [] h
never_quoted true so_far (b ∷ bs) h = never_quoted false (so_far ++ b ∷ []) bs h
never_quoted false so_far (b ∷ bs) h = step (eqb b 34) (eqb b 92) (never_quoted true so_far bs) (never_quoted false (so_far ++ b ∷ []) bs) h
  where
    step : (s t : Bool) → (read_quoted true so_far bs ≡ Err many → ⊥) → (read_quoted false (so_far ++ b ∷ []) bs ≡ Err many → ⊥) → cond {A = Answer (List ℕ)} s (Ok (so_far, bs)) (cond t (read_quoted true so_far bs) (read_quoted false (so_far ++ b ∷ []) bs)) ≡ Err many → ⊥
    step true t f g k = cc
    step false true f g k = f k
    step false false f g k = g k

never_string : IsNever read_string
unfolding read_string
never_string = never_choice 34 (read_quoted false []) (some_run Word) read_string_from (never_quoted false []) (never_run Word) (λ x y. refl) (λ x. refl)

never_untyped : IsNever read_untyped
unfolding read_untyped
never_untyped = never_choice 34 (λ x. read_quoted false [] x >>= λ a. Ok (Text a.0, a.1)) (λ x. some_run Word x >>= λ a. found (judge a.0) a.1) read_untyped_from (never_as Text (read_quoted false []) (never_quoted false [])) (never_sure judge (some_run Word) (never_run Word)) (λ x y. refl) (λ x. refl)

never_just : {V : Type 0} (ws : List ℕ) (v : V) → IsNever (λ x. read_literal ws x >>= λ a. Ok (v, a.1))
never_just ws v = never_as (λ u. v) (read_literal ws) (never_literal ws)

never_truth : IsNever read_truth
unfolding read_truth
never_truth = never_cond (begins 116) (λ x. read_literal (codes "true") x >>= λ a. Ok (true, a.1)) (λ x. read_literal (codes "false") x >>= λ a. Ok (false, a.1)) (never_just (codes "true") true) (never_just (codes "false") false)

never_single : (kind : Option Kind) → IsNever (read_single kind)
unfolding read_single
never_single None = never_untyped
never_single (Some Whole) = never_as Int any_read (never_number (AtLeast least_number))
never_single (Some Words) = never_as Text read_string never_string
never_single (Some Either) = never_as Truth read_truth never_truth
never_single (Some Quotients) = never_fraction

never_end : (low high : ℤ) → IsNever (λ x. expect 93 (behind_spaces x) >>= λ e. Ok (range low high, e.1))
never_end low high = never_behind (λ x. expect 93 x >>= λ e. Ok (range low high, e.1)) (never_as (λ e. range low high) (expect 93) (never_byte 93))

never_range : IsNever read_range
unfolding read_range
never_range = never_behind (λ x. any_read x >>= λ low. read_mark 44 low.1 >>= λ m. read_number (AtLeast low.0) m.1 >>= λ high. expect 93 (behind_spaces high.1) >>= λ e. Ok (range low.0 high.0, e.1))
    (never_bind any_read (λ low x. read_mark 44 x >>= λ m. read_number (AtLeast low) m.1 >>= λ high. expect 93 (behind_spaces high.1) >>= λ e. Ok (range low high.0, e.1)) (never_number (AtLeast least_number))
    (λ low. never_bind (read_mark 44) (λ m x. read_number (AtLeast low) x >>= λ high. expect 93 (behind_spaces high.1) >>= λ e. Ok (range low high.0, e.1)) (never_mark 44)
    (λ m. never_bind (read_number (AtLeast low)) (λ high x. expect 93 (behind_spaces x) >>= λ e. Ok (range low high, e.1)) (never_number (AtLeast low)) (λ high. never_end low high))))

pub never_member : (kind : Option Kind) → IsNever (read_member kind)
unfolding read_member
never_member kind = never_cond (λ x. takes_ranges kind) (λ x. read_member_from kind x (after_byte 91 x)) (read_single kind)
    (never_choice 91 read_range (read_single kind) (read_member_from kind) never_range (never_single kind) (λ x y. refl) (λ x. refl))
    (never_single kind)

pub never_ended : {V : Type 0} (v : V) → IsNever (ended v)
never_ended v = never_cond (begins_run Word) (λ x. Err (misspelt x)) (λ x. Ok (v, x)) (never_misspelt (λ x. x)) (never_ok (λ x. (v, x)))

-- the words of types
never_kind_word : IsNever read_kind_word
unfolding read_kind_word
never_kind_word =
    never_cond (begins 105) (λ x. read_literal (codes "int)") x >>= λ a. Ok (Whole, a.1)) (λ x. cond (begins 115 x) (read_literal (codes "string)") x >>= λ a. Ok (Words, a.1)) (cond (begins 98 x) (read_literal (codes "boolean)") x >>= λ a. Ok (Either, a.1)) (read_literal (codes "fraction)") x >>= λ a. Ok (Quotients, a.1)))) (never_just (codes "int)") Whole)
    (never_cond (begins 115) (λ x. read_literal (codes "string)") x >>= λ a. Ok (Words, a.1)) (λ x. cond (begins 98 x) (read_literal (codes "boolean)") x >>= λ a. Ok (Either, a.1)) (read_literal (codes "fraction)") x >>= λ a. Ok (Quotients, a.1))) (never_just (codes "string)") Words)
    (never_cond (begins 98) (λ x. read_literal (codes "boolean)") x >>= λ a. Ok (Either, a.1)) (λ x. read_literal (codes "fraction)") x >>= λ a. Ok (Quotients, a.1)) (never_just (codes "boolean)") Either) (never_just (codes "fraction)") Quotients)))

pub never_kind : IsNever read_kind
unfolding read_kind
never_kind = never_bind (expect 40) (λ u x. read_kind_word x) (never_byte 40) (λ u. never_kind_word)
