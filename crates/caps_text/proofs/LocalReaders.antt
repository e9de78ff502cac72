-- Every part of a caps text is read by the bytes that were read and the first one behind them.
use Rattle.std.proofs.Common.{◌≡◌, ℕ, ℤ, Bool, true, false, cond, eqb, List, [], ◌∷◌, ◌++◌, length, Option, Some, None, Ok, Err, refl, sym, ap, ◌∙◌, codes, arith}
use Rattle.std.proofs.lemmas.Bool.{ne_eqb}
use Rattle.std.specs.Prelude.{is_some, nat_lt}
use Rattle.gst_caps.specs.Accepts.{value_at}
use Rattle.gst_caps.specs.Common.{as_value}
use Rattle.gst_value.specs.Description.{Description}
use Rattle.gst_value.specs.declared.one.One.{One}
use Rattle.gst_value.specs.declared.one.One.TheVariants.{Int, Bool as Truth, Text}
use Rattle.gst_caps.specs.declared.value.Value.{Value}
use Rattle.gst_caps.specs.declared.value.Value.TheVariants.{One as Single}
use Rattle.caps_text.specs.Answers.{Answer, misspelt, many, ◌>>=◌, found}
use Rattle.caps_text.specs.Bytes.{in_class, is_letter}
use Rattle.caps_text.specs.Grammar.{List_step, Caps_step}
use Rattle.caps_text.specs.Kinds.{kind_of}
use Rattle.caps_text.specs.Ratio.{ratio}
use Rattle.caps_text.specs.Reading.{Made, again, done, after_byte, bare, behind_minus, behind_spaces, begins, begins_run, can_begin, caps_step, digit_at, expect, few_fields, few_structures, judge, kept_member, least_number, letter_first, list_step, list_step_from, minus, more_from, range, read_digits, read_field, read_fraction, read_head, read_kind, read_kind_word, read_list, read_literal, read_mark, read_media, read_member, read_member_from, read_members, read_more, read_name, read_number, read_quoted, read_range, read_single, read_size, read_string, read_string_from, read_structures, read_truth, read_untyped, read_untyped_from, read_value, read_value_from, read_whole_member, read_whole_value, repeat, some_run, takes_ranges, wanted_number, with_field, within_limit}
use Rattle.caps_text.specs.declared.class.Class.{Class}
use Rattle.caps_text.specs.declared.class.Class.TheVariants.{Media, Name, Word}
use Rattle.caps_text.specs.declared.kind.Kind.{Kind}
use Rattle.caps_text.specs.declared.kind.Kind.TheVariants.{Int as Whole, Bool as Either, Text as Words, Fraction as Quotients}
use Rattle.caps_text.specs.declared.number.Wanted.{Wanted}
use Rattle.caps_text.specs.declared.number.Wanted.TheVariants.{AtLeast, Denominator}
use Rattle.caps_text.proofs.Ended.{ended, member_ended}
use Rattle.caps_text.proofs.Listed.{from_typed, list_is_step, value_split}
use Rattle.caps_text.proofs.Local.{IsLocal, Same_start, local_bind, local_byte, local_choice, local_cond, local_digits, local_found, local_many, local_ok, local_quoted, local_refused, local_repeat, local_runs, local_same, local_spaces, local_test, runs, same_begins, same_digit}
use Rattle.caps_text.proofs.LooseWhole.{naming, setting}
use Rattle.caps_text.proofs.Readers.{nothing}
use Rattle.caps_text.proofs.Values.{any_read}
use Rattle.caps_text.proofs.Whole.{Outcome, all_bytes, caps_is_step, one_field, value_ended}
use Rattle.caps_text.proofs.Words.{skipping}

pub local_as : {V W : Type 0} (f : V → W) (r : List ℕ → Answer V) → IsLocal r → IsLocal (λ x. r x >>= λ a. Ok (f a.0, a.1))
local_as f r first = local_bind r (λ v x. Ok (f v, x)) first (λ v. local_ok (f v))

pub local_sure : {V W : Type 0} (f : V → Option W) (r : List ℕ → Answer V) → IsLocal r → IsLocal (λ x. r x >>= λ a. found (f a.0) a.1)
local_sure f r first = local_bind r (λ v x. found (f v) x) first (λ v. local_found (f v))

-- spaces, and then a part
pub local_behind : {V : Type 0} (r : List ℕ → Answer V) → IsLocal r → IsLocal (λ x. r (behind_spaces x))
local_behind r first = local_bind skipping (λ s x. r x) local_spaces (λ s. first)

pub local_mark : (m : ℕ) → IsLocal (read_mark m)
unfolding read_mark
local_mark m = local_behind (λ x. expect m x >>= λ a. Ok (tt, behind_spaces a.1)) (local_bind (expect m) (λ u x. Ok (tt, behind_spaces x)) (local_byte m) (λ u. local_spaces))

pub local_literal : (ws : List ℕ) → IsLocal (read_literal ws)
local_literal [] = local_ok tt
local_literal (w ∷ ws) = local_bind (expect w) (λ u x. read_literal ws x) (local_byte w) (λ u. local_literal ws)

pub local_run : (class : Class) → IsLocal (some_run class)
unfolding some_run
local_run class = local_bind (runs class) (λ run x. cond (eqb (length run) 0) (Err (misspelt x)) (Ok (run, x))) (local_runs class) (λ run. local_cond (eqb (length run) 0) (λ x. Err (misspelt x)) (λ x. Ok (run, x)) local_refused (local_ok run))

pub local_media : IsLocal read_media
unfolding read_media
local_media = local_bind (some_run Media) (λ above x. expect 47 x >>= λ s. some_run Media s.1 >>= λ b. Ok (above ++ codes "/" ++ b.0, b.1)) (local_run Media)
    (λ above. local_bind (expect 47) (λ s x. some_run Media x >>= λ b. Ok (above ++ codes "/" ++ b.0, b.1)) (local_byte 47) (λ s. local_as (λ below. above ++ codes "/" ++ below) (some_run Media) (local_run Media)))

same_letter : (x y : List ℕ) → Same_start x y → letter_first x ≡ letter_first y
same_letter [] [] h = refl
same_letter [] (c ∷ cs) h = absurd h
same_letter (b ∷ bs) [] h = absurd h
same_letter (b ∷ bs) (c ∷ cs) h = ap is_letter h

pub local_name : IsLocal read_name
unfolding read_name
local_name = local_test letter_first (runs Name) (λ x. Err (misspelt x)) same_letter (local_runs Name) local_refused

-- numbers
local_size : (w : Wanted) (negative : Bool) → IsLocal (λ x. read_size w (negative, x))
unfolding read_size
local_size w negative = local_test (λ x. is_some (digit_at x)) (λ x. read_digits w negative 0 x >>= λ d. found (wanted_number w negative d.0) d.1) (λ x. Err (misspelt x)) same_digit (local_sure (wanted_number w negative) (read_digits w negative 0) (local_digits w negative 0)) local_refused

pub local_number : (w : Wanted) → IsLocal (read_number w)
unfolding read_number minus
local_number w = step (can_begin w true 0)
  where
    step : (t : Bool) → IsLocal (λ x. read_size w (cond {A = Bool × List ℕ} t (behind_minus x (after_byte 45 x)) (false, x)))
    step true = local_choice 45 (λ x. read_size w (true, x)) (λ x. read_size w (false, x)) (λ x o. read_size w (behind_minus x o)) (local_size w true) (local_size w false) (λ x y. refl) (λ x. refl)
    step false = local_size w false

pub local_fraction : IsLocal read_fraction
unfolding read_fraction
local_fraction = local_bind any_read (λ num x. expect 47 x >>= λ s. read_number (Denominator num) s.1 >>= λ d. found (ratio num d.0) d.1) (local_number (AtLeast least_number))
    (λ num. local_bind (expect 47) (λ s x. read_number (Denominator num) x >>= λ d. found (ratio num d.0) d.1) (local_byte 47) (λ s. local_sure (ratio num) (read_number (Denominator num)) (local_number (Denominator num))))

-- single values
pub local_string : IsLocal read_string
unfolding read_string
local_string = local_choice 34 (read_quoted false []) (some_run Word) read_string_from (local_quoted false []) (local_run Word) (λ x y. refl) (λ x. refl)

pub local_untyped : IsLocal read_untyped
unfolding read_untyped
local_untyped = local_choice 34 (λ x. read_quoted false [] x >>= λ a. Ok (Text a.0, a.1)) (λ x. some_run Word x >>= λ a. found (judge a.0) a.1) read_untyped_from (local_as Text (read_quoted false []) (local_quoted false [])) (local_sure judge (some_run Word) (local_run Word)) (λ x y. refl) (λ x. refl)

local_just : {V : Type 0} (ws : List ℕ) (v : V) → IsLocal (λ x. read_literal ws x >>= λ a. Ok (v, a.1))
local_just ws v = local_as (λ u. v) (read_literal ws) (local_literal ws)

pub local_truth : IsLocal read_truth
unfolding read_truth
local_truth = local_test (begins 116) (λ x. read_literal (codes "true") x >>= λ a. Ok (true, a.1)) (λ x. read_literal (codes "false") x >>= λ a. Ok (false, a.1)) (same_begins 116) (local_just (codes "true") true) (local_just (codes "false") false)

pub local_single : (kind : Option Kind) → IsLocal (read_single kind)
unfolding read_single
local_single None = local_untyped
local_single (Some Whole) = local_as Int any_read (local_number (AtLeast least_number))
local_single (Some Words) = local_as Text read_string local_string
local_single (Some Either) = local_as Truth read_truth local_truth
local_single (Some Quotients) = local_fraction

-- ranges and members
local_end : (low high : ℤ) → IsLocal (λ x. expect 93 (behind_spaces x) >>= λ e. Ok (range low high, e.1))
local_end low high = local_behind (λ x. expect 93 x >>= λ e. Ok (range low high, e.1)) (local_as (λ e. range low high) (expect 93) (local_byte 93))

pub local_range : IsLocal read_range
unfolding read_range
local_range = local_behind (λ x. any_read x >>= λ low. read_mark 44 low.1 >>= λ m. read_number (AtLeast low.0) m.1 >>= λ high. expect 93 (behind_spaces high.1) >>= λ e. Ok (range low.0 high.0, e.1))
    (local_bind any_read (λ low x. read_mark 44 x >>= λ m. read_number (AtLeast low) m.1 >>= λ high. expect 93 (behind_spaces high.1) >>= λ e. Ok (range low high.0, e.1)) (local_number (AtLeast least_number))
    (λ low. local_bind (read_mark 44) (λ m x. read_number (AtLeast low) x >>= λ high. expect 93 (behind_spaces high.1) >>= λ e. Ok (range low high.0, e.1)) (local_mark 44)
    (λ m. local_bind (read_number (AtLeast low)) (λ high x. expect 93 (behind_spaces x) >>= λ e. Ok (range low high, e.1)) (local_number (AtLeast low)) (λ high. local_end low high))))

pub local_member : (kind : Option Kind) → IsLocal (read_member kind)
unfolding read_member
local_member kind = local_cond (takes_ranges kind) (λ x. read_member_from kind x (after_byte 91 x)) (read_single kind)
    (local_choice 91 read_range (read_single kind) (read_member_from kind) local_range (local_single kind) (λ x y. refl) (λ x. refl))
    (local_single kind)

-- members and values up to where no byte of a word follows
same_run : (x y : List ℕ) → Same_start x y → begins_run Word x ≡ begins_run Word y
same_run [] [] h = refl
same_run [] (c ∷ cs) h = absurd h
same_run (b ∷ bs) [] h = absurd h
same_run (b ∷ bs) (c ∷ cs) h = ap (in_class Word) h

local_ended : {V : Type 0} (r s : List ℕ → Answer V) → ((x : List ℕ) → s x ≡ (r x >>= λ a. ended a.0 a.1)) → IsLocal r → IsLocal s
local_ended r s is first = local_same (λ x. r x >>= λ a. ended a.0 a.1) s is (local_bind r ended first (λ v. local_test (begins_run Word) (λ x. Err (misspelt x)) (λ x. Ok (v, x)) same_run local_refused (local_ok v)))

local_whole_member : (kind : Option Kind) → IsLocal (read_whole_member kind)
local_whole_member kind = local_ended (read_member kind) (read_whole_member kind) (member_ended kind) (local_member kind)

-- lists
local_within : (members : List One) → IsLocal (within_limit members)
local_within members = local_cond (nat_lt 64 (length members)) (λ x. Err many) (λ x. Ok (again members, x)) local_many (local_ok (again members))

pub local_step : (kind : Kind) (members : List One) → IsLocal (list_step kind members)
unfolding list_step
local_step kind members = local_behind (λ x. list_step_from kind members x (after_byte 125 x))
    (local_choice 125 (λ x. Ok (done members, x)) (λ x. expect 44 x >>= λ m. read_whole_member (Some kind) (behind_spaces m.1) >>= λ one. within_limit (kept_member members one.0) one.1) (list_step_from kind members) (local_ok (done members))
    (local_bind (expect 44) (λ u x. read_whole_member (Some kind) (behind_spaces x) >>= λ one. within_limit (kept_member members one.0) one.1) (local_byte 44)
    (λ u. local_behind (λ x. read_whole_member (Some kind) x >>= λ one. within_limit (kept_member members one.0) one.1) (local_bind (read_whole_member (Some kind)) (λ one x. within_limit (kept_member members one) x) (local_whole_member (Some kind)) (λ one. local_within (kept_member members one)))))
    (λ x y. refl) (λ x. refl))

pub local_members : (first : One) → IsLocal (read_members first)
unfolding read_members
local_members first = local_repeat (List_step (kind_of first)) nothing (list_step (kind_of first)) (list_is_step (kind_of first)) (local_step (kind_of first)) (first ∷ [])

pub local_list : (kind : Option Kind) → IsLocal (read_list kind)
unfolding read_list
local_list kind = local_behind (λ x. read_member kind x >>= λ first. read_members first.0 first.1 >>= λ all. Ok (as_value all.0, all.1))
    (local_bind (read_member kind) (λ first x. read_members first x >>= λ all. Ok (as_value all.0, all.1)) (local_member kind) (λ first. local_as as_value (read_members first) (local_members first)))

-- values with their types
local_kind_word : IsLocal read_kind_word
unfolding read_kind_word
local_kind_word =
    local_test (begins 105) (λ x. read_literal (codes "int)") x >>= λ a. Ok (Whole, a.1)) (λ x. cond (begins 115 x) (read_literal (codes "string)") x >>= λ a. Ok (Words, a.1)) (cond (begins 98 x) (read_literal (codes "boolean)") x >>= λ a. Ok (Either, a.1)) (read_literal (codes "fraction)") x >>= λ a. Ok (Quotients, a.1)))) (same_begins 105) (local_just (codes "int)") Whole)
    (local_test (begins 115) (λ x. read_literal (codes "string)") x >>= λ a. Ok (Words, a.1)) (λ x. cond (begins 98 x) (read_literal (codes "boolean)") x >>= λ a. Ok (Either, a.1)) (read_literal (codes "fraction)") x >>= λ a. Ok (Quotients, a.1))) (same_begins 115) (local_just (codes "string)") Words)
    (local_test (begins 98) (λ x. read_literal (codes "boolean)") x >>= λ a. Ok (Either, a.1)) (λ x. read_literal (codes "fraction)") x >>= λ a. Ok (Quotients, a.1)) (same_begins 98) (local_just (codes "boolean)") Either) (local_just (codes "fraction)") Quotients)))

pub local_kind : IsLocal read_kind
unfolding read_kind
local_kind = local_bind (expect 40) (λ u x. read_kind_word x) (local_byte 40) (λ u. local_kind_word)

local_plain : (kind : Option Kind) → IsLocal (λ x. read_value_from kind x (after_byte 123 x))
local_plain kind = local_choice 123 (read_list kind) (λ x. read_member kind x >>= λ a. Ok (Single a.0, a.1)) (read_value_from kind) (local_list kind) (local_as Single (read_member kind) (local_member kind)) (λ x y. refl) (λ x. refl)

pub local_value : IsLocal read_value
local_value = local_same (λ x. cond (begins 40 x) (from_typed x) (read_value_from None x (after_byte 123 x))) read_value value_split
    (local_test (begins 40) from_typed (λ x. read_value_from None x (after_byte 123 x)) (same_begins 40)
    (local_bind read_kind (λ kind x. read_value_from (Some kind) (behind_spaces x) (after_byte 123 (behind_spaces x))) local_kind (λ kind. local_behind (λ x. read_value_from (Some kind) x (after_byte 123 x)) (local_plain (Some kind))))
    (local_plain None))

local_whole_value : IsLocal read_whole_value
local_whole_value = local_ended read_value read_whole_value value_ended local_value

-- fields
local_few : (s : Description Value) → IsLocal (few_fields s)
local_few s = local_cond (nat_lt 64 (length s.fields)) (λ x. Err many) (λ x. Ok (s, x)) local_many (local_ok s)

local_setting : (s : Description Value) (name : List ℕ) → IsLocal (setting s name)
local_setting s name = local_bind (read_mark 61) (λ e x. read_whole_value x >>= λ v. few_fields (with_field s name v.0) v.1) (local_mark 61) (λ e. local_bind read_whole_value (λ v x. few_fields (with_field s name v) x) local_whole_value (λ v. local_few (with_field s name v)))

pub local_naming : (s : Description Value) (name : List ℕ) → IsLocal (naming s name)
local_naming s name = local_cond (is_some (value_at name s.fields)) (λ x. Err (misspelt x)) (setting s name) local_refused (local_setting s name)

pub local_field : (s : Description Value) → IsLocal (read_field s)
unfolding read_field
local_field s = local_bind read_name (naming s) local_name (local_naming s)

-- structures
pub local_head : IsLocal read_head
unfolding read_head
local_head = local_as bare read_media local_media

local_finish : (made : Made) → IsLocal (few_structures made)
local_finish made = local_cond (nat_lt 63 (length made.0)) (λ x. Err many) (λ x. Ok (made.0 ++ made.1 ∷ [], x)) local_many (local_ok (made.0 ++ made.1 ∷ []))

abbrev pub begun : List (Description Value) → Description Value → Outcome
begun all s = again (all, s)

abbrev pub starting : List (Description Value) → List ℕ → Answer Outcome
starting all x = read_head x >>= λ s. Ok (begun all s.0, s.1)

abbrev pub finishing : Made → List ℕ → Answer Outcome
finishing made x = few_structures made x >>= λ all. starting all.0 (behind_spaces all.1)

local_new : (made : Made) → IsLocal (λ x. expect 59 x >>= λ m. finishing made m.1)
local_new made = local_bind (expect 59) (λ m x. finishing made x) (local_byte 59)
    (λ m. local_bind (few_structures made) (λ all x. starting all (behind_spaces x)) (local_finish made)
    (λ all. local_behind (starting all) (local_as (begun all) read_head local_head)))

pub local_more : (made : Made) → IsLocal (read_more made)
unfolding read_more
local_more made = local_behind (λ x. more_from made x (after_byte 44 x))
    (local_choice 44 (λ x. read_field made.1 (behind_spaces x) >>= λ s. Ok (again (made.0, s.0), s.1)) (λ x. expect 59 x >>= λ m. finishing made m.1) (more_from made)
    (local_behind (λ x. read_field made.1 x >>= λ s. Ok (again (made.0, s.0), s.1)) (local_as (one_field made) (read_field made.1) (local_field made.1)))
    (local_new made) (λ x y. refl) (λ x. refl))

same_end : (x y : List ℕ) → Same_start x y → eqb (length x) 0 ≡ eqb (length y) 0
same_end [] [] h = refl
same_end [] (c ∷ cs) h = absurd h
same_end (b ∷ bs) [] h = absurd h
same_end (b ∷ bs) (c ∷ cs) h = no b bs ∙ sym (no c cs)
  where
    no : (b : ℕ) (l : List ℕ) → eqb (length (b ∷ l)) 0 ≡ false
    no b l = ne_eqb (length (b ∷ l)) 0 (λ e. omega (arith, e))

pub local_caps : (made : Made) → IsLocal (caps_step made)
unfolding caps_step
local_caps made = local_test (λ x. eqb (length x) 0) (λ x. few_structures made x >>= λ all. Ok (done all.0, all.1)) (read_more made) same_end (local_as done (few_structures made) (local_finish made)) (local_more made)

pub local_structures : IsLocal read_structures
unfolding read_structures
local_structures = local_bind read_head (λ s x. repeat caps_step ([], s) x) local_head (λ s. local_repeat Caps_step all_bytes caps_step caps_is_step local_caps ([], s))
