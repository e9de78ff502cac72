-- How the parts of a caps text are read, from the front on.
use Rattle.std.specs.Prelude.{ℕ, ◌+◌, ◌-◌, ◌*◌, ◌/◌, ◌==◌, ◌++◌, ℤ, pos, Bool, true, false, cond, ◌&&◌, ◌||◌, List, [], ◌∷◌, Option, Some, None, Ok, Err, is_some, length, codes, nat_le, nat_lt, int_le, suc, zero}
use Rattle.std.specs.List.{list_any}
use Rattle.std.specs.Ordering.{int_eq}
use Rattle.std.specs.Str.{bytes_eq}
use Rattle.gst_caps.specs.Accepts.{value_at}
use Rattle.gst_caps.specs.Common.{as_value}
use Rattle.gst_value.specs.Common.{same}
use Rattle.gst_value.specs.Description.{Description}
use Rattle.gst_value.specs.Fractions.{signed}
use Rattle.gst_value.specs.Names.{fields_with}
use Rattle.gst_value.specs.declared.one.One.{One}
use Rattle.gst_value.specs.declared.one.One.TheVariants.{Int, Bool as Truth, Text, IntRange}
use Rattle.gst_caps.specs.declared.value.Value.{Value}
use Rattle.gst_caps.specs.declared.value.Value.TheVariants.{One as Single}
use Rattle.caps_text.specs.Answers.{Answer, misspelt, many, ◌>>=◌, found}
use Rattle.caps_text.specs.Bytes.{in_class, is_digit, is_letter}
use Rattle.caps_text.specs.Kinds.{kind_of}
use Rattle.caps_text.specs.Ratio.{fits, ratio}
use Rattle.caps_text.specs.declared.class.Class.{Class}
use Rattle.caps_text.specs.declared.class.Class.TheVariants.{Media, Name, Word}
use Rattle.caps_text.specs.declared.kind.Kind.{Kind}
use Rattle.caps_text.specs.declared.kind.Kind.TheVariants.{Int as Whole, Bool as Either, Text as Words, Fraction as Ratio}
use Rattle.caps_text.specs.declared.number.Wanted.{Wanted}
use Rattle.caps_text.specs.declared.number.Wanted.TheVariants.{AtLeast, Denominator}

-- what stands behind this byte, where it stands first
abbrev pub after_byte : ℕ → List ℕ → Option (List ℕ)
after_byte mark [] = None
after_byte mark (b ∷ bs) = cond (b == mark) (Some bs) None

-- whether this byte stands first
abbrev pub begins : ℕ → List ℕ → Bool
begins mark x = is_some (after_byte mark x)

-- a byte that has to stand first
abbrev pub passed : List ℕ → Option (List ℕ) → Answer (Unit {0})
passed x None = Err (misspelt x)
passed x (Some rest) = Ok (tt, rest)

unfoldable pub expect : ℕ → List ℕ → Answer (Unit {0})
expect mark x = passed x (after_byte mark x)

-- what stands behind the spaces
abbrev pub behind_spaces : List ℕ → List ℕ
behind_spaces [] = []
behind_spaces (b ∷ bs) = cond (b == 32) (behind_spaces bs) (b ∷ bs)

unfoldable pub read_mark : ℕ → List ℕ → Answer (Unit {0})
read_mark mark x = expect mark (behind_spaces x) >>= λ a. Ok (tt, behind_spaces a.1)

-- a word, byte by byte
abbrev pub read_literal : List ℕ → List ℕ → Answer (Unit {0})
read_literal [] x = Ok (tt, x)
read_literal (w ∷ ws) x = expect w x >>= λ a. read_literal ws a.1

-- the bytes of a class that stand first, and what stands behind them
abbrev pub run_of : Class → List ℕ → List ℕ
run_of class [] = []
run_of class (b ∷ bs) = cond (in_class class b) (b ∷ run_of class bs) []

abbrev pub behind_run : Class → List ℕ → List ℕ
behind_run class [] = []
behind_run class (b ∷ bs) = cond (in_class class b) (behind_run class bs) (b ∷ bs)

unfoldable pub some_run : Class → List ℕ → Answer (List ℕ)
some_run class x = cond (length (run_of class x) == 0) (Err (misspelt (behind_run class x))) (Ok (run_of class x, behind_run class x))

-- a digit that stands first, and what stands behind it
abbrev pub digit_at : List ℕ → Option (ℕ × List ℕ)
digit_at [] = None
digit_at (b ∷ bs) = cond (is_digit b) (Some (b - 48, bs)) None

abbrev pub least_number : ℤ
least_number = signed true 2147483648

-- the powers of ten with which digits can make a number longer
abbrev pub powers : List ℕ
powers = 1 ∷ 10 ∷ 100 ∷ 1000 ∷ 10000 ∷ 100000 ∷ 1000000 ∷ 10000000 ∷ 100000000 ∷ 1000000000 ∷ 10000000000 ∷ []

-- whether the digits of a number from least on begin with those of size, where so many digits follow that p is the
-- power of ten for them
abbrev pub reaches_by : ℕ → ℤ → ℕ → Bool
reaches_by size least p = nat_le size (2147483647 / p) && int_le least (pos (size * p + (p - 1)))

unfoldable pub reaches : ℕ → ℤ → Bool
reaches size least = list_any (reaches_by size least) powers

-- whether a number is one of those that are wanted
abbrev pub is_wanted : Wanted → ℤ → Bool
is_wanted (AtLeast least) n = int_le least n
is_wanted (Denominator num) n = is_some (ratio num n)

unfoldable pub wanted_number : Wanted → Bool → ℕ → Option ℤ
wanted_number w negative size = cond (fits negative size && is_wanted w (signed negative size)) (Some (signed negative size)) None

-- whether some digits behind those of size make a number that is wanted
unfoldable pub can_begin : Wanted → Bool → ℕ → Bool
can_begin (AtLeast least) true size = nat_le size 2147483648 && int_le least (signed true size)
can_begin (AtLeast least) false size = reaches size least
can_begin (Denominator num) negative size = nat_le size 214748364 || is_some (wanted_number (Denominator num) negative size)

-- the size that digits write behind those of size
abbrev pub read_digits : Wanted → Bool → ℕ → List ℕ → Answer ℕ
read_digits w negative size [] = Ok (size, [])
read_digits w negative size (b ∷ bs) =
    cond (is_digit b) (cond (can_begin w negative (size * 10 + (b - 48))) (read_digits w negative (size * 10 + (b - 48)) bs) (Err (misspelt (b ∷ bs)))) (Ok (size, b ∷ bs))

-- a minus that stands first, where a number with a minus is wanted
abbrev pub behind_minus : List ℕ → Option (List ℕ) → Bool × List ℕ
behind_minus x None = (false, x)
behind_minus x (Some rest) = (true, rest)

unfoldable pub minus : Wanted → List ℕ → Bool × List ℕ
minus w x = cond (can_begin w true 0) (behind_minus x (after_byte 45 x)) (false, x)

unfoldable pub read_size : Wanted → Bool × List ℕ → Answer ℤ
read_size w m = cond (is_some (digit_at m.1)) (read_digits w m.0 0 m.1 >>= λ d. found (wanted_number w m.0 d.0) d.1) (Err (misspelt m.1))

unfoldable pub read_number : Wanted → List ℕ → Answer ℤ
read_number w x = read_size w (minus w x)

unfoldable pub read_fraction : List ℕ → Answer One
read_fraction x = read_number (AtLeast least_number) x >>= λ n. expect 47 n.1 >>= λ s. read_number (Denominator n.0) s.1 >>= λ d. found (ratio n.0 d.0) d.1

-- a value of a whole text
abbrev pub whole : {V : Type 0} → Answer V → Option V
whole (Ok a) = cond (length a.1 == 0) (Some a.0) None
whole (Err e) = None

unfoldable pub whole_number : List ℕ → Option ℤ
whole_number x = whole (read_number (AtLeast least_number) x)

unfoldable pub read_pair : List ℕ → Answer (ℤ × ℤ)
read_pair x = read_number (AtLeast least_number) x >>= λ n. expect 47 n.1 >>= λ s. read_number (AtLeast least_number) s.1 >>= λ d. Ok ((n.0, d.0), d.1)

unfoldable pub whole_pair : List ℕ → Option (ℤ × ℤ)
whole_pair x = whole (read_pair x)

-- what a value without type and quotes is: a number, a fraction, a truth value, or else a string
abbrev pub judge_words : List ℕ → One
judge_words x = cond (bytes_eq x (codes "true")) (Truth true) (cond (bytes_eq x (codes "false")) (Truth false) (Text x))

abbrev pub judge_pair : List ℕ → Option (ℤ × ℤ) → Option One
judge_pair x (Some p) = ratio p.0 p.1
judge_pair x None = Some (judge_words x)

abbrev pub judge_number : List ℕ → Option ℤ → Option One
judge_number x (Some n) = Some (Int n)
judge_number x None = judge_pair x (whole_pair x)

unfoldable pub judge : List ℕ → Option One
judge x = judge_number x (whole_number x)

-- the bytes of a string up to the double quote that ends it, behind those so far; a byte behind a backslash is
-- taken as it is
abbrev pub read_quoted : Bool → List ℕ → List ℕ → Answer (List ℕ)
read_quoted escaped so_far [] = Err (misspelt [])
read_quoted true so_far (b ∷ bs) = read_quoted false (so_far ++ b ∷ []) bs
read_quoted false so_far (b ∷ bs) = cond (b == 34) (Ok (so_far, bs)) (cond (b == 92) (read_quoted true so_far bs) (read_quoted false (so_far ++ b ∷ []) bs))

-- behind a double quote, or a word
abbrev pub read_string_from : List ℕ → Option (List ℕ) → Answer (List ℕ)
read_string_from x (Some rest) = read_quoted false [] rest
read_string_from x None = some_run Word x

unfoldable pub read_string : List ℕ → Answer (List ℕ)
read_string x = read_string_from x (after_byte 34 x)

abbrev pub read_untyped_from : List ℕ → Option (List ℕ) → Answer One
read_untyped_from x (Some rest) = read_quoted false [] rest >>= λ a. Ok (Text a.0, a.1)
read_untyped_from x None = some_run Word x >>= λ a. found (judge a.0) a.1

unfoldable pub read_untyped : List ℕ → Answer One
read_untyped x = read_untyped_from x (after_byte 34 x)

unfoldable pub read_truth : List ℕ → Answer Bool
read_truth x = cond (begins 116 x) (read_literal (codes "true") x >>= λ a. Ok (true, a.1)) (read_literal (codes "false") x >>= λ a. Ok (false, a.1))

-- a single value of a type, or of the type that it reads as
unfoldable pub read_single : Option Kind → List ℕ → Answer One
read_single None x = read_untyped x
read_single (Some Whole) x = read_number (AtLeast least_number) x >>= λ a. Ok (Int a.0, a.1)
read_single (Some Words) x = read_string x >>= λ a. Ok (Text a.0, a.1)
read_single (Some Either) x = read_truth x >>= λ a. Ok (Truth a.0, a.1)
read_single (Some Ratio) x = read_fraction x

-- a range with equal ends is one number
abbrev pub range : ℤ → ℤ → One
range low high = cond (int_eq low high) (Int low) (IntRange low high)

unfoldable pub read_range : List ℕ → Answer One
read_range x =
    read_number (AtLeast least_number) (behind_spaces x) >>= λ low. read_mark 44 low.1 >>= λ m. read_number (AtLeast low.0) m.1 >>= λ high. expect 93 (behind_spaces high.1) >>= λ e. Ok (range low.0 high.0, e.1)

abbrev pub takes_ranges : Option Kind → Bool
takes_ranges None = true
takes_ranges (Some Whole) = true
takes_ranges (Some Words) = false
takes_ranges (Some Either) = false
takes_ranges (Some Ratio) = false

abbrev pub read_member_from : Option Kind → List ℕ → Option (List ℕ) → Answer One
read_member_from kind x (Some rest) = read_range rest
read_member_from kind x None = read_single kind x

-- a single value or a range
unfoldable pub read_member : Option Kind → List ℕ → Answer One
read_member kind x = cond (takes_ranges kind) (read_member_from kind x (after_byte 91 x)) (read_single kind x)

-- a byte of this class stands first
abbrev pub begins_run : Class → List ℕ → Bool
begins_run class [] = false
begins_run class (b ∷ bs) = in_class class b

-- no byte of a word stands behind a value
unfoldable pub end_word : List ℕ → Answer (Unit {0})
end_word x = cond (begins_run Word x) (Err (misspelt x)) (Ok (tt, x))

unfoldable pub read_whole_member : Option Kind → List ℕ → Answer One
read_whole_member kind x = read_member kind x >>= λ a. end_word a.1 >>= λ e. Ok (a.0, e.1)

-- what a step of a list or of structures comes to: more is to be read, or all is read
pub data Next (S V : Type 0) : Type 0 where
  again : S → Next S V
  done : V → Next S V

-- what a step came to
abbrev pub next : {S : Type 0} → Bool → S → Next S S
next true s = done s
next false s = again s

-- a step again and again, at most so often
abbrev pub follow : {S V : Type 0} → (S → List ℕ → Answer (Next S V)) → ℕ → List ℕ → Next S V → Answer V
follow step n x (done v) = Ok (v, x)
follow step zero x (again s) = Err (misspelt x)
follow step (suc n) x (again s) = step s x >>= λ a. follow step n a.1 a.0

-- each step passes a byte or is the last
unfoldable pub repeat : {S V : Type 0} → (S → List ℕ → Answer (Next S V)) → S → List ℕ → Answer V
repeat step s x = follow step (length x + 1) x (again s)

-- a member behind the others, where none of them is equal
abbrev pub kept_member : List One → One → List One
kept_member members one = cond (list_any (λ m. same m one) members) members (members ++ one ∷ [])

abbrev pub within_limit : List One → List ℕ → Answer (Next (List One) (List One))
within_limit members rest = cond (nat_lt 64 (length members)) (Err many) (Ok (again members, rest))

abbrev pub list_step_from : Kind → List One → List ℕ → Option (List ℕ) → Answer (Next (List One) (List One))
list_step_from kind members x (Some rest) = Ok (done members, rest)
list_step_from kind members x None = expect 44 x >>= λ m. read_whole_member (Some kind) (behind_spaces m.1) >>= λ one. within_limit (kept_member members one.0) one.1

-- the end of a list, or a comma and a member
unfoldable pub list_step : Kind → List One → List ℕ → Answer (Next (List One) (List One))
list_step kind members x = list_step_from kind members (behind_spaces x) (after_byte 125 (behind_spaces x))

unfoldable pub read_members : One → List ℕ → Answer (List One)
read_members first x = repeat (list_step (kind_of first)) (first ∷ []) x

unfoldable pub read_list : Option Kind → List ℕ → Answer Value
read_list kind x = read_member kind (behind_spaces x) >>= λ first. read_members first.0 first.1 >>= λ all. Ok (as_value all.0, all.1)

-- the word of a type
unfoldable pub read_kind_word : List ℕ → Answer Kind
read_kind_word x =
    cond (begins 105 x) (read_literal (codes "int)") x >>= λ a. Ok (Whole, a.1))
    (cond (begins 115 x) (read_literal (codes "string)") x >>= λ a. Ok (Words, a.1))
    (cond (begins 98 x) (read_literal (codes "boolean)") x >>= λ a. Ok (Either, a.1))
    (read_literal (codes "fraction)") x >>= λ a. Ok (Ratio, a.1))))

unfoldable pub read_kind : List ℕ → Answer Kind
read_kind x = expect 40 x >>= λ a. read_kind_word a.1

unfoldable pub read_type : List ℕ → Answer (Option Kind)
read_type x = cond (begins 40 x) (read_kind x >>= λ a. Ok (Some a.0, behind_spaces a.1)) (Ok (None, x))

abbrev pub read_value_from : Option Kind → List ℕ → Option (List ℕ) → Answer Value
read_value_from kind x (Some rest) = read_list kind rest
read_value_from kind x None = read_member kind x >>= λ a. Ok (Single a.0, a.1)

unfoldable pub read_value : List ℕ → Answer Value
read_value x = read_type x >>= λ a. read_value_from a.0 a.1 (after_byte 123 a.1)

unfoldable pub read_whole_value : List ℕ → Answer Value
read_whole_value x = read_value x >>= λ a. end_word a.1 >>= λ e. Ok (a.0, e.1)

-- a media type
unfoldable pub read_media : List ℕ → Answer (List ℕ)
read_media x = some_run Media x >>= λ a. expect 47 a.1 >>= λ s. some_run Media s.1 >>= λ b. Ok (a.0 ++ codes "/" ++ b.0, b.1)

-- a letter stands first
abbrev pub letter_first : List ℕ → Bool
letter_first [] = false
letter_first (b ∷ bs) = is_letter b

unfoldable pub read_name : List ℕ → Answer (List ℕ)
read_name x = cond (letter_first x) (Ok (run_of Name x, behind_run Name x)) (Err (misspelt x))

-- a field that is there has this name
abbrev pub names : List ℕ → Option (List ℕ × Value) → Bool
names name None = false
names name (Some f) = bytes_eq f.0 name

abbrev pub with_field : Description Value → List ℕ → Value → Description Value
with_field s name v = record { media = s.media; fields = fields_with name v s.fields }

abbrev pub few_fields : Description Value → List ℕ → Answer (Description Value)
few_fields s rest = cond (nat_lt 64 (length s.fields)) (Err many) (Ok (s, rest))

-- a field of a new name
unfoldable pub read_field : Description Value → List ℕ → Answer (Description Value)
read_field s x =
    read_name x >>= λ n. cond (is_some (value_at n.0 s.fields)) (Err (misspelt n.1)) (read_mark 61 n.1 >>= λ e. read_whole_value e.1 >>= λ v. few_fields (with_field s n.0 v.0) v.1)

abbrev pub bare : List ℕ → Description Value
bare media = record { media = media; fields = [] }

unfoldable pub read_head : List ℕ → Answer (Description Value)
read_head x = read_media x >>= λ m. Ok (bare m.0, m.1)

-- the structures that are whole, and the one that is being read
abbrev pub Made : Type 0
Made = List (Description Value) × Description Value

abbrev pub few_structures : Made → List ℕ → Answer (List (Description Value))
few_structures made rest = cond (nat_lt 63 (length made.0)) (Err many) (Ok (made.0 ++ made.1 ∷ [], rest))

abbrev pub more_from : Made → List ℕ → Option (List ℕ) → Answer (Next Made (List (Description Value)))
more_from made x (Some rest) = read_field made.1 (behind_spaces rest) >>= λ s. Ok (again (made.0, s.0), s.1)
more_from made x None = expect 59 x >>= λ m. few_structures made m.1 >>= λ all. read_head (behind_spaces all.1) >>= λ s. Ok (again (all.0, s.0), s.1)

-- a comma and a field, or a semicolon and a structure
unfoldable pub read_more : Made → List ℕ → Answer (Next Made (List (Description Value)))
read_more made x = more_from made (behind_spaces x) (after_byte 44 (behind_spaces x))

-- the end of the text, or more
unfoldable pub caps_step : Made → List ℕ → Answer (Next Made (List (Description Value)))
caps_step made x = cond (length x == 0) (few_structures made x >>= λ all. Ok (done all.0, all.1)) (read_more made x)

unfoldable pub read_structures : List ℕ → Answer (List (Description Value))
read_structures x = read_head x >>= λ s. repeat caps_step ([], s.0) s.1
