-- What the program's words say.
use Rattle.std.specs.Prelude.{ℕ, Bool, true, false, not, ◌&&◌, ◌||◌, ◌==◌, ◌^◌, ◌-◌, List, [], ◌∷◌, Option}
use Rattle.std.specs.Prelude.{codes, length, unwrap_or}
use Rattle.std.specs.Option.{option_map_or}
use Rattle.std.specs.Str.{bytes_eq}
use Rattle.std.specs.Str.Parse.{digits_value}
use Rattle.clap.specs.Simple.{matches_of}
use Rattle.clap.specs.Takes.{takes}
use Rattle.clap.specs.ValueTests.{is_unsigned_in}
use Rattle.clap.specs.Walk.{Row, all_of, first_of}
use Rattle.run_words.specs.Command.{the_app}
use Rattle.run_words.specs.Line.{joined}
use Rattle.run_words.specs.declared.options.Options.{Options}

-- ---- the values of options

abbrev pub is_switch : List ℕ → Bool
is_switch text = bytes_eq text (codes "on") || bytes_eq text (codes "off")

abbrev pub is_on : List ℕ → Bool
is_on text = not (bytes_eq text (codes "off"))

-- no plus sign stands before the digits, and no zero before other digits
abbrev pub is_bare : List ℕ → Bool
is_bare [] = false
is_bare (first ∷ rest) = not (first == 43) && (not (first == 48) || (length rest == 0))

-- bare decimal digits that write a number of 64 bits: `u64` alone would read `+1` and `01` as well
abbrev pub is_number : List ℕ → Bool
is_number text = is_bare text && is_unsigned_in 0 (2 ^ 64 - 1) text

-- ---- what the command's matches say

abbrev pub threads_hold : List Row → Bool
threads_hold rows = option_map_or is_switch (first_of (codes "threads") rows) true

abbrev pub order_holds : List Row → Bool
order_holds rows = option_map_or is_number (first_of (codes "order") rows) true

-- each option has a value that it may have
abbrev pub values_hold : List Row → Bool
values_hold rows = threads_hold rows && order_holds rows

-- the location of the script's file, where one is named: any text, also an empty one
abbrev pub script_in : List Row → Option (List ℕ)
script_in rows = first_of (codes "script") rows

-- on where nothing is said
abbrev pub threads_in : List Row → Bool
threads_in rows = option_map_or is_on (first_of (codes "threads") rows) true

-- the number that the digits write, and 0 where nothing is said
abbrev pub order_in : List Row → ℕ
order_in rows = option_map_or (digits_value 10) (first_of (codes "order") rows) 0

-- the flag is there, and so is true
abbrev pub quiet_in : List Row → Bool
quiet_in rows = option_map_or (λ text. bytes_eq text (codes "true")) (first_of (codes "quiet") rows) false

abbrev pub line_words_in : List Row → List (List ℕ)
line_words_in rows = unwrap_or (all_of (codes "WORD") rows) []

-- ---- what the words say

-- the command takes the words, and each option has a value that it may have
abbrev pub takes_words : List (List ℕ) → Bool
takes_words words = takes the_app words && values_hold (matches_of the_app words)

-- the words of the line, in their order
abbrev pub line_words : List (List ℕ) → List (List ℕ)
line_words words = line_words_in (matches_of the_app words)

abbrev pub options_of : List (List ℕ) → Options
options_of words = record {
  script = script_in (matches_of the_app words);
  threads = threads_in (matches_of the_app words);
  order = order_in (matches_of the_app words);
  quiet = quiet_in (matches_of the_app words);
  line = joined (line_words words);
}
