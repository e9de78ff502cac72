-- What words are read as, told without the command's matches.
use Rattle.std.specs.Prelude.{◌≡◌, ◌<◌, ◌^◌, ◌==◌, ◌++◌, ℕ, Bool, true, false, not, List, [], ◌∷◌, codes, length, Option, Some, None}
use Rattle.std.specs.List.{list_all}
use Rattle.run_words.specs.Line.{joined}
use Rattle.std.specs.Str.Parse.{digits_value}
use Rattle.run_words.specs.Said.{is_number, line_words, options_of, takes_words}
use Rattle.run_words.specs.declared.options.Options.{Options}

-- the word does not begin with a hyphen
abbrev pub is_plain : List ℕ → Bool
is_plain [] = true
is_plain (first ∷ rest) = not (first == 45)

-- what is read where no option is there
abbrev pub plain_options : List (List ℕ) → Options
plain_options line = record { script = None; threads = true; order = 0; quiet = false; line = joined line }

-- words of which none begins with a hyphen are taken, and are the line
abbrev pub PlainWordsAreTheLine : Type 0
PlainWordsAreTheLine = (line : List (List ℕ)) → list_all is_plain line ≡ true → length line < 2 ^ 64
    → (takes_words line ≡ true) × (line_words line ≡ line) × (options_of line ≡ plain_options line)

-- ---- written options

abbrev pub switch : Bool → List ℕ
switch true = codes "on"
switch false = codes "off"

abbrev pub flag_words : Bool → List (List ℕ)
flag_words true = codes "--quiet" ∷ []
flag_words false = []

-- a script is named by any text, also by an empty one
abbrev pub script_words : Option (List ℕ) → List (List ℕ)
script_words None = []
script_words (Some location) = (codes "--script=" ++ location) ∷ []

-- the options that are written out, the script's first where one is named, and behind `--` the words of the line
abbrev pub written : Option (List ℕ) → Bool → List ℕ → Bool → List (List ℕ) → List (List ℕ)
written script threads digits quiet line =
    script_words script ++ (codes "--threads=" ++ switch threads) ∷ (codes "--order=" ++ digits) ∷ (flag_words quiet ++ codes "--" ∷ line)

abbrev pub written_options : Option (List ℕ) → Bool → List ℕ → Bool → List (List ℕ) → Options
written_options script threads digits quiet line =
    record { script = script; threads = threads; order = digits_value 10 digits; quiet = quiet; line = joined line }

-- options that are written out are read as they are, with any words of a line behind them
abbrev pub WrittenWordsAreRead : Type 0
WrittenWordsAreRead = (script : Option (List ℕ)) (threads quiet : Bool) (digits : List ℕ) (line : List (List ℕ)) → is_number digits ≡ true → length line < 2 ^ 64
    → (takes_words (written script threads digits quiet line) ≡ true) × (line_words (written script threads digits quiet line) ≡ line)
    × (options_of (written script threads digits quiet line) ≡ written_options script threads digits quiet line)
