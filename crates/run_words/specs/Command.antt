-- The program's command, in the terms of `clap`.
use Rattle.std.specs.Prelude.{ℕ, true, ◌^◌, ◌-◌, List, [], ◌∷◌, codes, Some}
use Rattle.clap.specs.Lexer.{usize_max}
use Rattle.clap.specs.Simple.{App, new_app, new_rule, on_top}
use Rattle.clap.specs.Walk.{Rule}
use Rattle.clap.specs.declared.builder.action.ArgAction.TheVariants.{SetTrue}
use Rattle.clap.specs.declared.builder.range.ValueRange.{ValueRange}
use Rattle.clap.specs.declared.builder.value_parser.ValueParser.TheVariants.{Unsigned}

-- an option with one value, as `--name VALUE` and `--name=VALUE`
abbrev pub option_rule : List ℕ → Rule
option_rule name = record (new_rule name) { long = Some name }

-- an option whose value `u64` reads
abbrev pub number_rule : List ℕ → Rule
number_rule name = record (option_rule name) { parser = Some (Unsigned 0 (2 ^ 64 - 1)) }

-- a flag, as `--name`
abbrev pub flag_rule : List ℕ → Rule
flag_rule name = record (new_rule name) { long = Some name; action = Some SetTrue }

abbrev pub any_number : ValueRange
any_number = record { start_inclusive = 0; end_inclusive = usize_max }

-- the last positional, with any number of values
abbrev pub words_rule : List ℕ → Rule
words_rule name = record (new_rule name) { range = Some any_number }

-- no name of the program stands among the words, and no flag asks for help or the version
abbrev pub plain_app : List ℕ → App
plain_app name = on_top (λ shape. record shape {
  no_binary_name = true;
  disable_help_flag = true;
  disable_version_flag = true;
}) (new_app name)

abbrev pub the_rules : List Rule
the_rules =
    option_rule (codes "script")
    ∷ option_rule (codes "threads")
    ∷ number_rule (codes "order")
    ∷ flag_rule (codes "quiet")
    ∷ words_rule (codes "WORD")
    ∷ []

abbrev pub the_app : App
the_app = on_top (λ shape. record shape { rules = the_rules }) (plain_app (codes "gst_run"))
