-- The parse takes the words exactly where the command does.
use Rattle.std.proofs.Common.{◌∙◌, ap, sym, map}
use Rattle.std.specs.String.{string_bytes}
use Rattle.clap.specs.Words.{fault_of, is_simple_and_free, takes}
use Rattle.run_words.proofs.Taken.{faultless, refused_up}
use Rattle.run_words.proofs.command.match_words.Goals as goal

pub returns-in_err-matches-clause-refused : goal.returns-in_err-matches-clause-refused
returns-in_err-matches-clause-refused c =
    refused_up c.from_residual-in_err-matches.result c.in_err-matches.field-0.0 (map string_bytes c.args.words.now) c.from_residual-in_err-matches.ensures.1
    (λ t. c.in_err-matches.ensures.passes (ap (λ a. takes a (map string_bytes c.args.words.now)) c.in_ok-command.ensures ∙ t))

pub returns-clause-taken : goal.returns-clause-taken
returns-clause-taken c =
    faultless (map string_bytes c.args.words.now) (sym (ap (λ a. fault_of a (map string_bytes c.args.words.now)) c.in_ok-command.ensures)
    ∙ c.in_ok-matches.ensures.kinds (ap is_simple_and_free c.in_ok-command.ensures))
