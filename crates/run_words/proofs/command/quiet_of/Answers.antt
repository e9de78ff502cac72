-- The flag is not there, or it has a value.
use Rattle.std.proofs.Common.{◌∙◌, ap, false, codes}
use Rattle.std.specs.Option.{option_map_or}
use Rattle.std.specs.Str.{bytes_eq}
use Rattle.clap.specs.Words.{found_of}
use Rattle.run_words.proofs.Values.{none_shown, some_shown}
use Rattle.run_words.proofs.command.quiet_of.Goals as goal

pub returns-in-None : goal.returns-in-None
returns-in-None c = ap (λ o. option_map_or (λ text. bytes_eq text (codes "true")) o false)
    (none_shown (found_of c.args.matches.now) (codes "quiet") c.get_str.result c.get_str.ensures c.in-None.is)

pub returns-in-Some : goal.returns-in-Some
returns-in-Some c = c.eq.ensures ∙ ap (λ o. option_map_or (λ text. bytes_eq text (codes "true")) o false)
    (some_shown (found_of c.args.matches.now) (codes "quiet") c.get_str.result c.in-Some.text c.get_str.ensures c.in-Some.is)
