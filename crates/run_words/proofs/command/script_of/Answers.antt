-- Nothing is said, or a location is.
use Rattle.std.proofs.Common.{◌∙◌, ap, codes, Some}
use Rattle.clap.specs.Words.{found_of}
use Rattle.run_words.proofs.Values.{none_shown, some_shown}
use Rattle.run_words.proofs.command.script_of.Goals as goal

pub returns-in-None : goal.returns-in-None
returns-in-None c = none_shown (found_of c.args.matches.now) (codes "script") c.get_str.result c.get_str.ensures c.in-None.is

pub returns-in_ok-from_str-in-Some : goal.returns-in_ok-from_str-in-Some
returns-in_ok-from_str-in-Some c = ap Some c.in_ok-from_str-in-Some.ensures
    ∙ some_shown (found_of c.args.matches.now) (codes "script") c.get_str.result c.in-Some.location c.get_str.ensures c.in-Some.is
