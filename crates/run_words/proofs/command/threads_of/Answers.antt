-- Nothing is said, or a value is.
use Rattle.std.proofs.Common.{true, codes}
use Rattle.clap.specs.Words.{first_of, found_of, rows_of}
use Rattle.run_words.specs.Said.{is_on, is_switch}
use Rattle.run_words.proofs.Values.{none_shown, some_shown, value_none, value_some}
use Rattle.run_words.proofs.command.threads_of.Goals as goal

pub returns-in-None : goal.returns-in-None
returns-in-None c = value_none is_switch is_on true (first_of (codes "threads") (rows_of (found_of c.args.matches.now)))
    (none_shown (found_of c.args.matches.now) (codes "threads") c.get_str.result c.get_str.ensures c.in-None.is)

pub returns-in-Some : goal.returns-in-Some
returns-in-Some c = value_some is_switch is_on true (first_of (codes "threads") (rows_of (found_of c.args.matches.now))) c.in-Some.text.now c.read_switch.result
    (some_shown (found_of c.args.matches.now) (codes "threads") c.get_str.result c.in-Some.text c.get_str.ensures c.in-Some.is) c.read_switch.ensures
