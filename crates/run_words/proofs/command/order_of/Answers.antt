-- Nothing is said, or a value is.
use Rattle.std.proofs.Common.{codes}
use Rattle.std.specs.Str.Parse.{digits_value}
use Rattle.clap.specs.Words.{first_of, found_of, rows_of}
use Rattle.run_words.specs.Said.{is_number}
use Rattle.run_words.proofs.Values.{none_shown, some_shown, value_none, value_some}
use Rattle.run_words.proofs.command.order_of.Goals as goal

pub returns-in-None : goal.returns-in-None
returns-in-None c = value_none is_number (digits_value 10) 0 (first_of (codes "order") (rows_of (found_of c.args.matches.now)))
    (none_shown (found_of c.args.matches.now) (codes "order") c.get_str.result c.get_str.ensures c.in-None.is)

pub returns-in-Some : goal.returns-in-Some
returns-in-Some c = value_some is_number (digits_value 10) 0 (first_of (codes "order") (rows_of (found_of c.args.matches.now))) c.in-Some.digits.now c.read_number.result
    (some_shown (found_of c.args.matches.now) (codes "order") c.get_str.result c.in-Some.digits c.get_str.ensures c.in-Some.is) c.read_number.ensures
