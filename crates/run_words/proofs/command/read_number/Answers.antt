-- The digits are bare, and `parse` reads them or not.
use Rattle.std.proofs.Common.{◌∙◌, sym}
use Rattle.run_words.proofs.Values.{number_read}
use Rattle.run_words.proofs.command.read_number.Goals as goal

pub returns : goal.returns
returns c = rw c.ok.ensures.value (number_read c.args.digits.now c.parse.result (sym c.is_bare.ensures ∙ c.if-not-is_bare.false) c.parse.ensures.value.0)
