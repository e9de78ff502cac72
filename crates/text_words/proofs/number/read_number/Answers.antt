-- The digits are those of a number of 64 bits, or of none below the limit.
use Rattle.std.proofs.Common.{◌∙◌, sym, arith}
use Rattle.text_words.proofs.Numbers.{number_none}
use Rattle.text_words.proofs.number.read_number.Goals as goal

pub returns-in_default : goal.returns-in_default
returns-in_default c = number_none c.args.limit c.args.text.now c.parse.result c.in_default.field-0 c.in_default.is (omega arith) (sym c.are_digits.ensures ∙ c.if-not-are_digits.false) c.parse.ensures.value.0
