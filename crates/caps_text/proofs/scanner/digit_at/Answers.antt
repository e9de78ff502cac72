-- A digit is ASCII.
use Rattle.std.proofs.Common.{sym, ◌∙◌, rules}
use Rattle.caps_text.proofs.Tokens.{digit_boundary}
use Rattle.caps_text.proofs.scanner.digit_at.Goals as goal

pub range_from-requires : goal.range_from-requires
range_from-requires c less = digit_boundary c.args.text.now c.in-Some.byte.now c.utf8.text (search rules) (search rules) (sym c.is_digit.ensures ∙ c.if-is_digit.true)
