-- One digit more is read.
use Rattle.std.proofs.Common.{sym, ◌∙◌}
use Rattle.caps_text.proofs.Tokens.{digits_step, small_begin}
use Rattle.caps_text.proofs.number.read_digits.Goals as goal

pub loop-digit-preserved : goal.loop-digit-preserved
loop-digit-preserved c =
    let can = sym c.can_begin.ensures.same ∙ c.if-not-can_begin.false in
    (sym (digits_step c.args.wanted c.args.negative c.loop-digit.size c.loop-digit.scanner.rest.now c.in-Some.digit c.in-Some.behind.now (sym c.in-Some.ensures) can) ∙ c.loop-digit.invariant.0, small_begin c.args.wanted c.args.negative _ can)
