use Rattle.std.proofs.Common.{arith}
use Rattle.wav_format.proofs.Formats.{fit_to_numbers, numbers_to_fit}
use Rattle.wav_format.proofs.format.may_fit.Goals as goal

pub returns : goal.returns
returns c = (
  λ h. numbers_to_fit c.args.given.now c.args.size c.requires (λ i. let f = c.type_inv.given i in omega arith) (c.numbers_agree.ensures.0 h),
  λ m. c.numbers_agree.ensures.1 (fit_to_numbers c.args.given.now c.args.size m),
)
