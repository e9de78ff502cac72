use Rattle.std.proofs.Common.{arith}
use Rattle.wav_format.proofs.Formats.{format_to_given, given_to_format}
use Rattle.wav_format.proofs.format.may_be_format.Goals as goal

pub returns : goal.returns
returns c = (
  λ h. given_to_format c.args.given.now c.args.size c.requires (λ i. let f = c.type_inv.given i in omega arith) (c.format_agrees.ensures.0 h),
  λ m. c.format_agrees.ensures.1 (format_to_given c.args.given.now c.args.size m),
)
