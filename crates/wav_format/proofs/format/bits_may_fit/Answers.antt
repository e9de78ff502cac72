use Rattle.std.proofs.Common.{◌∙◌}
use Rattle.wav_format.proofs.Bodies.{bits_from, bits_large, bits_none, bits_to}
use Rattle.wav_format.proofs.format.bits_may_fit.Goals as goal

pub returns-then-frame-channels-ne0 : goal.returns-then-frame-channels-ne0
returns-then-frame-channels-ne0 c =
    (λ h. absurd cc, λ b. absurd (bits_none c.args.given.now c.args.align c.from-frame.result c.from-channels.result c.from-frame.ensures (c.from-channels.ensures ∙ c.channels_in.ensures.value) c.requires c.if-frame-channels-ne0.true b))

pub returns-then-bits-gt65535 : goal.returns-then-bits-gt65535
returns-then-bits-gt65535 c =
    (λ h. absurd cc, λ b. absurd (bits_large c.args.given.now c.args.align c.from-frame.result c.from-channels.result c.from-frame.ensures (c.from-channels.ensures ∙ c.channels_in.ensures.value) c.requires c.if-bits-gt65535.true b))

pub returns : goal.returns
returns c =
    let are = c.from-channels.ensures ∙ c.channels_in.ensures.value in (
      λ h. bits_from c.args.given.now c.args.align c.from-frame.result c.from-channels.result c.from-frame.ensures are c.requires c.if-frame-channels-ne0.false c.if-bits-gt65535.false (c.agrees.ensures.0 h),
      λ b. c.agrees.ensures.1 (bits_to c.args.given.now c.args.align c.from-frame.result c.from-channels.result c.from-frame.ensures are c.requires b),
    )
