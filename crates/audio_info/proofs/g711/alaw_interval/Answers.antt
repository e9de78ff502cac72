use Rattle.std.proofs.Common.{◌≡◌, ◌∙◌}
use Rattle.audio_info.proofs.Lines.{alaw_least, alaw_least_is}
use Rattle.audio_info.proofs.g711.alaw_interval.Goals as goal

pub returns : goal.returns
returns c =
    let least : c.min-6.result ≡ alaw_least c.args.magnitude = cc in
    least ∙ alaw_least_is c.args.magnitude c.requires
