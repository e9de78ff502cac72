use Rattle.el_convert.proofs.Choosing.{accepted, never_other, raw_format}
use Rattle.el_convert.proofs.convert.Convert.take_caps.Goals as goal

pub unreachable-requires : goal.unreachable-requires
unreachable-requires c = never_other c.args.caps (accepted c.in_ok-wanted.wanted c.args.caps c.in_ok-wanted.ensures c.if-not-accepts.ensures) c.in_default.ensures.not_audio

pub stream_of-requires-clause-raw : goal.stream_of-requires-clause-raw
stream_of-requires-clause-raw c =
    let audio = accepted c.in_ok-wanted.wanted c.args.caps c.in_ok-wanted.ensures c.if-not-accepts.ensures in
    raw_format c.args.caps c.in-Ok.input.format audio.media c.in-Ok.ensures.format
