use Rattle.std.proofs.Common.{sym}
use Rattle.el_wavenc.proofs.Accepted.{never_other}
use Rattle.el_wavenc.proofs.wav_enc.WavEnc.take_first.Goals as goal

pub unreachable-requires : goal.unreachable-requires
unreachable-requires c = never_other _ c.args.caps c.in_ok-wanted.ensures (sym c.if-not-accepts.ensures) c.in_default.ensures.not_audio
