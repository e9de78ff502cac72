use Rattle.std.proofs.Common.{refl}
use Rattle.el_wavenc.proofs.Encoding.{encoded_flush}
use Rattle.el_wavenc.proofs.wav_enc.WavEnc.flush.Goals as goal

pub returns : goal.returns
returns c = encoded_flush c.args.self.now _ refl refl
