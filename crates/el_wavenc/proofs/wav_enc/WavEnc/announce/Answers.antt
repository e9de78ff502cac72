use Rattle.el_wavenc.proofs.wav_enc.WavEnc.announce.Goals as goal

pub returns-clause-out : goal.returns-clause-out
returns-clause-out c = rw (c.if-self.false, ← c.in_ok-caps.ensures) c.in_ok-put_out.ensures.ok
