use Rattle.el_wav.proofs.WavParseTelling.{tells_heads}
use Rattle.el_wav.proofs.wav_told.heads_are_told.Goals as goal

pub returns : goal.returns
returns c = tells_heads c.one_is_told.ensures.answer_told c.one_is_told.ensures.once
