use Rattle.std.proofs.Common.{[], ◌∷◌, ◌++◌}
use Rattle.flow_model.specs.Item.{Ev, FlushStop}
use Rattle.el_wav.proofs.wav_data.KnownHead.flush.Goals as goal

pub returns : goal.returns
returns c = λ k calls number (head, info, (put, p)).
    (head, info, (put ++ Ev (FlushStop number) ∷ [], c.flush.ensures k.info calls put number p))
