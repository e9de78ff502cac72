use Rattle.wav_format.proofs.Heads.{begins_on}
use Rattle.wav_format.proofs.laws.head_stays.Goals as goal

pub returns : goal.returns
returns c = λ bytes more head begins. begins_on bytes more head begins
