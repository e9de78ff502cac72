use Rattle.net_turns.proofs.Ending.{calm_at}
use Rattle.net_turns.proofs.laws.lines_end.Goals as goal

pub returns : goal.returns
returns g c = λ m tasks steps tells rests lines. calm_at m tasks steps tells rests lines
