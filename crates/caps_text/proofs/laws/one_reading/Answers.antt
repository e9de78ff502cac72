use Rattle.caps_text.proofs.Parsing.{caps_one}
use Rattle.caps_text.proofs.laws.one_reading.Goals as goal

pub returns : goal.returns
returns c = caps_one
