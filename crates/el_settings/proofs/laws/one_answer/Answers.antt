use Rattle.el_settings.proofs.OneSet.{answers_alike}
use Rattle.el_settings.proofs.laws.one_answer.Goals as goal

pub returns : goal.returns
returns c = answers_alike c.one_reading.ensures
