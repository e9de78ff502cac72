use Rattle.el_convert.proofs.Placing.{next_counts}
use Rattle.el_convert.proofs.laws.settings_count_in_output.Goals as goal

pub returns-clause-next : goal.returns-clause-next
returns-clause-next c = next_counts
