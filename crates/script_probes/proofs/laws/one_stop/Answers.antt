use Rattle.script_probes.proofs.Once.{one_stop_only, stands_later}
use Rattle.script_probes.proofs.laws.one_stop.Goals as goal

pub returns : goal.returns
returns c = record { one = one_stop_only; later = stands_later }
