use Rattle.std.proofs.Common.{refl}
use Rattle.run_report.proofs.Numbers.{thirteen}
use Rattle.run_report.proofs.text.no_memory.Goals as goal

pub returns : goal.returns
returns c quiet report = rw thirteen refl
