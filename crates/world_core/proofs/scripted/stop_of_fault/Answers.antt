use Rattle.std.proofs.Common.{ap}
use Rattle.world_core.specs.declared.report.Stop.TheVariants.{Fault}
use Rattle.world_core.proofs.scripted.stop_of_fault.Goals as goal

pub returns-in-Stopped : goal.returns-in-Stopped
returns-in-Stopped c = (c.in-Stopped.stopped, c.in-Stopped.is, ap Fault c.into_fault.ensures)
