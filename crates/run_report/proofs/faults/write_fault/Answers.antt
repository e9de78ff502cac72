-- The line of one kind of fault.
use Rattle.run_report.proofs.faults.write_fault.Goals as goal

pub returns-in-WriteFault : goal.returns-in-WriteFault
returns-in-WriteFault c = rw c.in-WriteFault.is c.write_failure-in-WriteFault.ensures
