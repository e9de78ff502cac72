use Rattle.std.proofs.Common.{Option, subst, sym}
use Rattle.pad_core.specs.declared.probe.Probe.{Probe}
use Rattle.task_edits.specs.Changes.{PartChanged, ProbedBy}
use Rattle.task_edits.proofs.Padding.{probed_part}
use Rattle.task_edits.proofs.probes.probe_part.Goals as goal

pub returns-in-Some : goal.returns-in-Some
returns-in-Some g c = subst (λ (probe : Option Probe). PartChanged (ProbedBy probe) c.args.port c.args.part.now c.block.new.self) (sym c.in-Some.is) (probed_part c.args.part.now c.block.new.self c.args.port _ c.block.ensures)

pub returns-in-None : goal.returns-in-None
returns-in-None g c = subst (λ (probe : Option Probe). PartChanged (ProbedBy probe) c.args.port c.args.part.now c.unblock.new.self) (sym c.in-None.is) (probed_part c.args.part.now c.unblock.new.self c.args.port _ c.unblock.ensures)
