use Rattle.graph_parts.specs.Counts.{TaskCounted}
use Rattle.graph_parts.specs.Put.{PutBack}
use Rattle.graph_parts.proofs.Putting.{Upto}
use Rattle.graph_parts.proofs.counts.count_pads.Given as goal

abbrev pub invariant-loop-place : goal.invariant-loop-place
invariant-loop-place g l = PutBack (Upto TaskCounted l.tasks l.place) l.fn.counts.items l.counts.items
