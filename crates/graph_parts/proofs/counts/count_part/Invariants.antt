use Rattle.graph_parts.specs.Counts.{PadCounted}
use Rattle.graph_parts.specs.Put.{PutBack}
use Rattle.graph_parts.proofs.Putting.{Upto}
use Rattle.graph_parts.proofs.counts.count_part.Given as goal

abbrev pub invariant-loop-place : goal.invariant-loop-place
invariant-loop-place g l = PutBack (Upto PadCounted l.part.pads.items l.place) l.fn.counts.items l.counts.items
