use Rattle.graph_parts.specs.Counts.{PartCounted}
use Rattle.graph_parts.specs.Put.{PutBack}
use Rattle.graph_parts.proofs.Putting.{Upto}
use Rattle.graph_parts.proofs.counts.count_parts.Given as goal

abbrev pub invariant-loop-place : goal.invariant-loop-place
invariant-loop-place g l = PutBack (Upto PartCounted l.parts l.place) l.fn.counts.items l.counts.items
