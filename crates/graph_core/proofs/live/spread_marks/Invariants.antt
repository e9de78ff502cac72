use Rattle.graph_order.specs.Marks.{unmarked}
use Rattle.graph_core.specs.Live.{IsSpreading}
use Rattle.graph_core.proofs.live.spread_marks.Given as goal

abbrev pub invariant-loop : goal.invariant-loop
invariant-loop l = IsSpreading l.links l.initial.marks.items l.marks.items

abbrev pub decreases-loop : goal.decreases-loop
decreases-loop l = unmarked l.marks.items
