use Rattle.std.proofs.Common.{◌≡◌, ◌++◌, take}
use Rattle.graph_parts.specs.Links.{inside}
use Rattle.graph_parts.proofs.walk.put_inside.Given as goal

abbrev pub invariant-loop-pad : goal.invariant-loop-pad
invariant-loop-pad l = l.next.items ≡ l.initial.next.items ++ inside (take l.pad-index l.pads)
