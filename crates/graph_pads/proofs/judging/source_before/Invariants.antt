use Rattle.std.proofs.Common.{◌≡◌, drop}
use Rattle.graph_pads.specs.Links.{source_before}
use Rattle.graph_pads.proofs.judging.source_before.Given as goal

abbrev pub invariant-loop-link : goal.invariant-loop-link
invariant-loop-link l = source_before (drop l.link-index l.links) l.sink ≡ source_before l.links l.sink
