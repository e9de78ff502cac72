use Rattle.std.proofs.Common.{◌≡◌, drop}
use Rattle.graph_pads.specs.Links.{sink_behind}
use Rattle.graph_pads.proofs.judging.sink_behind.Given as goal

abbrev pub invariant-loop-link : goal.invariant-loop-link
invariant-loop-link l = sink_behind (drop l.link-index l.links) l.source ≡ sink_behind l.links l.source
