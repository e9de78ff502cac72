use Rattle.std.proofs.Common.{◌≡◌, map, take}
use Rattle.graph_core.specs.Graph.{made}
use Rattle.graph_parts.specs.Files.{made_opening}
use Rattle.graph_parts.proofs.openings.openings_of.Given as goal

abbrev pub invariant-loop-element : goal.invariant-loop-element
invariant-loop-element l = l.openings.items ≡ map made_opening (take l.element (made l.graph))
