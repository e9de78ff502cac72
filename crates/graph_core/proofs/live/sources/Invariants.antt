use Rattle.std.proofs.Common.{◌≡◌, map, take}
use Rattle.graph_core.specs.Elements.{all_made}
use Rattle.graph_core.specs.Live.{is_source}
use Rattle.graph_core.proofs.live.sources.Given as goal

abbrev pub invariant-loop-element : goal.invariant-loop-element
invariant-loop-element l = l.live.items ≡ map is_source (take l.element (all_made l.elements))
