use Rattle.std.proofs.Common.{◌≡◌}
use Rattle.std.specs.Prelude.{filter_map}
use Rattle.std.specs.List.{range_with_len}
use Rattle.graph_core.specs.Elements.{all_made}
use Rattle.world_core.specs.Told.{sink_told}
use Rattle.world_core.proofs.report.lengths_of.Given as goal

abbrev pub invariant-loop-element : goal.invariant-loop-element
invariant-loop-element l = l.counts ≡ filter_map (sink_told (all_made l.elements) l.lengths) (range_with_len 0 l.element)
