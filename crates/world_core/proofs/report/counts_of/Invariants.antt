use Rattle.std.proofs.Common.{◌≡◌}
use Rattle.std.specs.Prelude.{filter_map}
use Rattle.std.specs.List.{range_with_len}
use Rattle.graph_core.specs.Elements.{all_made}
use Rattle.world_core.specs.Told.{pad_told}
use Rattle.world_core.proofs.report.counts_of.Given as goal

abbrev pub invariant-loop-number : goal.invariant-loop-number
invariant-loop-number l = l.told ≡ filter_map (pad_told (all_made l.elements) l.counts) (range_with_len 0 l.number)
