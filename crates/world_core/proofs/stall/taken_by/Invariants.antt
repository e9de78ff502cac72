use Rattle.std.proofs.Common.{◌≡◌, map}
use Rattle.std.specs.List.{range_with_len}
use Rattle.std.specs.Option.{unwrap_or}
use Rattle.graph_core.specs.Elements.{all_made}
use Rattle.graph_core.specs.GraphPlan.{pad_id, sink_at as place_at}
use Rattle.net_task.specs.Counted.{received_by}
use Rattle.world_core.specs.Stalled.{place_told}
use Rattle.world_core.proofs.stall.taken_by.Given as goal

abbrev pub invariant-loop-pad : goal.invariant-loop-pad
invariant-loop-pad g l =
    l.places
    ≡ map (λ pad. place_told (all_made l.elements) (λ sink. unwrap_or (received_by g.I.Inlet (pad_id sink) l.task.head) 0) (place_at l.head pad)) (range_with_len 0 l.pad)
