use Rattle.std.specs.Option.{unwrap_or}
use Rattle.graph_core.specs.Elements.{all_made}
use Rattle.graph_core.specs.GraphPlan.{pad_id, sink_at as place_at}
use Rattle.net_task.specs.Counted.{received_by}
use Rattle.world_core.specs.Stalled.{place_told}
use Rattle.world_core.proofs.StallOver.{told_more}
use Rattle.world_core.proofs.stall.taken_by.Goals as goal

pub loop-pad-preserved : goal.loop-pad-preserved
loop-pad-preserved g c =
    told_more (λ pad. place_told (all_made c.args.elements.now) (λ sink. unwrap_or (received_by g.I.Inlet (pad_id sink) c.args.task.now.head) 0) (place_at c.args.head pad))
    c.loop-pad.pad c.in_ok-place_at_pad.field-0 c.loop-pad.places c.push.new.self c.in_ok-push.ensures.ok c.in_ok-place_at_pad.ensures c.loop-pad.invariant
