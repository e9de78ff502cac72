use Rattle.graph_core.specs.Elements.{all_made}
use Rattle.world_core.specs.Told.{sink_told}
use Rattle.world_core.proofs.Choosing.{chosen_next}
use Rattle.world_core.proofs.report.lengths_of.Goals as goal

pub loop-element-preserved : goal.loop-element-preserved
loop-element-preserved c =
    chosen_next (sink_told (all_made c.args.elements.now) c.args.lengths.now) c.loop-element.element c.in_ok-length_at.field-0 c.loop-element.counts c.push_some.new.list
    c.in_ok-length_at.ensures c.loop-element.invariant c.in_ok-push_some.ensures
