use Rattle.graph_core.specs.Elements.{all_made}
use Rattle.world_core.specs.Told.{pad_told}
use Rattle.world_core.proofs.Choosing.{chosen_next}
use Rattle.world_core.proofs.report.counts_of.Goals as goal

pub loop-number-preserved : goal.loop-number-preserved
loop-number-preserved c =
    chosen_next (pad_told (all_made c.args.elements.now) c.args.counts.now) c.loop-number.number c.in_ok-count_at.field-0 c.loop-number.told c.push_some.new.list
    c.in_ok-count_at.ensures c.loop-number.invariant c.in_ok-push_some.ensures
