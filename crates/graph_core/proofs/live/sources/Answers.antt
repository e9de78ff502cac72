use Rattle.std.proofs.Common.{arith}
use Rattle.graph_core.specs.Elements.{all_made}
use Rattle.graph_core.proofs.Marking.{source_more}
use Rattle.graph_core.proofs.live.sources.Goals as goal

pub loop-element-preserved : goal.loop-element-preserved
loop-element-preserved c =
    source_more (all_made c.args.elements.now) c.loop-element.element c.settings.result.now c.is_source.result c.loop-element.live.items c.push.new.self.items (omega (arith, c.count-element-end.ensures.count, c.loop-element-test.true)) c.settings.ensures
    c.is_source.ensures c.loop-element.invariant c.in_ok-push.ensures.items
