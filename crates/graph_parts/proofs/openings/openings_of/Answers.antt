use Rattle.std.proofs.Common.{arith}
use Rattle.graph_core.specs.Graph.{made}
use Rattle.graph_parts.proofs.Opened.{opening_more}
use Rattle.graph_parts.proofs.openings.openings_of.Goals as goal

pub loop-element-preserved : goal.loop-element-preserved
loop-element-preserved c =
    opening_more (made c.args.graph.now) c.loop-element.element c.settings.result.now c.in_ok-opening_of.field-0 c.loop-element.openings.items c.push.new.self.items (omega (arith, c.count-element-end.ensures.count, c.loop-element-test.true)) c.settings.ensures
    c.in_ok-opening_of.ensures c.loop-element.invariant c.in_ok-push.ensures.items
