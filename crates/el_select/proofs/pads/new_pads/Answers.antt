use Rattle.std.proofs.Common.{arith}
use Rattle.el_select.proofs.Knowing.{know_made}
use Rattle.el_select.proofs.pads.new_pads.Goals as goal

pub loop-preserved : goal.loop-preserved
loop-preserved c = record {
  know = know_made c.loop.counter c.loop.pads.items c.push.new.self.items c.new.result c.in_ok-push.ensures.items c.loop.invariant.know c.new.ensures;
  count = omega (arith, c.loop.invariant.count, c.in_ok-push.ensures.len);
}
