use Rattle.std.proofs.Common.{arith, []}
use Rattle.el_join.specs.declared.pad.Pad.{Pad}
use Rattle.el_join.specs.Pads.{no_facts}
use Rattle.el_join.proofs.Clearing.{made_next}
use Rattle.el_join.proofs.pads.new_pads.Goals as goal

pub loop-preserved : goal.loop-preserved
loop-preserved c = record {
  facts = made_next (λ (p : Pad). p.facts) c.loop.counter c.loop.pads.items c.push.new.self.items c.new.result no_facts c.loop.invariant.facts c.in_ok-push.ensures.items c.new.ensures.facts;
  waiting = made_next (λ (p : Pad). p.waiting) c.loop.counter c.loop.pads.items c.push.new.self.items c.new.result [] c.loop.invariant.waiting c.in_ok-push.ensures.items c.new.ensures.waiting;
  count = omega (arith, c.loop.invariant.count, c.in_ok-push.ensures.len);
}
