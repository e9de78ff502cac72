use Rattle.std.proofs.Common.{◌∙◌, ◌+◌, ap, sym, arith}
use Rattle.graph_core.specs.Links.{ways}
use Rattle.graph_core.proofs.links.unlinked.Goals as goal

pub loop-init : goal.loop-init
loop-init c = record { count = c.new-order.ensures.count; links = c.new-order.ensures.links; forward = c.new-order.ensures.forward }

pub add-requires : goal.add-requires
add-requires c = omega (arith, c.loop.invariant.count, c.count-end.ensures.few, c.loop-test.true)

pub loop-preserved : goal.loop-preserved
loop-preserved c = record {
  count = c.in_ok-add.ensures.count ∙ ap (λ n. n + 1) c.loop.invariant.count;
  links = c.in_ok-add.ensures.links ∙ c.loop.invariant.links;
  forward = c.in_ok-add.ensures.forward c.loop.invariant.forward;
}

pub returns-clause-ordered : goal.returns-clause-ordered
returns-clause-ordered c = record {
  count = omega (arith, c.loop.invariant.count, c.count-end.ensures.count, c.loop.auto.counter-end, c.loop-test.false);
  ways = c.loop.invariant.links ∙ sym (ap ways c.new.ensures.items);
  forward = c.loop.invariant.forward;
}
