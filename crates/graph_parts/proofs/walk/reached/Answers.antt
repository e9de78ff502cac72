use Rattle.std.proofs.Common.{◌∷◌, [], ◌++◌, ℕ, List, length, ap, ◌∙◌, inr, arith}
use Rattle.graph_core.specs.Graph.{made, links}
use Rattle.graph_parts.proofs.Reaching.{come_begins, come_on, counts_on, come_all}
use Rattle.graph_parts.proofs.walk.reached.Goals as goal

pub loop-init : goal.loop-init
loop-init c = record {
  come = come_begins (made c.args.graph.now) (links c.args.graph.now) c.args.head c.push.new.self.items c.new-found.result.items
      (c.in_ok-push.ensures.items ∙ ap (λ (ns : List ℕ). ns ++ c.args.head ∷ []) c.new-next.ensures.items) c.new-found.ensures.items;
  counted = inr (ap length c.new-found.ensures.items);
}

pub loop-preserved : goal.loop-preserved
loop-preserved c = record {
  come = come_on (made c.args.graph.now) (links c.args.graph.now) c.args.head c.loop.next.items c.loop.found.items c.go_on.new.next.items c.go_on.new.found.items c.in_ok-go_on.ensures c.loop.invariant.come;
  counted = counts_on (made c.args.graph.now) (links c.args.graph.now) c.loop.counter c.loop.next.items c.loop.found.items c.go_on.new.next.items c.go_on.new.found.items c.in_ok-go_on.ensures c.loop.invariant.counted;
}

pub returns : goal.returns
returns c = λ sound once is.
    come_all c.args.graph.now c.args.head c.requires c.loop.next.items c.loop.found.items c.reverse.new.self.items c.loop.counter sound once is c.loop.invariant.come c.loop.invariant.counted
    (omega (arith, c.loop-test.false, c.loop.auto.counter-end, c.count-end.ensures.count)) c.reverse.ensures.items
