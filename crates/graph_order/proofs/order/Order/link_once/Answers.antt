use Rattle.graph_order.specs.Forward.{links_of}
use Rattle.graph_order.proofs.Same.{no_way_back, same_again}
use Rattle.graph_order.proofs.order.Order.link_once.Goals as goal

pub returns-then-has_link-clause-answer : goal.returns-then-has_link-clause-answer
returns-then-has_link-clause-answer c = λ forward.
    let there = c.has_link.ensures.0 c.if-has_link.true in
    (no_way_back c.args.self.now c.args.from c.args.to forward there, same_again c.args.from c.args.to (links_of c.args.self.now) there)
