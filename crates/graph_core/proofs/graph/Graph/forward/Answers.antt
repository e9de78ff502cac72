use Rattle.std.proofs.Common.{ℕ, List, subst, sym, arith}
use Rattle.graph_order.specs.Forward.{IsMember}
use Rattle.graph_core.proofs.graph.Graph.forward.Goals as goal

pub returns-clause-whole : goal.returns-clause-whole
returns-clause-whole c = λ ordered e within. subst (λ (es : List ℕ). IsMember e es) (sym c.forward.ensures.order) (ordered.order.forward.whole e (omega (arith, ordered.order.count, within)))
