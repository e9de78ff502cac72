use Rattle.std.proofs.Common.{List, ℕ, subst, sym, ◌∙◌, arith}
use Rattle.graph_core.specs.Links.{ways}
use Rattle.graph_order.specs.Forward.{GoForward, IsMember, forward_of, links_of}
use Rattle.graph_order.proofs.Same.{same_forward}
use Rattle.graph_edits.proofs.graph.EditedGraph.forward.Goals as goal

pub returns : goal.returns
returns c = λ g is. record {
  whole = λ e within. subst (λ (es : List ℕ). IsMember e es) (sym c.forward.ensures.order) (is.forward.whole e (omega (arith, is.count, within)));
  size = c.forward.ensures.count ∙ is.count;
  goes =
      subst (λ (es : List ℕ). GoForward (ways g.ever) es) (sym c.forward.ensures.order)
      (same_forward (links_of c.args.self.now.order) (ways g.ever) (forward_of c.args.self.now.order) is.ever is.forward.goes);
}
