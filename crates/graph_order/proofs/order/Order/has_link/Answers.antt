use Rattle.std.proofs.Common.{refl, subst, arith}
use Rattle.graph_order.specs.Forward.{links_of}
use Rattle.graph_order.specs.Links.{IsLink}
use Rattle.graph_order.proofs.Reached.{link_at}
use Rattle.graph_order.proofs.order.Order.has_link.Goals as goal

pub returns-then-link-to : goal.returns-then-link-to
returns-then-link-to c = (
  λ so. let at = link_at (links_of c.args.self.now) c.loop-place.place c.index-link.result.now (omega (arith, c.loop-place-test.true, c.len-place-end.ensures, c.args.self.now.links.ok.0)) c.index-link.ensures in
      subst (λ x. IsLink x c.args.to (links_of c.args.self.now)) c.if-link-from.true (subst (λ y. IsLink c.index-link.result.now.from y (links_of c.args.self.now)) c.if-link-to.true at),
  λ is. refl,
)
