use Rattle.std.proofs.Common.{◌<◌, ◌∙◌, List, All, length, sym, ap, subst, append-nil, inr, arith}
use Rattle.graph_core.specs.Graph.{made, links}
use Rattle.graph_parts.specs.Links.{is_loose}
use Rattle.graph_parts.specs.Bags.{IsBag, heads_in}
use Rattle.graph_parts.specs.declared.bag.Bag.{Bag}
use Rattle.graph_parts.proofs.Apart.{heads_alone}
use Rattle.graph_parts.proofs.BagHeads.{all_bags, are_all, head_comes, none_comes}
use Rattle.graph_parts.proofs.bags.all_bags_of.Goals as goal
use Rattle.graph_parts.proofs.bags.all_bags_of.Goals.{then-is_loose+in_ok-bag_from+in_ok-push, else-is_loose}

pub loop-element-init : goal.loop-element-init
loop-element-init c = record {
  heads = λ sound once.
      heads_alone (made c.args.graph.now) (links c.args.graph.now) c.in_ok-bags.bags.items (c.in_ok-bags.ensures sound once) ∙ sym (append-nil (heads_in (made c.args.graph.now)));
  are = λ sound once. (c.in_ok-bags.ensures sound once).are.are;
}

pub loop-element-preserved : goal.loop-element-preserved
loop-element-preserved c = elim c.if-is_loose.branch [
  | then-is_loose+in_ok-bag_from+in_ok-push w ↦
      let is = sym c.is_loose.ensures ∙ w.if-is_loose.true in
      let put = ap (λ v. v.items) w.bags-is ∙ w.in_ok-push.ensures.items in
      let low : c.loop-element.element < length (made c.args.graph.now) = omega (arith, c.loop-element-test.true, c.count-element-end.ensures.count) in
      record {
        heads = λ sound once.
            head_comes (is_loose (made c.args.graph.now) (links c.args.graph.now)) (heads_in (made c.args.graph.now)) c.loop-element.element c.loop-element.bags.items c.if-is_loose.bags.items
            w.in_ok-bag_from.field-0 (c.loop-element.invariant.heads sound once) is (w.in_ok-bag_from.ensures sound once (inr (record { there = low; loose = is }))).number put;
        are = λ sound once.
            all_bags (made c.args.graph.now) (links c.args.graph.now) c.loop-element.bags.items c.if-is_loose.bags.items w.in_ok-bag_from.field-0 (c.loop-element.invariant.are sound once)
            (w.in_ok-bag_from.ensures sound once (inr (record { there = low; loose = is }))).is put;
      }
  | else-is_loose w ↦
      record {
        heads = λ sound once.
            none_comes (is_loose (made c.args.graph.now) (links c.args.graph.now)) (heads_in (made c.args.graph.now)) c.loop-element.element c.if-is_loose.bags.items
            (rw (w.bags-is) (c.loop-element.invariant.heads sound once)) (sym c.is_loose.ensures ∙ w.if-is_loose.false);
        are = λ sound once. subst (λ (bags : List Bag). All (IsBag (made c.args.graph.now) (links c.args.graph.now)) bags) (sym (ap (λ v. v.items) w.bags-is)) (c.loop-element.invariant.are sound once);
      }
]

pub returns : goal.returns
returns c = λ sound once.
    are_all (made c.args.graph.now) (links c.args.graph.now) c.loop-element.bags.items c.loop-element.element
    (omega (arith, c.loop-element-test.false, c.loop-element.auto.element-end, c.count-element-end.ensures.count)) (c.loop-element.invariant.heads sound once) (c.loop-element.invariant.are sound once)
