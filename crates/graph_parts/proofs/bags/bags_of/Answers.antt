use Rattle.std.proofs.Common.{◌∙◌, List, [], All, sym, ap, subst, inl, arith}
use Rattle.std.specs.Prelude.{slice_get}
use Rattle.graph_core.specs.Graph.{made, links}
use Rattle.graph_core.specs.Elements.{has}
use Rattle.graph_parts.specs.Links.{is_head}
use Rattle.graph_parts.specs.Bags.{IsBag}
use Rattle.graph_parts.specs.declared.bag.Bag.{Bag}
use Rattle.graph_parts.proofs.BagHeads.{all_bags, are_heads, has_by, head_comes, none_comes}
use Rattle.graph_parts.proofs.bags.bags_of.Goals as goal
use Rattle.graph_parts.proofs.bags.bags_of.Goals.{then-is_head+in_ok-bag_from+in_ok-push, else-is_head}

pub loop-element-preserved : goal.loop-element-preserved
loop-element-preserved c = elim c.if-is_head.branch [
  | then-is_head+in_ok-bag_from+in_ok-push w ↦
      let is = has_by is_head (slice_get (made c.args.graph.now) c.loop-element.element) c.settings.result.now c.settings.ensures ∙ sym c.is_head.ensures ∙ w.if-is_head.true in
      let put = ap (λ v. v.items) w.bags-is ∙ w.in_ok-push.ensures.items in
      record {
        heads = λ sound once.
            head_comes (has is_head (made c.args.graph.now)) [] c.loop-element.element c.loop-element.bags.items c.if-is_head.bags.items w.in_ok-bag_from.field-0 (c.loop-element.invariant.heads sound once) is
            (w.in_ok-bag_from.ensures sound once (inl is)).number put;
        are = λ sound once.
            all_bags (made c.args.graph.now) (links c.args.graph.now) c.loop-element.bags.items c.if-is_head.bags.items w.in_ok-bag_from.field-0 (c.loop-element.invariant.are sound once)
            (w.in_ok-bag_from.ensures sound once (inl is)).is put;
      }
  | else-is_head w ↦
      record {
        heads = λ sound once.
            none_comes (has is_head (made c.args.graph.now)) [] c.loop-element.element c.if-is_head.bags.items (rw (w.bags-is) (c.loop-element.invariant.heads sound once))
            (has_by is_head (slice_get (made c.args.graph.now) c.loop-element.element) c.settings.result.now c.settings.ensures ∙ sym c.is_head.ensures ∙ w.if-is_head.false);
        are = λ sound once. subst (λ (bags : List Bag). All (IsBag (made c.args.graph.now) (links c.args.graph.now)) bags) (sym (ap (λ v. v.items) w.bags-is)) (c.loop-element.invariant.are sound once);
      }
]

pub returns : goal.returns
returns c = λ sound once.
    are_heads (made c.args.graph.now) (links c.args.graph.now) c.loop-element.bags.items c.loop-element.element
    (omega (arith, c.loop-element-test.false, c.loop-element.auto.element-end, c.count-element-end.ensures.count)) (c.loop-element.invariant.heads sound once) (c.loop-element.invariant.are sound once)
