use Rattle.std.proofs.Common.{◌∙◌, List, length, map, refl, sym, ap, subst, arith}
use Rattle.std.proofs.lemmas.List.{take_all}
use Rattle.std.proofs.lemmas.Option.{slice_get_read}
use Rattle.flow_model.specs.Account.{IsMember}
use Rattle.graph_parts.specs.Bags.{number_of}
use Rattle.graph_parts.specs.declared.bag.BagElement.{BagElement}
use Rattle.graph_tasks.proofs.Flats.{looked_more}
use Rattle.graph_tasks.proofs.source_pads.place_of.Goals as goal

pub loop-place-init : goal.loop-place-init
loop-place-init c = λ m. m

pub loop-place-preserved : goal.loop-place-preserved
loop-place-preserved c =
    looked_more c.args.order.now c.args.element c.loop-place.place c.index-order-place.result
    (slice_get_read c.args.order.now (length c.args.order.now) c.loop-place.place c.index-order-place.result refl (omega arith) c.index-order-place.is) c.loop-place.invariant
    (λ h. c.if-order-place.false (ap (λ (cell : BagElement). cell.element) (sym c.index-order-place.is) ∙ h))

pub returns : goal.returns
returns c = λ m cell at.
    absurd
    (c.loop-place.invariant
    (subst (λ (own : List BagElement). IsMember c.args.element (map number_of own)) (sym (take_all c.loop-place.place c.args.order.now (omega (arith, c.loop-place-test.false)))) m))
