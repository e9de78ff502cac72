use Rattle.std.proofs.Common.{◌++◌, ◌∷◌, [], map, take, refl, sym, ◌∙◌, subst, arith}
use Rattle.el_denote.specs.Running.{Runs}
use Rattle.el_denote.specs.Turns.{Give}
use Rattle.el_denote.proofs.Looping.{items_first, items_next, items_all, items_fault}
use Rattle.el_denote.proofs.Parting.{plain_at}
use Rattle.el_denote.proofs.joined.take_items.Goals as goal

pub loop-item-init : goal.loop-item-init
loop-item-init c =
    (refl, λ settings j marks turns is r. items_first settings j c.args.gaps c.args.join.now marks turns c.args.pad c.args.items.now c.args.put.now r, c.requires.fed, c.requires.order)

pub take-requires-clause-pad : goal.take-requires-clause-pad
take-requires-clause-pad c = omega (arith, c.requires.pad, c.loop-item.invariant.0)

pub take-requires-clause-plain : goal.take-requires-clause-plain
take-requires-clause-plain c = plain_at c.args.items.now c.loop-item.item-index c.item-item.result c.requires.plain c.loop-item-test.true c.item-item.is

pub returns-in-Err-clause-fault : goal.returns-in-Err-clause-fault
returns-in-Err-clause-fault c = λ settings j marks turns is r.
    items_fault settings turns c.args.pad c.args.items.now c.loop-item.item-index c.item-item.result c.in-Err.fault c.loop-item-test.true c.item-item.is
    (c.in-Err.ensures.fault settings j marks c.loop-item.begun (turns ++ map (Give c.args.pad) (take c.loop-item.item-index c.args.items.now)) is (c.loop-item.invariant.1 settings j marks turns is r))

pub loop-item-preserved : goal.loop-item-preserved
loop-item-preserved c = (
  c.take.ensures.pads ∙ c.loop-item.invariant.0,
  λ settings j marks turns is r.
      items_next settings j c.args.gaps c.take.new.join marks c.or_segment-begun.result turns c.args.pad c.args.items.now c.loop-item.item-index c.item-item.result c.take.new.put c.loop-item-test.true c.item-item.is
      (subst (λ b. Runs settings j c.args.gaps c.take.new.join marks b ((turns ++ map (Give c.args.pad) (take c.loop-item.item-index c.args.items.now)) ++ Give c.args.pad c.item-item.result ∷ []) c.take.new.put) (sym c.or_segment-begun.ensures)
      (c.in-Ok.ensures.taken settings j marks c.loop-item.begun (turns ++ map (Give c.args.pad) (take c.loop-item.item-index c.args.items.now)) is (c.loop-item.invariant.1 settings j marks turns is r))),
  c.in-Ok.ensures.fed,
  c.in-Ok.ensures.order,
)

pub returns-clause-taken : goal.returns-clause-taken
returns-clause-taken c = λ settings j marks turns is r.
    items_all settings j c.args.gaps c.loop-item.join marks c.loop-item.begun turns c.args.pad c.args.items.now c.loop-item.item-index c.loop-item.put c.loop-item-test.false
    (c.loop-item.invariant.1 settings j marks turns is r)
