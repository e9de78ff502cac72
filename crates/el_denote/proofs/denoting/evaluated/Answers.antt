use Rattle.std.proofs.Common.{take}
use Rattle.el_denote.proofs.WholeLists.{owed_fault, owed_all, took_first, took_more, took_whole}
use Rattle.el_denote.proofs.denoting.evaluated.Goals as goal

pub loop-item-init : goal.loop-item-init
loop-item-init c = λ respond s. took_first respond c.args.element c.new-out.result c.new-out.ensures s

pub returns-in-Err : goal.returns-in-Err
returns-in-Err c = λ respond s.
    let items = c.args.items.now in let before = c.loop-item.invariant respond s in
    owed_fault respond items c.loop-item.item-index c.item-item.result c.in-Err.fault c.loop-item-test.true c.item-item.is
    before.whole (c.in-Err.ensures.fault respond (take c.loop-item.item-index items) before)

pub loop-item-preserved : goal.loop-item-preserved
loop-item-preserved c = λ respond s.
    took_more respond c.take.new.element c.args.items.now c.loop-item.item-index c.item-item.result c.take.new.out c.loop-item-test.true c.item-item.is
    (c.in-Ok.ensures.taken respond (take c.loop-item.item-index c.args.items.now) (c.loop-item.invariant respond s))

pub returns : goal.returns
returns c = λ respond s.
    owed_all respond c.loop-item.running c.args.items.now c.loop-item.out _
    (took_whole respond c.loop-item.running c.args.items.now c.loop-item.item-index c.loop-item.out c.loop-item-test.false (c.loop-item.invariant respond s))
    c.in_ok-items_of.ensures
