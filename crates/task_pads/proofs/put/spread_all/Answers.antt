use Rattle.std.proofs.Common.{refl, ap, arith}
use Rattle.task_pads.specs.Behind.{items_of}
use Rattle.task_pads.proofs.Lists.{some_at}
use Rattle.task_pads.proofs.Spreads.{so_far_room, so_far_moved, first_within}
use Rattle.task_pads.proofs.Waiting.{first_at}
use Rattle.task_pads.proofs.put.spread_all.Goals as goal

pub returns-in_err-reserve-clause-rest : goal.returns-in_err-reserve-clause-rest
returns-in_err-reserve-clause-rest g c =
    let front = first_at c.loop-first.outs.items c.in-Some.first.now (omega (arith, c.loop-first.outs.ok.0, c.in-Some.ensures.variant.0 refl)) c.in-Some.ensures.lookup in
    let low = first_within _ c.loop-first.outs.items c.in-Some.first.now front.0 front.1 c.loop-first.invariant.within in
    (so_far_room {O = g.row.O.Denot} c.args.outs.now.items c.loop-first.outs.items c.args.pads.now.items c.loop-first.pads.items c.in-Some.first.now.pad c.index_mut.result.now _
    (some_at c.loop-first.pads.items c.in-Some.first.now.pad c.index_mut.result.now low c.index_mut.ensures.value) c.loop-first.invariant refl (ap items_of c.reserve.ensures.items)).rests

pub returns-in_err-reserve-clause-spread : goal.returns-in_err-reserve-clause-spread
returns-in_err-reserve-clause-spread g c =
    let front = first_at c.loop-first.outs.items c.in-Some.first.now (omega (arith, c.loop-first.outs.ok.0, c.in-Some.ensures.variant.0 refl)) c.in-Some.ensures.lookup in
    let low = first_within _ c.loop-first.outs.items c.in-Some.first.now front.0 front.1 c.loop-first.invariant.within in
    (so_far_room {O = g.row.O.Denot} c.args.outs.now.items c.loop-first.outs.items c.args.pads.now.items c.loop-first.pads.items c.in-Some.first.now.pad c.index_mut.result.now _
    (some_at c.loop-first.pads.items c.in-Some.first.now.pad c.index_mut.result.now low c.index_mut.ensures.value) c.loop-first.invariant refl (ap items_of c.reserve.ensures.items)).each

pub loop-first-preserved : goal.loop-first-preserved
loop-first-preserved g c =
    let front = first_at c.loop-first.outs.items c.in-Some.first.now (omega (arith, c.loop-first.outs.ok.0, c.in-Some.ensures.variant.0 refl)) c.in-Some.ensures.lookup in
    let low = first_within _ c.loop-first.outs.items c.in-Some.first.now front.0 front.1 c.loop-first.invariant.within in
    so_far_moved {O = g.row.O.Denot} c.args.outs.now.items c.loop-first.outs.items c.spread_one.new.outs.items front.0 c.in-Some.first.now c.args.pads.now.items c.loop-first.pads.items c.index_mut.result.now _
    c.index_mut-in-Some.result.now c.spread_one.new.pad front.1 (some_at c.loop-first.pads.items c.in-Some.first.now.pad c.index_mut.result.now low c.index_mut.ensures.value) refl (ap items_of c.reserve.ensures.items)
    c.index_mut-in-Some.ensures.value c.spread_one.ensures.rest c.spread_one.ensures.moved c.loop-first.invariant
