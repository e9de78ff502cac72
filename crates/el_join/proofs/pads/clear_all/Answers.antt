use Rattle.std.proofs.Common.{refl, arith}
use Rattle.std.proofs.lemmas.Option.{slice_get_read}
use Rattle.el_join.proofs.Clearing.{cleared_first, cleared_next, cleared_facts, cleared_waiting}
use Rattle.el_join.proofs.pads.clear_all.Goals as goal

pub loop-place-init : goal.loop-place-init
loop-place-init c = record { cleared = cleared_first c.args.pads.now.items; within = omega arith; same = refl }

pub loop-place-preserved : goal.loop-place-preserved
loop-place-preserved c =
    let at = slice_get_read c.loop-place.pads.items c.loop-place.pads.len c.loop-place.place c.index_mut.result.now c.loop-place.pads.ok.0 (omega (arith, c.loop-place-test.true, c.len.ensures)) c.index_mut.ensures.value in
    record {
      cleared = cleared_next c.args.pads.now.items c.loop-place.pads.items c.loop-place.place c.index_mut.result.now c.clear.new.self c.loop-place.invariant.cleared at c.clear.ensures.facts c.clear.ensures.waiting;
      within = omega arith;
      same = c.loop-place.invariant.same;
    }

pub returns-clause-facts : goal.returns-clause-facts
returns-clause-facts c =
    cleared_facts c.args.pads.now.items c.loop-place.pads.items c.loop-place.place c.loop-place.invariant.cleared
    (omega (arith, c.loop-place.pads.ok.0, c.loop-place-test.false, c.len.ensures))

pub returns-clause-waiting : goal.returns-clause-waiting
returns-clause-waiting c =
    cleared_waiting c.args.pads.now.items c.loop-place.pads.items c.loop-place.place c.loop-place.invariant.cleared
    (omega (arith, c.loop-place.pads.ok.0, c.loop-place-test.false, c.len.ensures))
