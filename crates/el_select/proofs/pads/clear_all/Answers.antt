use Rattle.std.proofs.Common.{refl, arith}
use Rattle.el_select.proofs.Knowing.{flush_begins, flush_goes_on, flush_is_over, pad_at}
use Rattle.el_select.proofs.pads.clear_all.Goals as goal

pub loop-place-init : goal.loop-place-init
loop-place-init c = record { flushed = flush_begins c.args.pads.now.items; within = omega arith; same = refl }

pub loop-place-preserved : goal.loop-place-preserved
loop-place-preserved c =
    let at = pad_at c.loop-place.pads c.loop-place.place c.index_mut.result.now (omega (arith, c.loop-place-test.true, c.len.ensures, c.loop-place.pads.ok.0)) c.index_mut.ensures.value in
    record {
      flushed = flush_goes_on c.args.pads.now.items c.loop-place.pads.items c.loop-place.place c.index_mut.result.now c.clear.new.self at c.clear.ensures c.loop-place.invariant.flushed;
      within = omega arith;
      same = c.loop-place.invariant.same;
    }

pub returns-clause-know : goal.returns-clause-know
returns-clause-know c =
    flush_is_over c.args.pads.now.items c.loop-place.pads.items c.loop-place.place (omega (arith, c.loop-place.pads.ok.0, c.loop-place-test.false, c.len.ensures))
    c.loop-place.invariant.flushed
