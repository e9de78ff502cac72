use Rattle.std.proofs.Common.{◌<◌, true, false, sym, ◌∙◌, arith}
use Rattle.el_mix.proofs.Looping.{known_at, known_next, known_all}
use Rattle.el_mix.proofs.mix.all_known.Goals as goal

pub returns-then-below-place : goal.returns-then-below-place
returns-then-below-place c = sym (known_at c.args.channels.now c.args.place c.loop-below.below c.if-below-place.true) ∙ c.loop-below.invariant.same

pub returns-then-not-is_known : goal.returns-then-not-is_known
returns-then-not-is_known c =
    let less : c.loop-below.below < c.args.place = omega (arith, c.loop-below.invariant.within, c.if-below-place.false) in
    sym (known_next c.args.channels.now c.args.place c.loop-below.below c.index-channels-below.result false less c.loop-below-test.true c.index-channels-below.is c.if-not-is_known.ensures)
    ∙ c.loop-below.invariant.same

pub loop-below-preserved : goal.loop-below-preserved
loop-below-preserved c =
    let less : c.loop-below.below < c.args.place = omega (arith, c.loop-below.invariant.within, c.if-below-place.false) in
    record {
      same = sym (known_next c.args.channels.now c.args.place c.loop-below.below c.index-channels-below.result true less c.loop-below-test.true c.index-channels-below.is c.if-not-is_known.ensures)
          ∙ c.loop-below.invariant.same;
      within = omega (arith, less);
    }

pub returns : goal.returns
returns c = sym (known_all c.args.channels.now c.args.place c.loop-below.below c.loop-below-test.false) ∙ c.loop-below.invariant.same
