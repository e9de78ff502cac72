use Rattle.std.proofs.Common.{sym, ◌∙◌}
use Rattle.el_mix.specs.Wanted.{is_short}
use Rattle.el_mix.proofs.Looping.{lowest_here, lowest_more, lowest_end}
use Rattle.el_mix.proofs.mix.lowest_short.Goals as goal

pub returns-then-is_short : goal.returns-then-is_short
returns-then-is_short c =
    sym (lowest_here is_short c.args.channels.now c.loop-place.place c.index-channels-place.result c.loop-place-test.true c.index-channels-place.is (sym c.if-is_short.ensures)) ∙ c.loop-place.invariant

pub loop-place-preserved : goal.loop-place-preserved
loop-place-preserved c =
    sym (lowest_more is_short c.args.channels.now c.loop-place.place c.index-channels-place.result c.loop-place-test.true c.index-channels-place.is (sym c.if-is_short.ensures)) ∙ c.loop-place.invariant

pub returns : goal.returns
returns c = sym (lowest_end is_short c.args.channels.now c.loop-place.place c.loop-place-test.false) ∙ c.loop-place.invariant
