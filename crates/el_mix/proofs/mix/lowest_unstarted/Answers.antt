use Rattle.std.proofs.Common.{Bool, true, false, if◌then◌else◌, sym, ap, ◌∙◌}
use Rattle.el_mix.specs.declared.channel.Channel.{Channel}
use Rattle.el_mix.specs.Wanted.{is_unstarted}
use Rattle.el_mix.proofs.Looping.{lowest_here, lowest_more, lowest_end}
use Rattle.el_mix.proofs.mix.lowest_unstarted.Goals as goal

pub returns-then-not-channels-place : goal.returns-then-not-channels-place
returns-then-not-channels-place c =
    sym (lowest_here is_unstarted c.args.channels.now c.loop-place.place c.index-channels-place.result c.loop-place-test.true c.index-channels-place.is
    (ap (λ (b : Bool). if b then false else true) (ap (λ (d : Channel). d.progress.started) c.index-channels-place.is ∙ c.if-not-channels-place.true))) ∙ c.loop-place.invariant

pub loop-place-preserved : goal.loop-place-preserved
loop-place-preserved c =
    sym (lowest_more is_unstarted c.args.channels.now c.loop-place.place c.index-channels-place.result c.loop-place-test.true c.index-channels-place.is
    (ap (λ (b : Bool). if b then false else true) (ap (λ (d : Channel). d.progress.started) c.index-channels-place.is ∙ c.if-not-channels-place.false))) ∙ c.loop-place.invariant

pub returns : goal.returns
returns c = sym (lowest_end is_unstarted c.args.channels.now c.loop-place.place c.loop-place-test.false) ∙ c.loop-place.invariant
