use Rattle.el_mix.specs.Taking.{flushed}
use Rattle.el_mix.proofs.Turning.{each_more, all_each}
use Rattle.el_mix.proofs.mix.flush_all.Goals as goal

pub loop-channel-preserved : goal.loop-channel-preserved
loop-channel-preserved c =
    each_more flushed c.args.channels.now c.loop-channel.channels c.loop-channel.channel-index c.channel-item.result _ c.loop-channel-test.true c.channel-item.is c.loop-channel.invariant c.flush.ensures

pub returns : goal.returns
returns c = all_each flushed c.args.channels.now c.loop-channel.channels c.loop-channel.channel-index c.loop-channel-test.false c.loop-channel.invariant
