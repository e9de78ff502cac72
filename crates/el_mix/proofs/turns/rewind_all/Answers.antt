use Rattle.std.proofs.Common.{get_or, ap}
use Rattle.el_mix.specs.Taking.{settled}
use Rattle.el_mix.proofs.Turning.{with_line, each_more, all_each}
use Rattle.el_mix.proofs.turns.rewind_all.Goals as goal

pub loop-channel-preserved : goal.loop-channel-preserved
loop-channel-preserved c =
    each_more settled c.args.channels.now c.loop-channel.channels c.loop-channel.channel-index c.channel-item.result _ c.loop-channel-test.true c.channel-item.is
    c.loop-channel.invariant (ap (with_line (get_or c.loop-channel.channels c.loop-channel.channel-index c.channel-item.result)) c.rewind.ensures)

pub returns : goal.returns
returns c = all_each settled c.args.channels.now c.loop-channel.channels c.loop-channel.channel-index c.loop-channel-test.false c.loop-channel.invariant
