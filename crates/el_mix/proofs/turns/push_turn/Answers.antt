use Rattle.std.proofs.Common.{◌++◌, ap, ◌∙◌}
use Rattle.std.proofs.lemmas.List.{take_all}
use Rattle.el_mix.specs.Taking.{lines}
use Rattle.el_mix.specs.Turns.{turn}
use Rattle.el_mix.proofs.Looping.{turn_more, ahead_at}
use Rattle.el_mix.proofs.turns.push_turn.Goals as goal

pub push_sample-requires-clause-ahead : goal.push_sample-requires-clause-ahead
push_sample-requires-clause-ahead c =
    ahead_at _ c.loop-channel.channel-index c.args.channels.now c.channel-item.result c.loop-channel-test.true c.channel-item.is c.requires.ahead

pub loop-channel-preserved : goal.loop-channel-preserved
loop-channel-preserved c =
    turn_more c.args.format c.args.channels.now c.loop-channel.channel-index c.args.from c.channel-item.result c.args.into.now.items c.loop-channel.into.items c.push_sample.new.into.items
    c.loop-channel-test.true c.channel-item.is c.loop-channel.invariant c.in_ok-push_sample.ensures

pub returns : goal.returns
returns c =
    c.loop-channel.invariant
    ∙ ap (λ ds. c.args.into.now.items ++ turn c.args.format (lines ds) c.args.from) (take_all c.loop-channel.channel-index c.args.channels.now c.loop-channel-test.false)
