use Rattle.std.proofs.Common.{sym, ◌∙◌}
use Rattle.el_mix.proofs.Looping.{next_starved, next_all}
use Rattle.el_mix.proofs.Turning.{cut_more, cut_small, cut_stays, small_stays}
use Rattle.el_mix.proofs.turns.next_cut.Goals as goal
use Rattle.el_mix.proofs.turns.next_cut.Goals.{in-Some, in-None}

pub returns-in-None-2-clause-cut : goal.returns-in-None-2-clause-cut
returns-in-None-2-clause-cut c =
    sym (next_starved c.args.channels.now c.loop-channel.channel-index c.channel-item.result c.loop-channel.least c.loop-channel-test.true c.channel-item.is
    (sym c.in-None.ensures.first) c.if-channel.false c.loop-channel.invariant.same)

pub loop-channel-preserved : goal.loop-channel-preserved
loop-channel-preserved c =
    let lt = c.loop-channel-test.true in
    let is = c.channel-item.is in
    elim c.match-first.branch [
      | in-Some w ↦ record {
        same = cut_more c.args.channels.now c.loop-channel.channel-index c.channel-item.result c.loop-channel.least c.match-first.least w.in-Some.left.now lt is w.in-Some.ensures.first
            (w.least-is ∙ w.least_of-least.ensures) c.loop-channel.invariant.same;
        small = cut_small c.loop-channel.least c.match-first.least _ c.loop-channel.invariant.small w.in-Some.ensures.small (w.least-is ∙ w.least_of-least.ensures);
      }
      | in-None w ↦ record {
        same = cut_stays c.args.channels.now c.loop-channel.channel-index c.channel-item.result c.loop-channel.least c.match-first.least lt is w.in-None.ensures.first w.if-channel.true
            w.least-is c.loop-channel.invariant.same;
        small = small_stays c.loop-channel.least c.match-first.least w.least-is c.loop-channel.invariant.small;
      }
    ]

pub returns-clause-cut : goal.returns-clause-cut
returns-clause-cut c = sym (next_all c.args.channels.now c.loop-channel.channel-index c.loop-channel.least c.loop-channel-test.false c.loop-channel.invariant.same)
