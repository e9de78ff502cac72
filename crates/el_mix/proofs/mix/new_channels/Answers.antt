use Rattle.std.proofs.Common.{replicate, ap, ◌∙◌, arith}
use Rattle.el_mix.specs.Taking.{new_channel}
use Rattle.el_mix.proofs.Lending.{new_more}
use Rattle.el_mix.proofs.mix.new_channels.Goals as goal

pub loop-pad-preserved : goal.loop-pad-preserved
loop-pad-preserved c = record {
  made = new_more c.loop-pad.channels.items c.push.new.self.items c.loop-pad.pad c.new.result c.loop-pad.invariant.made c.new.ensures c.in_ok-push.ensures.items;
  within = omega arith;
}

pub returns : goal.returns
returns c = c.loop-pad.invariant.made ∙ ap (λ n. replicate n new_channel) (omega (arith, c.loop-pad.invariant.within, c.loop-pad-test.false))
