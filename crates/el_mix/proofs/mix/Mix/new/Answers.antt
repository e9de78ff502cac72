use Rattle.std.proofs.Common.{arith}
use Rattle.el_mix.proofs.Laying.{mix_new}
use Rattle.el_mix.proofs.Lending.{new_settled, new_length}
use Rattle.el_mix.proofs.mix.Mix.new.Goals as goal

pub invariant_of-result : goal.invariant_of-result
invariant_of-result c = record {
  few = omega (arith, new_length c.in_ok-new_channels.field-0.items c.args.pads c.in_ok-new_channels.ensures, c.in_ok-new_channels.field-0.ok.0, c.requires.few);
  settled = new_settled c.in_ok-new_channels.field-0.items c.args.pads c.in_ok-new_channels.ensures;
}

pub returns-clause-pads : goal.returns-clause-pads
returns-clause-pads c = new_length c.in_ok-new_channels.field-0.items c.args.pads c.in_ok-new_channels.ensures

pub returns-clause-mixes : goal.returns-clause-mixes
returns-clause-mixes c = mix_new _ c.args.pads c.in_ok-new_channels.ensures c.new.ensures
