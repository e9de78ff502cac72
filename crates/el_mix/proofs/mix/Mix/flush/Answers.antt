use Rattle.el_mix.proofs.Laying.{mix_flushed}
use Rattle.el_mix.proofs.Lending.{flushed_is, flushed_settles, flushed_length}
use Rattle.el_mix.proofs.mix.Mix.flush.Goals as goal

pub invariant_of-self : goal.invariant_of-self
invariant_of-self c = record {
  few = c.args.self.now.few;
  settled = flushed_settles c.args.self.now.channels c.deref_mut.result.now c.flush_all.new.channels c.deref_mut.ensures.value c.flush_all.ensures;
}

pub returns-clause-flushed : goal.returns-clause-flushed
returns-clause-flushed c = λ took number r.
    mix_flushed c.args.self.now _ (flushed_is c.args.self.now.channels c.deref_mut.result.now c.flush_all.new.channels c.deref_mut.ensures.value c.flush_all.ensures) c.new-self.ensures took number r

pub returns-clause-pads : goal.returns-clause-pads
returns-clause-pads c = flushed_length c.args.self.now.channels c.deref_mut.result.now c.flush_all.new.channels c.deref_mut.ensures.value c.flush_all.ensures
