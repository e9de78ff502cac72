use Rattle.el_denote.proofs.Going.{concat_flushed, mix_flushed}
use Rattle.el_denote.proofs.Ordering.{concat_fed, mix_fed}
use Rattle.el_denote.proofs.joined.flush.Goals as goal

pub returns-in-Concat-clause-flushed : goal.returns-in-Concat-clause-flushed
returns-in-Concat-clause-flushed c = λ settings j gaps marks turns out number r.
    concat_flushed settings c.args.join.now c.in-Concat.concat c.flush.new.self c.in-Concat.is c.flush.ensures.pads c.flush.ensures.flushed j gaps marks turns out number r

pub returns-in-Mix-clause-flushed : goal.returns-in-Mix-clause-flushed
returns-in-Mix-clause-flushed c = λ settings j gaps marks turns out number r.
    let did = c.flush-in-Mix in
    mix_flushed settings c.args.join.now c.in-Mix.mix did.new.self c.in-Mix.is did.ensures.pads did.ensures.flushed j gaps marks turns out number r

pub returns-in-Concat-clause-fed : goal.returns-in-Concat-clause-fed
returns-in-Concat-clause-fed c = λ fed. concat_fed c.args.join.now c.in-Concat.concat c.flush.new.self c.in-Concat.is c.flush.ensures.flushed fed

pub returns-in-Mix-clause-fed : goal.returns-in-Mix-clause-fed
returns-in-Mix-clause-fed c = λ fed. mix_fed c.args.join.now c.in-Mix.mix c.flush-in-Mix.new.self c.in-Mix.is c.flush-in-Mix.ensures.flushed fed
