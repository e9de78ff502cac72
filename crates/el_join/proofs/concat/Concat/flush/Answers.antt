use Rattle.std.proofs.Common.{refl, arith}
use Rattle.el_join.proofs.Beginning.{joins_flushed}
use Rattle.el_join.proofs.concat.Concat.flush.Goals as goal

pub returns-clause-flushed : goal.returns-clause-flushed
returns-clause-flushed c = λ took number r. joins_flushed c.args.self.now _ c.clear_all.ensures.facts c.clear_all.ensures.waiting refl c.new-self.ensures took number r

pub returns-clause-pads : goal.returns-clause-pads
returns-clause-pads c = omega (arith, c.clear_all.new.pads.ok.0, c.args.self.now.pads.ok.0, c.clear_all.ensures.pads)
