use Rattle.std.proofs.Common.{refl}
use Rattle.el_join.proofs.Beginning.{joins_new}
use Rattle.el_join.proofs.concat.Concat.new.Goals as goal

pub returns-clause-joins : goal.returns-clause-joins
returns-clause-joins c = joins_new _ c.args.pads c.in_ok-new_pads.ensures.facts c.in_ok-new_pads.ensures.waiting refl c.new.ensures
