use Rattle.el_join.proofs.Raising.{base_raised}
use Rattle.el_join.proofs.sums.raise_base.Goals as goal

pub returns-clause-ok : goal.returns-clause-ok
returns-clause-ok c = base_raised c.args.segment.now c.args.by c.in_ok-base.base _ c.in_ok-base.ensures.ok
