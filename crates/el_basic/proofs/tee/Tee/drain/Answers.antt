use Rattle.el_basic.proofs.Spreading.{spread_drain}
use Rattle.el_basic.proofs.tee.Tee.drain.Goals as goal

pub returns-clause-drained : goal.returns-clause-drained
returns-clause-drained c = spread_drain c.args.self.now
