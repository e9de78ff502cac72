use Rattle.el_basic.proofs.Passing.{passed_drain}
use Rattle.el_basic.proofs.identity.Identity.drain.Goals as goal

pub returns-clause-drained : goal.returns-clause-drained
returns-clause-drained c = passed_drain c.args.self.now
