use Rattle.el_law.proofs.Recoding.{recoded_drain}
use Rattle.el_law.proofs.Putting.{puts_drained}
use Rattle.el_law.proofs.law.Law.drain.Goals as goal

pub returns-clause-drained : goal.returns-clause-drained
returns-clause-drained c = recoded_drain c.args.self.now

pub returns-clause-puts : goal.returns-clause-puts
returns-clause-puts c = puts_drained c.args.self.now c.args._out.now
