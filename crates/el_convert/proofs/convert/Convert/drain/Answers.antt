use Rattle.el_convert.proofs.Converting.{converted_drain}
use Rattle.el_convert.proofs.Putting.{puts_none}
use Rattle.el_convert.proofs.convert.Convert.drain.Goals as goal

pub returns-clause-drained : goal.returns-clause-drained
returns-clause-drained c = converted_drain c.args.self.now

pub returns-clause-puts : goal.returns-clause-puts
returns-clause-puts c = puts_none c.args.self.now c.args._out.now
