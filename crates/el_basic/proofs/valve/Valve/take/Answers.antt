use Rattle.el_basic.proofs.Valving.{buffer_remembered}
use Rattle.el_basic.proofs.valve.Valve.take.Goals as goal

pub returns-in-Buffer-clause-sticky : goal.returns-in-Buffer-clause-sticky
returns-in-Buffer-clause-sticky c = buffer_remembered c.pass.result c.args.self.now c.pass.new.self c.args.item c.in-Buffer.buffer c.in-Buffer.is c.pass.ensures.same
