use Rattle.el_law.proofs.Putting.{before_caps}
use Rattle.el_law.proofs.law.Law.take_buffer.Goals as goal

pub returns-in_default-clause-fault : goal.returns-in_default-clause-fault
returns-in_default-clause-fault c = before_caps c.args.self.now.kind c.args.self.now.frame c.args.self.now.got c.args.buffer c.refuse_buffer.result c.in_default.is c.refuse_buffer.ensures.fault
