use Rattle.el_basic.proofs.Spreading.{buffer_kept}
use Rattle.el_basic.proofs.tee.Tee.pass.Goals as goal

pub returns-in-Buffer-clause-sticky : goal.returns-in-Buffer-clause-sticky
returns-in-Buffer-clause-sticky c = buffer_kept c.put_on_each.result c.args.item c.in-Buffer.buffer c.args.self.now.sticky c.in-Buffer.is
