use Rattle.std.proofs.Common.{refl}
use Rattle.el_basic.proofs.Passing.{passed_flush}
use Rattle.el_basic.proofs.identity.Identity.flush.Goals as goal

pub returns : goal.returns
returns c = passed_flush c.args.self.now _ refl
