use Rattle.std.proofs.Common.{refl}
use Rattle.el_law.proofs.Recoding.{recoded_flush}
use Rattle.el_law.proofs.law.Law.flush.Goals as goal

pub returns : goal.returns
returns c = recoded_flush c.args.self.now _ refl refl refl refl
