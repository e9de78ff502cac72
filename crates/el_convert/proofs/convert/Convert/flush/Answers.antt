use Rattle.std.proofs.Common.{refl}
use Rattle.el_convert.proofs.Converting.{converted_flush}
use Rattle.el_convert.proofs.convert.Convert.flush.Goals as goal

pub returns : goal.returns
returns c = converted_flush c.args.self.now _ refl refl
