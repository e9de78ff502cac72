use Rattle.std.proofs.Common.{refl}
use Rattle.el_convert.proofs.Converting.{converted_set}
use Rattle.el_convert.proofs.convert.Convert.set_allowed.Goals as goal

pub returns : goal.returns
returns c = converted_set c.args.self.now _ c.args.allowed refl refl
