use Rattle.el_convert.proofs.Copies.{convert_same}
use Rattle.el_convert.proofs.convert.Convert.copy.Goals as goal

pub returns : goal.returns
returns c = convert_same c.args.self.now _ _ c.in_ok-copy.ensures c.in_ok-copy_stream.ensures _ _
