use Rattle.el_convert.proofs.Copies.{stream_same}
use Rattle.el_convert.proofs.stream.Stream.copy.Goals as goal

pub returns : goal.returns
returns c = stream_same c.args.self.now _ _ c.in_ok-copy.ensures c.in_ok-copy-2.ensures _ _ _ _ _ _ _
