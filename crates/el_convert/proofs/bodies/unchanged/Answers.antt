use Rattle.std.proofs.Common.{arith}
use Rattle.el_convert.proofs.Unchanged.{are_bytes, unchanged_whole}
use Rattle.el_convert.proofs.bodies.unchanged.Goals as goal

pub returns : goal.returns
returns c = λ raw whole. unchanged_whole c.args._format c.args._channels c.args._bytes.now raw whole (are_bytes c.args._bytes.now (λ i. let f = c.type_inv._bytes i in omega arith))
