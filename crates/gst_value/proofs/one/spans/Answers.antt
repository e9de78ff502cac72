use Rattle.std.proofs.Common.{arith}
use Rattle.std.proofs.lemmas.Int.{ints}
use Rattle.gst_value.proofs.one.spans.Goals as goal

pub returns : goal.returns
returns c = grind (arith, ints)
