-- A point is one byte.
use Rattle.std.proofs.Common.{arith}
use Rattle.std.proofs.lemmas.Str.Pattern.{strip_prefix_char}
use Rattle.launch_text.proofs.Runs.{point_is}
use Rattle.launch_text.proofs.front.after_point.Goals as goal

pub returns : goal.returns
returns c = point_is c.args.text.now c.strip_prefix.result (strip_prefix_char 46 c.args.text.now c.strip_prefix.result c.strip_prefix.ensures.cases (omega arith))
