-- The numbers are of 32 bits, and so are the parts.
use Rattle.std.specs.Int.{w32}
use Rattle.std.proofs.lemmas.Int.{to_z-of_z}
use Rattle.caps_text.proofs.Ratios.{ratio_at}
use Rattle.caps_text.proofs.number.ratio.Goals as goal

pub returns : goal.returns
returns c = ratio_at c.args.num c.args.den _ _ (to_z-of_z w32 c.args.num c.ranges.num) (to_z-of_z w32 c.args.den c.ranges.den) c.fraction.result c.fraction.ensures.reduced c.fraction.ensures.lowest c.fraction.ensures.fit c.fraction.ensures.none
