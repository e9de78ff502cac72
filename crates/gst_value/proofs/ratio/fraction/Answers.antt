use Rattle.std.proofs.Common.{inl, arith, w32, FitsSigned}
use Rattle.std.proofs.lemmas.Int.{to_z-of_z}
use Rattle.gst_value.proofs.Fractions.{no_size, some_divisor, when_some, when_lowest, when_none, when_fit}
use Rattle.gst_value.proofs.ratio.fraction.Goals as goal

pub returns-then-below-eq0-clause-none : goal.returns-then-below-eq0-clause-none
returns-then-below-eq0-clause-none c = inl (
    let den : FitsSigned w32 c.args.den = c.ranges.den in
    let below = simp to_z-of_z at c.unsigned_abs-below.ensures.value in
    no_size _ (omega arith))

pub nonzero_div-above : goal.nonzero_div-above
nonzero_div-above c = some_divisor _ _ _ c.greatest_common_divisor-divisor.ensures (omega arith)

pub nonzero_div-below : goal.nonzero_div-below
nonzero_div-below c = some_divisor _ _ _ c.greatest_common_divisor-divisor.ensures (omega arith)

pub returns-clause-reduced : goal.returns-clause-reduced
returns-clause-reduced c =
    let num : FitsSigned w32 c.args.num = c.ranges.num in
    let den : FitsSigned w32 c.args.den = c.ranges.den in
    when_some c.args.num c.args.den _ _ _ _ _ (simp to_z-of_z at c.unsigned_abs-above.ensures.value) (simp to_z-of_z at c.unsigned_abs-below.ensures.value) c.greatest_common_divisor-divisor.ensures (omega arith)
    (simp to_z-of_z at c.is_negative.ensures) (simp to_z-of_z at c.is_negative-2.ensures) _ c.parts.ensures

pub returns-clause-lowest : goal.returns-clause-lowest
returns-clause-lowest c =
    let num : FitsSigned w32 c.args.num = c.ranges.num in
    let den : FitsSigned w32 c.args.den = c.ranges.den in
    when_lowest c.args.num c.args.den _ _ _ _ _ (simp to_z-of_z at c.unsigned_abs-above.ensures.value) (simp to_z-of_z at c.unsigned_abs-below.ensures.value) c.greatest_common_divisor-divisor.ensures (omega arith)
    (simp to_z-of_z at c.is_negative.ensures) (simp to_z-of_z at c.is_negative-2.ensures) _ c.parts.ensures

pub returns-clause-none : goal.returns-clause-none
returns-clause-none c =
    let num : FitsSigned w32 c.args.num = c.ranges.num in
    let den : FitsSigned w32 c.args.den = c.ranges.den in
    when_none c.args.num c.args.den _ _ _ _ _ (simp to_z-of_z at c.unsigned_abs-above.ensures.value) (simp to_z-of_z at c.unsigned_abs-below.ensures.value) c.greatest_common_divisor-divisor.ensures (omega arith)
    (simp to_z-of_z at c.is_negative.ensures) (simp to_z-of_z at c.is_negative-2.ensures) _ c.parts.ensures

pub returns-clause-fit : goal.returns-clause-fit
returns-clause-fit c = when_fit _ _ _ c.parts.ensures
