use Rattle.std.proofs.Common.{sym, rules}
use Rattle.std.proofs.lemmas.Int.{to_z-of_z}
use mir.Syntax.{w32}
use mir.Val.{SFits}
use Rattle.audio_info.specs.Packing.{sample_width, sample_value}
use Rattle.el_convert.proofs.Scaling.{halved_fits}
use Rattle.el_convert.proofs.Conversion.{half_of}
use Rattle.el_convert.proofs.bodies.half.Goals as goal

pub returns-clause-value : goal.returns-clause-value
returns-clause-value g c =
    let left : SFits w32 c.get.result = search rules in
    let right : SFits w32 c.get-2.result = search rules in
    let fits : SFits w32 c.half_sum.result = search rules in
    rw (to_z-of_z w32 c.half_sum.result fits, c.half_sum.ensures, to_z-of_z w32 c.get.result left, to_z-of_z w32 c.get-2.result right, c.get.ensures.value, c.get-2.ensures.value)
    (sym (half_of (sample_value c.args.from) c.args.pair.now c.told-pair))

pub returns-clause-range : goal.returns-clause-range
returns-clause-range g c =
    let left : SFits w32 c.get.result = search rules in
    let right : SFits w32 c.get-2.result = search rules in
    let fits : SFits w32 c.half_sum.result = search rules in
    rw (to_z-of_z w32 c.half_sum.result fits, c.half_sum.ensures, to_z-of_z w32 c.get.result left, to_z-of_z w32 c.get-2.result right)
    (halved_fits (sample_width c.args.from) c.get.result c.get-2.result c.get.ensures.range c.get-2.ensures.range)
