use Rattle.std.proofs.Common.{◌≡◌, ap, ◌∙◌, rules}
use Rattle.std.proofs.lemmas.Int.{to_z-of_z}
use mir.Syntax.{w32}
use mir.Val.{SFits}
use Rattle.audio_info.specs.Packing.{sample_width, sample_bytes}
use Rattle.el_convert.specs.Bodies.{rescaled}
use Rattle.el_convert.proofs.Scaling.{rescaled_fits, some_width}
use Rattle.el_convert.proofs.bodies.packed.Goals as goal

pub bytes_of-requires-clause-range : goal.bytes_of-requires-clause-range
bytes_of-requires-clause-range g c =
    let fits : SFits w32 c.rescaled.result = search rules in
    rw (to_z-of_z w32 c.rescaled.result fits, c.rescaled.ensures, to_z-of_z w32 c.args.value c.ranges.value, ← c.requires.bytes_in, ← c.requires.bytes_out)
    (rescaled_fits _ _ (some_width c.args.from).0 (some_width c.args.to).0 c.args.value c.requires.range)

pub returns : goal.returns
returns g c =
    let fits : SFits w32 c.rescaled.result = search rules in
    let value : c.rescaled.result ≡ rescaled (sample_width c.args.from) (sample_width c.args.to) c.args.value =
    rw (c.requires.bytes_in, c.requires.bytes_out) (c.rescaled.ensures ∙ ap (rescaled g.row.IN g.row.OUT) (to_z-of_z w32 c.args.value c.ranges.value)) in
    rw (← c.requires.bytes_out) (c.bytes_of.ensures ∙ ap (sample_bytes c.args.to) (to_z-of_z w32 c.rescaled.result fits ∙ value))
