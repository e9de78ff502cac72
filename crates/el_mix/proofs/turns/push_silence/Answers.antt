use Rattle.std.proofs.Common.{arith}
use Rattle.el_mix.proofs.Telling.{width_most}
use Rattle.el_mix.proofs.Turning.{silence_taken}
use Rattle.el_mix.proofs.turns.push_silence.Goals as goal

pub slice_bounds-silent-end : goal.slice_bounds-silent-end
slice_bounds-silent-end c = omega (arith, width_most c.args.format, c.width.ensures)

pub returns : goal.returns
returns c =
    silence_taken c.args.format c.silent_byte-silent.result c.width.result c.args.into.now.items c.extend_from_slice.new.self.items c.width.ensures c.silent_byte-silent.ensures
    c.in_ok-extend_from_slice.ensures.items
