use Rattle.std.proofs.Common.{◌<◌}
use Rattle.std.proofs.lemmas.Simd.{below_from_Fits}
use lib.Lanes.{digits_l, number_l}
use mir.Syntax.{w8}
use Rattle.audio_info.proofs.Sixteen.{words, small_words, all_of}
use Rattle.audio_info.proofs.lanes.bits_of.Goals as goal

pub returns-clause-bits : goal.returns-clause-bits
returns-clause-bits c = words 16 c.args.bytes c.fits-bytes.0 (below_from_Fits w8 c.args.bytes c.fits-bytes.1)

pub returns-clause-small : goal.returns-clause-small
returns-clause-small c = all_of (λ u. u < 65536) (digits_l 65536 16 (number_l 256 c.args.bytes)) (small_words 16 (number_l 256 c.args.bytes))
