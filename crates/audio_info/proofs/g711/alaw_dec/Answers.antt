use Rattle.std.proofs.Common.{◌≡◌, FitsSigned, w16, arith, ap, ◌∙◌, rules}
use Rattle.std.proofs.lemmas.Int.{to_z-of_z}
use Rattle.audio_info.specs.Segments.{alaw_code, alaw_inverted, alaw_value}
use Rattle.audio_info.proofs.Decoded.{alaw_back, alaw_decoded}
use Rattle.audio_info.proofs.g711.alaw_dec.Goals as goal

pub returns : goal.returns
unfolding alaw_inverted
returns c =
    let fits : FitsSigned w16 c.signed.result = search rules in
    let value : c.signed.result ≡ alaw_value c.args.a =
    c.signed.ensures ∙ rw (c.has_sign.ensures, c.alaw_middle.ensures.middle, c.segment_in.ensures, c.place_in.ensures) (alaw_decoded c.args.a (omega arith)) in
    let is = to_z-of_z w16 c.signed.result fits ∙ value in
    record { value = is; back = ap alaw_code is ∙ alaw_back c.args.a (omega arith) }
