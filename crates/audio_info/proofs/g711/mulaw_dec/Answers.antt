use Rattle.std.proofs.Common.{◌≡◌, FitsSigned, w16, arith, ap, ◌∙◌, rules}
use Rattle.std.proofs.lemmas.Int.{to_z-of_z}
use Rattle.audio_info.specs.Segments.{mulaw_code, mulaw_value}
use Rattle.audio_info.proofs.Decoded.{mulaw_back, mulaw_decoded}
use Rattle.audio_info.proofs.g711.mulaw_dec.Goals as goal

pub returns : goal.returns
returns c =
    let fits : FitsSigned w16 c.signed.result = search rules in
    let value : c.signed.result ≡ mulaw_value c.args.u =
    c.signed.ensures ∙ rw (c.has_sign.ensures, c.mulaw_middle-middle.ensures.middle, c.segment_in.ensures, c.place_in.ensures) (mulaw_decoded c.args.u (omega arith)) in
    let is = to_z-of_z w16 c.signed.result fits ∙ value in
    record { value = is; back = λ other. ap mulaw_code is ∙ mulaw_back c.args.u (omega arith) other }
