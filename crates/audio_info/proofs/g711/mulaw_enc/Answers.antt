use Rattle.std.proofs.Common.{◌≡◌, min, unsigned_abs, arith, sym, ◌∙◌}
use Rattle.std.proofs.lemmas.Int.{ints, to_z-of_z}
use Rattle.audio_info.proofs.Codes.{mulaw_encoded, mulaw_sign, mulaw_sign-negative, mulaw_sign-other}
use Rattle.audio_info.proofs.g711.mulaw_enc.Goals as goal
use Rattle.audio_info.proofs.g711.mulaw_enc.Goals.{then-v-lt0, else-v-lt0}

pub returns : goal.returns
returns c =
    let sign : c.if-v-lt0.sign ≡ mulaw_sign c.args.v = elim c.if-v-lt0.branch [
      | then-v-lt0 w ↦ w.sign-is ∙ sym (mulaw_sign-negative c.args.v (grind (arith, ints)))
      | else-v-lt0 w ↦ w.sign-is ∙ sym (mulaw_sign-other c.args.v (grind (arith, ints)))
    ] in
    let clipped : c.min-magnitude.result ≡ min (unsigned_abs c.args.v) 32635 = grind (arith, to_z-of_z) in
    let all = mulaw_encoded c.args.v c.if-v-lt0.sign c.min-magnitude.result c.mulaw_interval.result sign clipped c.mulaw_interval.ensures in
    record { code = all.0; holds = all.1; only = all.2 }
