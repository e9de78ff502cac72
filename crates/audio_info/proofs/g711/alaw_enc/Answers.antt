use Rattle.std.proofs.Common.{◌≡◌, arith, sym, ◌∙◌}
use Rattle.std.proofs.lemmas.Int.{ints, to_z-of_z}
use Rattle.audio_info.specs.Segments.{alaw_magnitude}
use Rattle.audio_info.proofs.Codes.{alaw_encoded, alaw_sign, alaw_sign-negative, alaw_sign-other}
use Rattle.audio_info.proofs.g711.alaw_enc.Goals as goal
use Rattle.audio_info.proofs.g711.alaw_enc.Goals.{then-v-lt0, else-v-lt0}

pub returns : goal.returns
returns c =
    let sign : c.if-v-lt0.sign ≡ alaw_sign c.args.v = elim c.if-v-lt0.branch [
      | then-v-lt0 w ↦ w.sign-is ∙ sym (alaw_sign-negative c.args.v (grind (arith, ints)))
      | else-v-lt0 w ↦ w.sign-is ∙ sym (alaw_sign-other c.args.v (grind (arith, ints)))
    ] in
    let folded : c.folded.result ≡ alaw_magnitude c.args.v = grind (arith, to_z-of_z) in
    let all = alaw_encoded c.args.v c.if-v-lt0.sign c.folded.result c.alaw_interval.result sign folded c.folded.ensures.fits c.alaw_interval.ensures in
    record { code = all.0; holds = all.1; only = all.2 }
