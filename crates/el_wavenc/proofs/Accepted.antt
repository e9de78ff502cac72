-- Caps that the template accepts are those of audio.
use Rattle.std.proofs.Common.{◌≡◌, true, ◌⊎◌, None, refl}
use Rattle.gst_caps.specs.Accepts.{accepts}
use Rattle.gst_value.specs.Description.{Description}
use Rattle.gst_caps.specs.declared.caps.Caps.{Caps}
use Rattle.gst_value.specs.declared.one.One.{One}
use Rattle.audio_info.specs.Media.{sample_of, rate_of, channels_of}
use Rattle.audio_info.proofs.Accepted.{IsKnown, audio_accepted, lacks_nothing}
use Rattle.audio_info.specs.Templates.{wav_samples, wav_template}

pub never_other : (wanted : Caps) (caps : Description One) → wanted ≡ wav_template → accepts wanted caps ≡ true → (sample_of caps ≡ None) ⊎ (rate_of caps ≡ None) ⊎ (channels_of caps ≡ None) → ⊥
never_other wanted caps made h = lacks_nothing IsKnown caps (λ e. absurd (cc)) (audio_accepted wav_samples caps (refl, (refl, (refl, (refl, tt)))) (rw made at h))
