-- The templates that el_settings tells of elements that have one of their own.
use Rattle.std.specs.Prelude.{◌≡◌, true}
use Rattle.std.proofs.Common.{refl}
use Rattle.audio_info.specs.Templates.{raw_template, wav_template}
use Rattle.el_settings.specs.Asked.{template_of}
use Rattle.el_settings.specs.declared.settings.AudioBufferSplitSettings.{AudioBufferSplitSettings}
use Rattle.el_settings.specs.declared.settings.Settings.TheVariants.{AudioBufferSplit, WavEnc}

pub wavenc_tells : template_of WavEnc true ≡ wav_template
wavenc_tells = refl

pub split_tells : (settings : AudioBufferSplitSettings) → template_of (AudioBufferSplit settings) true ≡ raw_template
split_tells settings = refl
