-- The caps that pads may have, by their element: their templates, as in GStreamer's Plugin Writer's Guide.
use Rattle.std.specs.Prelude.{[], ◌∷◌, codes}
use Rattle.gst_caps.specs.declared.caps.Caps.{Caps}
use Rattle.gst_caps.specs.declared.caps.Caps.TheVariants.{Of}
use Rattle.audio_info.specs.Templates.{audio_template, raw_formats}

-- all that a WAV file can be read as
abbrev pub read_audio : Caps
read_audio = audio_template raw_formats

-- a WAV file
abbrev pub wav_file : Caps
wav_file = Of (record { media = codes "audio/x-wav"; fields = [] } ∷ [])
