-- The caps of the pads of an element that writes WAV files, as in GStreamer's Plugin Writer's Guide.
use Rattle.std.specs.Prelude.{[], codes}
use Rattle.gst_value.specs.Description.{Description}
use Rattle.gst_value.specs.declared.one.One.{One}

-- the caps of a WAV file, which are those of the source pad
abbrev pub wav_caps : Description One
wav_caps = record { media = codes "audio/x-wav"; fields = [] }
