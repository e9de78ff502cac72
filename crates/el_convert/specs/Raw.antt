-- What a converter can make of raw audio, as in GStreamer's documents on it.
use Rattle.std.specs.Prelude.{ℕ, pos, ◌==◌, List, [], ◌∷◌, map, if◌then◌else◌}
use Rattle.std.specs.Option.{unwrap_or}
use Rattle.gst_value.specs.Description.{Description}
use Rattle.gst_caps.specs.declared.caps.Caps.{Caps}
use Rattle.gst_caps.specs.declared.caps.Caps.TheVariants.{Of}
use Rattle.gst_value.specs.declared.one.One.{One}
use Rattle.gst_value.specs.declared.one.One.TheVariants.{Int}
use Rattle.gst_caps.specs.declared.value.Value.{Value}
use Rattle.gst_caps.specs.declared.value.Value.TheVariants.{One as Single, Many}
use Rattle.audio_info.specs.Media.{raw_samples, sample_of, rate_of, channels_of}
use Rattle.audio_info.specs.Templates.{raw, format_name}
use Rattle.audio_info.specs.declared.sample.Sample.{Sample}
use Rattle.audio_info.specs.declared.sample.Sample.TheVariants.{S8}

-- the numbers of channels that a number of them can become: one can become two, and two can become one
abbrev pub channels_from : ℕ → List One
channels_from n = if n == 1 then Int (pos 1) ∷ Int (pos 2) ∷ [] else (if n == 2 then Int (pos 2) ∷ Int (pos 1) ∷ [] else Int (pos n) ∷ [])

-- What audio of this kind can become: what it has comes first, then the other formats and numbers of channels. The
-- rate stays.
abbrev pub options_from : Sample → ℕ → ℕ → Description Value
options_from format rate channels = raw (Many (channels_from channels)) (Many (map format_name (format ∷ raw_samples))) (Single (Int (pos rate)))

-- the format and the number of channels of caps of raw audio
abbrev pub format_in : Description One → Sample
format_in caps = unwrap_or (sample_of caps) S8

abbrev pub channels_in : Description One → ℕ
channels_in caps = unwrap_or (channels_of caps) 0

abbrev pub rate_in : Description One → ℕ
rate_in caps = unwrap_or (rate_of caps) 0

-- what audio of these caps can become
abbrev pub options : Description One → Caps
options caps = Of (options_from (format_in caps) (rate_in caps) (channels_in caps) ∷ [])
