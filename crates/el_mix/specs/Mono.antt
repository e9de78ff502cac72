-- Raw audio of one channel: what its caps say, and which caps it has.
use Rattle.std.specs.Prelude.{ℕ, ◌*◌, ◌/◌, pos, [], ◌∷◌, unwrap_or}
use Rattle.gst_value.specs.Description.{Description}
use Rattle.gst_caps.specs.declared.caps.Caps.{Caps}
use Rattle.gst_caps.specs.declared.caps.Caps.TheVariants.{Of}
use Rattle.gst_value.specs.declared.one.One.{One}
use Rattle.gst_value.specs.declared.one.One.TheVariants.{Int}
use Rattle.gst_caps.specs.declared.value.Value.{Value}
use Rattle.gst_caps.specs.declared.value.Value.TheVariants.{One as Single}
use Rattle.audio_info.specs.declared.sample.Sample.{Sample}
use Rattle.audio_info.specs.declared.sample.Sample.TheVariants.{U8, S16LE}
use Rattle.audio_info.specs.Media.{sample_of, rate_of}
use Rattle.audio_info.specs.Packing.{sample_width}
use Rattle.audio_info.specs.Templates.{raw, raw_formats, up_to_most}

-- the template of each sink pad: raw audio of one channel
abbrev pub mono_structure : Description Value
mono_structure = raw (Single (Int (pos 1))) raw_formats (up_to_most 768000)

abbrev pub mono_template : Caps
mono_template = Of (mono_structure ∷ [])

-- What the frames of one channel are: the format of a sample, which is a frame, and how many play in a second. Caps that are
-- none of raw audio are refused before they are asked.
pub record Mono : Type 0 where
  pub format : Sample
  pub rate : ℕ

abbrev pub mono_of : Description One → Mono
mono_of caps = record { format = unwrap_or (sample_of caps) S16LE; rate = unwrap_or (rate_of caps) 0 }

-- the bytes of a frame
abbrev pub width : Mono → ℕ
width mono = sample_width mono.format

-- the time of a frame, in nanoseconds, rounded down
abbrev pub time_of : Mono → ℕ → ℕ
time_of mono frame = frame * 1000000000 / mono.rate

-- the byte of silence: the value 0
abbrev pub silence : Sample → ℕ
silence U8 = 128
silence _ = 0
