-- The caps that pads of audio have by their kind: their templates, as in GStreamer's Plugin Writer's Guide.
use Rattle.std.specs.Prelude.{ℕ, pos, List, [], ◌∷◌, codes, map}
use Rattle.gst_value.specs.Description.{Description}
use Rattle.gst_caps.specs.declared.caps.Caps.{Caps}
use Rattle.gst_caps.specs.declared.caps.Caps.TheVariants.{Of}
use Rattle.gst_value.specs.declared.one.One.{One}
use Rattle.gst_value.specs.declared.one.One.TheVariants.{Text as Words, IntRange}
use Rattle.gst_caps.specs.declared.value.Value.{Value}
use Rattle.gst_caps.specs.declared.value.Value.TheVariants.{One as Single, Many}
use Rattle.audio_info.specs.Media.{sample_name, raw_samples}
use Rattle.audio_info.specs.declared.sample.Sample.{Sample}
use Rattle.audio_info.specs.declared.sample.Sample.TheVariants.{U8, S16LE, S24LE, S32LE, MuLaw, ALaw}

-- the whole numbers from 1 to the most
abbrev pub up_to_most : ℕ → Value
up_to_most most = Single (IntRange (pos 1) (pos most))

-- the name of a format, as a value, and the names of all formats of raw audio
abbrev pub format_name : Sample → One
format_name format = Words (sample_name format)

abbrev pub raw_formats : Value
raw_formats = Many (map format_name raw_samples)

-- raw audio with these channels, formats and rates, interleaved
abbrev pub raw : Value → Value → Value → Description Value
raw channels formats rate = record {
  media = codes "audio/x-raw";
  fields = (codes "channels", channels) ∷ (codes "format", formats)
      ∷ (codes "layout", Single (Words (codes "interleaved"))) ∷ (codes "rate", rate) ∷ [];
}

-- raw audio of these formats, of 1 to 64 channels and a rate of 1 to 768000
abbrev pub raw_structure : Value → Description Value
raw_structure formats = raw (up_to_most 64) formats (up_to_most 768000)

-- a law of G.711, of 1 to 64 channels and a rate of 1 to 768000
abbrev pub law_structure : List ℕ → Description Value
law_structure media = record {
  media = media;
  fields = (codes "channels", up_to_most 64) ∷ (codes "rate", up_to_most 768000) ∷ [];
}

-- the only structure of the template of a format
abbrev pub structure_of : Sample → Description Value
structure_of MuLaw = law_structure (codes "audio/x-mulaw")
structure_of ALaw = law_structure (codes "audio/x-alaw")
structure_of sample = raw_structure (Single (format_name sample))

-- the template of one format, and that of all formats of raw audio
abbrev pub sample_template : Sample → Caps
sample_template sample = Of (structure_of sample ∷ [])

abbrev pub raw_template : Caps
raw_template = Of (raw_structure raw_formats ∷ [])

-- the template of raw audio of these formats and of the two laws
abbrev pub audio_template : Value → Caps
audio_template formats = Of (raw_structure formats ∷ law_structure (codes "audio/x-mulaw") ∷ law_structure (codes "audio/x-alaw") ∷ [])

-- the formats of raw audio that a WAV file can hold
abbrev pub wav_samples : List Sample
wav_samples = U8 ∷ S16LE ∷ S24LE ∷ S32LE ∷ []

-- all that a WAV file can be written of
abbrev pub wav_template : Caps
wav_template = audio_template (Many (map format_name wav_samples))
