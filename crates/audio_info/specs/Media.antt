-- What the caps of a stream of audio say, with the media types and fields of GStreamer.
use Rattle.std.specs.Prelude.{ℕ, pos, negsuc, List, [], ◌∷◌, Option, Some, None, ◌&&◌, nat_le, if◌then◌else◌, codes, find, option_and_then}
use Rattle.std.specs.Option.{option_map}
use Rattle.std.specs.Str.{bytes_eq}
use Rattle.gst_value.specs.Description.{Description}
use Rattle.gst_value.specs.declared.one.One.{One}
use Rattle.gst_value.specs.declared.one.One.TheVariants.{Int, Bool as Truth, Text as Words, Fraction, IntRange}
use Rattle.audio_info.specs.declared.sample.Sample.{Sample}
use Rattle.audio_info.specs.declared.sample.Sample.TheVariants.{S8, U8, S16LE, S16BE, S24LE, S32LE, MuLaw, ALaw}

-- the value of the field of this name
abbrev pub field_of : List ℕ → List (List ℕ × One) → Option One
field_of name fields = option_map (λ f. f.1) (find (λ f. bytes_eq f.0 name) fields)

-- a whole number from 1 to the most
abbrev pub number_up_to : ℕ → One → Option ℕ
number_up_to most (Int (pos n)) = if nat_le 1 n && nat_le n most then Some n else None
number_up_to most (Int (negsuc n)) = None
number_up_to most (Truth b) = None
number_up_to most (Words t) = None
number_up_to most (Fraction a b) = None
number_up_to most (IntRange a b) = None

-- the name of a format
abbrev pub sample_name : Sample → List ℕ
sample_name S8 = codes "S8"
sample_name U8 = codes "U8"
sample_name S16LE = codes "S16LE"
sample_name S16BE = codes "S16BE"
sample_name S24LE = codes "S24LE"
sample_name S32LE = codes "S32LE"
sample_name MuLaw = codes "MULAW"
sample_name ALaw = codes "ALAW"

-- the formats of raw audio
abbrev pub raw_samples : List Sample
raw_samples = S8 ∷ U8 ∷ S16LE ∷ S16BE ∷ S24LE ∷ S32LE ∷ []

-- the format of raw audio of this name
abbrev pub raw_sample : One → Option Sample
raw_sample (Words t) = find (λ s. bytes_eq (sample_name s) t) raw_samples
raw_sample (Int n) = None
raw_sample (Truth b) = None
raw_sample (Fraction a b) = None
raw_sample (IntRange a b) = None

-- the format of the samples: a law has a media type of its own
abbrev pub sample_of : Description One → Option Sample
sample_of caps =
    if bytes_eq caps.media (codes "audio/x-raw") then option_and_then raw_sample (field_of (codes "format") caps.fields)
    else (if bytes_eq caps.media (codes "audio/x-mulaw") then Some MuLaw
    else (if bytes_eq caps.media (codes "audio/x-alaw") then Some ALaw else None))

-- the rate, in frames a second
abbrev pub rate_of : Description One → Option ℕ
rate_of caps = option_and_then (number_up_to 768000) (field_of (codes "rate") caps.fields)

-- the number of channels
abbrev pub channels_of : Description One → Option ℕ
channels_of caps = option_and_then (number_up_to 64) (field_of (codes "channels") caps.fields)

-- the caps of raw audio, and those of a law
abbrev pub raw_caps : List ℕ → ℕ → ℕ → Description One
raw_caps format rate channels = record {
  media = codes "audio/x-raw";
  fields = (codes "channels", Int (pos channels)) ∷ (codes "format", Words format)
      ∷ (codes "layout", Words (codes "interleaved")) ∷ (codes "rate", Int (pos rate)) ∷ [];
}

abbrev pub law_caps : List ℕ → ℕ → ℕ → Description One
law_caps media rate channels = record {
  media = media;
  fields = (codes "channels", Int (pos channels)) ∷ (codes "rate", Int (pos rate)) ∷ [];
}

-- the caps of a stream
abbrev pub caps_of : Sample → ℕ → ℕ → Description One
caps_of MuLaw rate channels = law_caps (codes "audio/x-mulaw") rate channels
caps_of ALaw rate channels = law_caps (codes "audio/x-alaw") rate channels
caps_of sample rate channels = raw_caps (sample_name sample) rate channels
