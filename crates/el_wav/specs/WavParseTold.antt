-- What the first bytes of a WAV file say, as a function of them.
use Rattle.std.specs.Prelude.{◌≡◌, ◌≤◌, ℕ, Bool, true, false, ◌&&◌, nat_le, nat_lt, if◌then◌else◌, refl, List, [], ◌∷◌, Option, Some, None}
use Rattle.std.proofs.lemmas.Bool.{and_parts, leb-true}
use Rattle.audio_info.specs.declared.info.Info.{Info}
use Rattle.audio_info.specs.declared.sample.Sample.{Sample}
use Rattle.wav_format.specs.declared.head.Head.{Head}
use Rattle.wav_format.specs.declared.head.HeadAnswer.{HeadAnswer}
use Rattle.wav_format.specs.declared.head.HeadAnswer.TheVariants.{Whole as WholeHead, NeedMore, Bad}
use Rattle.wav_format.specs.Told.{answer_told}
use Rattle.el_wav.specs.WavParseHeads.{Told, Whole, More, Wrong, coding, stream_kind}

-- whether so many frames a second and so many channels are within the limits of audio
pub record IsInLimits (rate channels : ℕ) : Type 0 where
  pub some_rate : 1 ≤ rate
  pub low_rate : rate ≤ 768000
  pub some_channel : 1 ≤ channels
  pub few_channels : channels ≤ 64

abbrev pub is_in_limits : ℕ → ℕ → Bool
is_in_limits rate channels = nat_le 1 rate && (nat_le rate 768000 && (nat_le 1 channels && nat_le channels 64))

pub in_limits : (rate channels : ℕ) → is_in_limits rate channels ≡ true → IsInLimits rate channels
in_limits rate channels e =
    let first = and_parts (nat_le 1 rate) (nat_le rate 768000 && (nat_le 1 channels && nat_le channels 64)) e in
    let second = and_parts (nat_le rate 768000) (nat_le 1 channels && nat_le channels 64) first.1 in
    let third = and_parts (nat_le 1 channels) (nat_le channels 64) second.1 in
    record {
      some_rate = leb-true 1 rate first.0;
      low_rate = leb-true rate 768000 second.0;
      some_channel = leb-true 1 channels third.0;
      few_channels = leb-true channels 64 third.1;
    }

-- the format of the data, where its numbers are within the limits
abbrev pub info_with : (format : Sample) (rate channels : ℕ) (within : Bool) → is_in_limits rate channels ≡ within → Option Info
info_with format rate channels true e =
    let limits = in_limits rate channels e in
    Some (record { format = format; rate = rate; channels = channels; some_rate = limits.some_rate; rate_in_range = limits.low_rate; some_channels = limits.some_channel; channels_in_range = limits.few_channels })
info_with format rate channels false e = None

abbrev pub info_of : Option Sample → Head → Option Info
info_of None head = None
info_of (Some format) head = info_with format head.rate head.channels (is_in_limits head.rate head.channels) refl

abbrev pub head_told : Head → Option Info → Told
head_told head None = More
head_told head (Some info) = Whole head info

abbrev pub as_told : HeadAnswer → Told
as_told (WholeHead head) = head_told head (info_of (coding head.tag head.bits) head)
as_told (NeedMore n) = More
as_told (Bad place kind) = Wrong place (stream_kind kind)

abbrev pub are_bytes : List ℕ → Bool
are_bytes [] = true
are_bytes (byte ∷ bytes) = nat_lt byte 256 && are_bytes bytes

-- What bytes say, by the answer that they have in the RIFF WAVE format. Numbers that are no bytes say nothing.
unfoldable pub wav_told : List ℕ → Told
wav_told bytes = if are_bytes bytes then as_told (answer_told bytes) else More
