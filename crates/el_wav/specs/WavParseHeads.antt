-- What the first bytes of a WAV file say of its head and of the audio behind it.
use Rattle.std.specs.Prelude.{◌≡◌, ◌≢◌, ◌≤◌, ℕ, ◌==◌, if◌then◌else◌, List, Option, Some, None}
use Rattle.audio_info.specs.declared.info.Info.{Info}
use Rattle.audio_info.specs.declared.sample.Sample.{Sample}
use Rattle.audio_info.specs.declared.sample.Sample.TheVariants.{U8, S16LE, S24LE, S32LE, MuLaw, ALaw}
use Rattle.flow_model.specs.declared.fault.StreamKind.{StreamKind}
use Rattle.flow_model.specs.declared.fault.StreamKind.TheVariants.{NotRiff as NoRiff, NotWave as NoWave, NoFmt as NoFormat, BadFmt as BadFormat, TagUnknown as UnknownTag, HeadTooLong as TooLongHead}
use Rattle.wav_format.specs.declared.head.Head.{Head}
use Rattle.wav_format.specs.declared.head.WavKind.{WavKind}
use Rattle.wav_format.specs.declared.head.WavKind.TheVariants.{NotRiff, NotWave, NoFmt, BadFmt, TagUnknown, HeadTooLong}
use Rattle.wav_format.specs.Chunks.{BeginsWithHead}
use Rattle.wav_format.specs.Faults.{FaultIn}
use Rattle.wav_format.specs.Cuts.{CutIn}
use Rattle.wav_format.specs.Format.{AreBytes}

-- the format of samples that a tag and a number of bits stand for
abbrev pub pcm : ℕ → Option Sample
pcm bits =
    if bits == 8 then Some U8
    else (if bits == 16 then Some S16LE
    else (if bits == 24 then Some S24LE
    else (if bits == 32 then Some S32LE else None)))

abbrev pub coding : ℕ → ℕ → Option Sample
coding tag bits =
    if tag == 1 then pcm bits
    else (if bits == 8 then (if tag == 6 then Some ALaw else (if tag == 7 then Some MuLaw else None)) else None)

-- the format of the data behind a head
pub record IsFormatOf (head : Head) (info : Info) : Type 0 where
  pub coded : coding head.tag head.bits ≡ Some info.format
  pub rate : head.rate ≡ info.rate
  pub channels : head.channels ≡ info.channels

-- the numbers of a head are within their limits, and its coding is known
pub record HeadFits (head : Head) : Type 0 where
  pub coded : coding head.tag head.bits ≢ None
  pub some_rate : 1 ≤ head.rate
  pub low_rate : head.rate ≤ 768000
  pub some_channel : 1 ≤ head.channels
  pub few_channels : head.channels ≤ 64
  pub behind : 1 ≤ head.start
  pub near : head.start ≤ 16777216

-- What bytes say: they begin with a head, and the data behind it has a format; or they go on in a head; or they
-- begin none, because of what stands at a place.
pub data Told : Type 0 where
  Whole : (head : Head) (info : Info) → Told
  More : Told
  Wrong : (place : ℕ) (kind : StreamKind) → Told

-- the fault of a stream that begins no head
abbrev pub stream_kind : WavKind → StreamKind
stream_kind NotRiff = NoRiff
stream_kind NotWave = NoWave
stream_kind NoFmt = NoFormat
stream_kind BadFmt = BadFormat
stream_kind TagUnknown = UnknownTag
stream_kind HeadTooLong = TooLongHead

-- The function tells of all bytes what the RIFF WAVE format says of them, and of a head where there is one.
pub record ReadsHeads (read : List ℕ → Told) : Type 0 where
  pub whole : (bytes : List ℕ) (head : Head) (info : Info) → AreBytes bytes → BeginsWithHead bytes head → IsFormatOf head info → read bytes ≡ Whole head info
  pub more : (bytes : List ℕ) → AreBytes bytes → CutIn bytes → read bytes ≡ More
  pub wrong : (bytes : List ℕ) (place : ℕ) (kind : WavKind) → AreBytes bytes → FaultIn bytes place kind → read bytes ≡ Wrong place (stream_kind kind)
  pub only : (bytes : List ℕ) (head : Head) (info : Info) → read bytes ≡ Whole head info → AreBytes bytes × BeginsWithHead bytes head × IsFormatOf head info
