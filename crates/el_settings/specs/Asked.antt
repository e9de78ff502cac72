-- What is asked of an element's settings: its pads, its file, and what may be done to it.
use Rattle.std.specs.Prelude.{ℕ, ◌<◌, ◌&&◌, Bool, true, false, if◌then◌else◌, List, Option, None, Some, is_some, codes, bytes_eq}
use Rattle.std.proofs.Common.{lit≤}
use Rattle.gst_caps.specs.declared.caps.Caps.{Caps}
use Rattle.gst_caps.specs.declared.caps.Caps.TheVariants.{Any}
use Rattle.audio_info.specs.declared.sample.Sample.TheVariants.{S16LE}
use Rattle.audio_info.specs.Templates.{raw_template, sample_template, wav_template}
use Rattle.el_law.specs.Laws.{format_in, format_out}
use Rattle.el_mix.specs.Mono.{mono_template}
use Rattle.el_settings.specs.Templates.{read_audio, wav_file}
use Rattle.el_settings.specs.declared.settings.QueueSettings.{QueueSettings}
use Rattle.el_settings.specs.declared.pads.MadePads.{MadePads}
use Rattle.el_settings.specs.declared.settings.Settings.{Settings}
use Rattle.el_settings.specs.declared.settings.Settings.TheVariants.{FileSrc, RampTestSrc, Identity, CapsFilter, Valve, Queue, Tee, AudioConvert, Law, RawAudioParse, AudioBufferSplit, WavParse, WavEnc, Interleave, Concat, FileSink, FakeSink}

-- Where an element stands in a stream: it begins one, passes one on, splits one into several, brings several together, or
-- ends one.
pub data Place : Type 0 where
  Begins : Place
  Passes : Place
  Splits : Place
  Gathers : Place
  Ends : Place

abbrev pub place_of : Settings → Place
place_of (FileSrc s) = Begins
place_of (RampTestSrc s) = Begins
place_of (Tee pads) = Splits
place_of (Interleave pads) = Gathers
place_of (Concat pads) = Gathers
place_of (FileSink s) = Ends
place_of FakeSink = Ends
place_of _ = Passes

-- the element gives items by itself
abbrev pub begins : Place → Bool
begins Begins = true
begins _ = false

abbrev pub is_source : Settings → Bool
is_source settings = begins (place_of settings)

-- items end at the element
abbrev pub ends : Place → Bool
ends Ends = true
ends _ = false

abbrev pub is_sink : Settings → Bool
is_sink settings = ends (place_of settings)

-- each link that leaves the element makes a source pad of it
abbrev pub splits : Place → Bool
splits Splits = true
splits _ = false

abbrev pub makes_sources : Settings → Bool
makes_sources settings = splits (place_of settings)

-- each link to the element makes a sink pad of it
abbrev pub gathers : Place → Bool
gathers Gathers = true
gathers _ = false

abbrev pub makes_sinks : Settings → Bool
makes_sinks settings = gathers (place_of settings)

abbrev pub sink_pads : Settings → ℕ
sink_pads (FileSrc s) = 0
sink_pads (RampTestSrc s) = 0
sink_pads Identity = 1
sink_pads (CapsFilter s) = 1
sink_pads (Valve s) = 1
sink_pads (Queue s) = 1
sink_pads (Tee pads) = 1
sink_pads (AudioConvert s) = 1
sink_pads (Law kind) = 1
sink_pads (RawAudioParse info) = 1
sink_pads (AudioBufferSplit s) = 1
sink_pads WavParse = 1
sink_pads WavEnc = 1
sink_pads (Interleave pads) = pads.count
sink_pads (Concat pads) = pads.count
sink_pads (FileSink s) = 1
sink_pads FakeSink = 1

abbrev pub source_pads : Settings → ℕ
source_pads (FileSrc s) = 1
source_pads (RampTestSrc s) = 1
source_pads Identity = 1
source_pads (CapsFilter s) = 1
source_pads (Valve s) = 1
source_pads (Queue s) = 1
source_pads (Tee pads) = pads.count
source_pads (AudioConvert s) = 1
source_pads (Law kind) = 1
source_pads (RawAudioParse info) = 1
source_pads (AudioBufferSplit s) = 1
source_pads WavParse = 1
source_pads WavEnc = 1
source_pads (Interleave pads) = 1
source_pads (Concat pads) = 1
source_pads (FileSink s) = 0
source_pads FakeSink = 0

-- how many pads of one side an element can have: 64 of those that links make
abbrev pub most_sinks : Settings → ℕ
most_sinks settings = if makes_sinks settings then 64 else sink_pads settings

abbrev pub most_sources : Settings → ℕ
most_sources settings = if makes_sources settings then 64 else source_pads settings

-- the element has or can have the sink pad, or else the source pad, of this number
abbrev pub HasPad : Settings → Bool → ℕ → Type 0
HasPad settings sink pad = pad < (if sink then most_sinks settings else most_sources settings)

abbrev pub is_queue : Settings → Bool
is_queue (Queue s) = true
is_queue _ = false

-- the limits of a queue
abbrev pub limits_of : Settings → Option QueueSettings
limits_of (Queue s) = Some s
limits_of _ = None

-- the element that stands between one sink pad and one source pad, and is no queue
abbrev pub is_filter : Settings → Bool
is_filter Identity = true
is_filter (CapsFilter s) = true
is_filter (Valve s) = true
is_filter (AudioConvert s) = true
is_filter (Law kind) = true
is_filter (RawAudioParse info) = true
is_filter (AudioBufferSplit s) = true
is_filter WavParse = true
is_filter WavEnc = true
is_filter _ = false

-- what the template of a sink pad takes, or else of a source pad
abbrev pub template_of : Settings → Bool → Caps
template_of (CapsFilter s) sink = s.caps
template_of (RampTestSrc s) sink = sample_template S16LE
template_of (AudioConvert s) sink = raw_template
template_of (Law kind) sink = if sink then sample_template (format_in kind) else sample_template (format_out kind)
template_of (RawAudioParse info) sink = if sink then Any else raw_template
template_of (AudioBufferSplit s) sink = raw_template
template_of WavParse sink = if sink then Any else read_audio
template_of WavEnc sink = if sink then wav_template else wav_file
template_of (Interleave pads) sink = if sink then mono_template else raw_template
template_of settings sink = Any

-- no pads, and the settings of an element that makes pads with so many of them; others stay
abbrev pub no_pads : MadePads
no_pads = record { count = 0; few = lit≤ tt }

abbrev pub with_pads : MadePads → Settings → Settings
with_pads pads (Tee was) = Tee pads
with_pads pads (Interleave was) = Interleave pads
with_pads pads (Concat was) = Concat pads
with_pads pads settings = settings

-- the elements that may be replaced while they run
abbrev pub may_be_replaced : Settings → Bool
may_be_replaced settings = is_filter settings

-- the properties that may be set while the element runs
abbrev pub is_settable : Settings → List ℕ → Bool
is_settable (CapsFilter s) name = bytes_eq name (codes "caps")
is_settable (Valve s) name = bytes_eq name (codes "drop")
is_settable _ name = false

-- the element that chooses its caps among those that are allowed behind it
abbrev pub is_converter : Settings → Bool
is_converter (AudioConvert s) = true
is_converter _ = false

-- the settings of a converter that may put out these caps; others stay
abbrev pub with_allowed : Caps → Settings → Settings
with_allowed caps (AudioConvert s) = AudioConvert (record { allowed = caps })
with_allowed caps settings = settings

-- what a converter may put out at most; others may put out all caps
abbrev pub allowed_of : Settings → Caps
allowed_of (AudioConvert s) = s.allowed
allowed_of _ = Any

-- the element that takes what is allowed behind it
abbrev pub hands_on : Settings → Bool
hands_on Identity = true
hands_on (CapsFilter s) = true
hands_on (Valve s) = true
hands_on (Queue s) = true
hands_on _ = false

-- the caps that an element lets through, of those that are taken behind it
abbrev pub filter_caps : Settings → Option Caps
filter_caps (CapsFilter s) = Some s.caps
filter_caps _ = None

-- the file that the element opens
abbrev pub location_of : Settings → Option (List ℕ)
location_of (FileSrc s) = Some s.location
location_of (FileSink s) = Some s.location
location_of _ = None

-- a source reads its file
abbrev pub reads : Settings → Bool
reads settings = is_source settings && is_some (location_of settings)

-- and a sink writes its own
abbrev pub writes : Settings → Bool
writes settings = is_sink settings && is_some (location_of settings)

-- what the element says that its stream is called
abbrev pub title_of : Settings → Option (List ℕ)
title_of (RampTestSrc s) = s.ramp.title
title_of _ = None
