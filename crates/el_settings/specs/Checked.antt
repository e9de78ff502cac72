-- What properties set an element to, and why they are refused.
use Rattle.std.specs.Prelude.{◌≡◌, ◌≤◌, ◌⊎◌, ◌*◌, ◌^◌, ℕ, List, [], ◌∷◌, ◌++◌, Option, None, Some, Result, Ok, Err, codes}
use Rattle.gst_caps.specs.declared.caps.Caps.TheVariants.{Any}
use Rattle.gst_value.specs.declared.name.Prop.{Prop}
use Rattle.audio_info.specs.declared.sample.Sample.TheVariants.{S16LE}
use Rattle.el_src.specs.Ramp.{frame_time}
use Rattle.el_settings.specs.declared.kind.Kind.{Kind}
use Rattle.el_settings.specs.declared.kind.Kind.TheVariants.{FileSrc, RampTestSrc, Identity, CapsFilter, Valve, Queue, Tee, AudioConvert, Law, RawAudioParse, AudioBufferSplit, WavParse, WavEnc, Interleave, Concat, FileSink, FakeSink}
use Rattle.el_settings.specs.declared.domain.Domain.{Domain}
use Rattle.el_settings.specs.declared.settings.Settings.{Settings}
use Rattle.el_settings.specs.declared.settings.Settings.TheVariants.{FileSrc as FileSrcBy, RampTestSrc as RampTestSrcBy, Identity as IdentityBy, CapsFilter as CapsFilterBy, Valve as ValveBy, Queue as QueueBy, Tee as TeeBy, AudioConvert as AudioConvertBy, Law as LawBy, RawAudioParse as RawAudioParseBy, AudioBufferSplit as AudioBufferSplitBy, WavParse as WavParseBy, WavEnc as WavEncBy, Interleave as InterleaveBy, Concat as ConcatBy, FileSink as FileSinkBy, FakeSink as FakeSinkBy}
use Rattle.el_settings.specs.declared.fault.PropFault.{PropFault}
use Rattle.el_settings.specs.declared.fault.PropFault.TheVariants.{NoSuchKind, NoSuchProperty, BadValue, OutOfMemory}
use Rattle.el_settings.specs.Kinds.{kinds}
use Rattle.el_settings.specs.Rows.{find_row, domain_named, InDomain}
use Rattle.el_settings.specs.Values.{AllTaken, last_value, NumberOr, SwitchOr, FormatOr, CapsOr}

-- What an element of a kind is set to. A converter is allowed to put out all caps, and no pad was made yet.
abbrev pub IsSetTo : Kind → List Prop → Settings → Type 0
IsSetTo FileSrc props (FileSrcBy s) = (last_value (codes "location") props ≡ Some s.location) × NumberOr (codes "blocksize") 4096 props s.blocksize
IsSetTo RampTestSrc props (RampTestSrcBy s) =
    NumberOr (codes "num-buffers") 16 props s.ramp.buffers
    × NumberOr (codes "samplesperbuffer") 1024 props s.ramp.samples
    × NumberOr (codes "rate") 44100 props s.ramp.rate
    × NumberOr (codes "channels") 1 props s.ramp.channels
    × NumberOr (codes "gap-every") 0 props s.ramp.gap_every
    × (last_value (codes "title") props ≡ s.ramp.title)
IsSetTo Identity props IdentityBy = Unit {0}
IsSetTo CapsFilter props (CapsFilterBy s) = CapsOr (codes "caps") props s.caps
IsSetTo Valve props (ValveBy s) = SwitchOr (codes "drop") props s.drops
IsSetTo Queue props (QueueBy s) =
    NumberOr (codes "max-size-buffers") 200 props s.buffers
    × NumberOr (codes "max-size-bytes") 10485760 props s.bytes
    × NumberOr (codes "max-size-time") 1000000000 props s.time
IsSetTo Tee props (TeeBy pads) = pads.count ≡ 0
IsSetTo AudioConvert props (AudioConvertBy s) = s.allowed ≡ Any
IsSetTo (Law kind) props (LawBy own) = own ≡ kind
IsSetTo RawAudioParse props (RawAudioParseBy info) =
    FormatOr (codes "pcm-format") S16LE props info.format
    × NumberOr (codes "sample-rate") 44100 props info.rate
    × NumberOr (codes "num-channels") 2 props info.channels
IsSetTo AudioBufferSplit props (AudioBufferSplitBy s) = NumberOr (codes "frames") 1024 props s.frames
IsSetTo WavParse props WavParseBy = Unit {0}
IsSetTo WavEnc props WavEncBy = Unit {0}
IsSetTo Interleave props (InterleaveBy pads) = pads.count ≡ 0
IsSetTo Concat props (ConcatBy pads) = pads.count ≡ 0
IsSetTo FileSink props (FileSinkBy s) = (last_value (codes "location") props ≡ Some s.location) × SwitchOr (codes "keep-flushed") props s.keep_flushed
IsSetTo FakeSink props FakeSinkBy = Unit {0}
IsSetTo _ props settings = ⊥

-- the properties without which there is no element of the kind
abbrev pub needed : Kind → List (List ℕ)
needed FileSrc = codes "location" ∷ []
needed FileSink = codes "location" ∷ []
needed _ = []

-- a property that is needed and was not given
abbrev pub Lacks : List (List ℕ) → List Prop → List ℕ → Type 0
Lacks [] props name = ⊥
Lacks (one ∷ names) props name = ((last_value one props ≡ None) × (name ≡ one)) ⊎ Lacks names props name

-- The time of the end of a ramp, in nanoseconds, is 2^63 or later. The number of its buffers is told.
pub record EndsTooLate (props : List Prop) (name : List ℕ) : Type 0 where
  pub buffers : ℕ
  pub samples : ℕ
  pub rate : ℕ
  pub buffers_given : NumberOr (codes "num-buffers") 16 props buffers
  pub samples_given : NumberOr (codes "samplesperbuffer") 1024 props samples
  pub rate_given : NumberOr (codes "rate") 44100 props rate
  pub late : 2 ^ 63 ≤ frame_time rate (buffers * samples)
  pub told : name ≡ codes "num-buffers"

-- what is wrong where each given property is taken: one that is needed was not given, or a ramp ends too late
abbrev pub IsUnfit : Kind → List Prop → List ℕ → Type 0
IsUnfit RampTestSrc props name = EndsTooLate props name
IsUnfit kind props name = Lacks (needed kind) props name

-- why a property is refused
abbrev pub IsOwnFault : Kind → Prop → PropFault → Type 0
IsOwnFault kind prop (NoSuchProperty name) = (name ≡ prop.name) × (domain_named kind prop.name ≡ None)
IsOwnFault kind prop (BadValue name) = (name ≡ prop.name) × (domain : Domain) × (domain_named kind prop.name ≡ Some domain) × ¬ InDomain domain prop.value
IsOwnFault kind prop NoSuchKind = ⊥
IsOwnFault kind prop OutOfMemory = Unit {0}

-- the first property in order that is refused
pub record IsFirstFault (kind : Kind) (props : List Prop) (fault : PropFault) : Type 0 where
  pub before : List Prop
  pub prop : Prop
  pub after : List Prop
  pub place : props ≡ before ++ prop ∷ after
  pub taken : AllTaken kind before
  pub own : IsOwnFault kind prop fault

-- what is needed and what fits together is looked for behind the given properties
abbrev pub IsFault : Kind → List Prop → PropFault → Type 0
IsFault kind props (NoSuchProperty name) = IsFirstFault kind props (NoSuchProperty name)
IsFault kind props (BadValue name) = IsFirstFault kind props (BadValue name) ⊎ (AllTaken kind props × IsUnfit kind props name)
IsFault kind props NoSuchKind = ⊥
IsFault kind props OutOfMemory = Unit {0}

-- what comes of judging the given properties
abbrev pub IsJudged : Kind → List Prop → Result (Unit {0}) PropFault → Type 0
IsJudged kind props (Ok done) = AllTaken kind props
IsJudged kind props (Err NoSuchKind) = ⊥
IsJudged kind props (Err (NoSuchProperty name)) = IsFirstFault kind props (NoSuchProperty name)
IsJudged kind props (Err (BadValue name)) = IsFirstFault kind props (BadValue name)
IsJudged kind props (Err OutOfMemory) = Unit {0}

-- the fault of a needed property that was not given
abbrev pub IsMissing : List ℕ → List Prop → PropFault → Type 0
IsMissing one props (BadValue name) = (last_value one props ≡ None) × (name ≡ one)
IsMissing one props OutOfMemory = Unit {0}
IsMissing one props NoSuchKind = ⊥
IsMissing one props (NoSuchProperty name) = ⊥

-- the fault of a ramp that ends too late
abbrev pub IsLateFault : PropFault → Type 0
IsLateFault (BadValue name) = name ≡ codes "num-buffers"
IsLateFault OutOfMemory = Unit {0}
IsLateFault NoSuchKind = ⊥
IsLateFault (NoSuchProperty name) = ⊥

-- what properties that are all taken set an element to, or what is wrong with them
abbrev pub IsSettled : Kind → List Prop → Result Settings PropFault → Type 0
IsSettled kind props (Ok settings) = IsSetTo kind props settings
IsSettled kind props (Err (BadValue name)) = IsUnfit kind props name
IsSettled kind props (Err OutOfMemory) = Unit {0}
IsSettled kind props (Err NoSuchKind) = ⊥
IsSettled kind props (Err (NoSuchProperty name)) = ⊥

-- The answer for a kind and properties. Where there are settings, each property is taken.
abbrev pub IsKindAnswer : Kind → List Prop → Result Settings PropFault → Type 0
IsKindAnswer kind props (Ok settings) = AllTaken kind props × IsSetTo kind props settings
IsKindAnswer kind props (Err fault) = IsFault kind props fault

abbrev pub IsNoKind : Result Settings PropFault → Type 0
IsNoKind (Ok settings) = ⊥
IsNoKind (Err NoSuchKind) = Unit {0}
IsNoKind (Err OutOfMemory) = Unit {0}
IsNoKind (Err (NoSuchProperty name)) = ⊥
IsNoKind (Err (BadValue name)) = ⊥

abbrev pub IsAnswerFor : Option Kind → List Prop → Result Settings PropFault → Type 0
IsAnswerFor None props answer = IsNoKind answer
IsAnswerFor (Some kind) props answer = IsKindAnswer kind props answer

abbrev pub IsAnswer : List ℕ → List Prop → Result Settings PropFault → Type 0
IsAnswer kind props answer = IsAnswerFor (find_row kind kinds) props answer
