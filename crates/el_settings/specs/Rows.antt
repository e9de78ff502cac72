-- The properties of each kind of element, with their values.
use Rattle.std.specs.Prelude.{◌≡◌, ◌≤◌, ◌==◌, ◌&&◌, ◌||◌, ℕ, Bool, true, not, List, [], ◌∷◌, Option, None, Some, if◌then◌else◌, is_some, codes, length, nat_lt, bytes_eq}
use Rattle.std.specs.List.{list_all}
use Rattle.gst_caps.specs.declared.caps.Caps.{Caps}
use Rattle.audio_info.specs.declared.sample.Sample.{Sample}
use Rattle.audio_info.specs.declared.sample.Sample.TheVariants.{S8, U8, S16LE, S16BE, S24LE, S32LE}
use Rattle.caps_text.specs.Grammar.{IsCapsText}
use Rattle.el_settings.specs.declared.kind.Kind.{Kind}
use Rattle.el_settings.specs.declared.kind.Kind.TheVariants.{FileSrc, RampTestSrc, Identity, CapsFilter, Valve, Queue, Tee, AudioConvert, Law, RawAudioParse, AudioBufferSplit, WavParse, WavEnc, Interleave, Concat, FileSink, FakeSink}
use Rattle.el_settings.specs.declared.domain.Domain.{Domain}
use Rattle.el_settings.specs.declared.domain.Domain.TheVariants.{Name, Text, Number, Switch, Off, NotLeaky, Format, Caps as CapsTexts}
use Rattle.el_settings.specs.Numbers.{IsNumber}

-- the row of a name in a table
abbrev pub find_row : {V : Type 0} → List ℕ → List (List ℕ × V) → Option V
find_row name [] = None
find_row name (row ∷ rows) = if bytes_eq name row.0 then Some row.1 else find_row name rows

abbrev pub own_rows : Kind → List (List ℕ × Domain)
own_rows FileSrc = (codes "location", Text) ∷ (codes "blocksize", Number 1 1048576) ∷ []
own_rows RampTestSrc =
    (codes "num-buffers", Number 0 1000000) ∷ (codes "samplesperbuffer", Number 1 65536) ∷ (codes "rate", Number 1 768000)
    ∷ (codes "channels", Number 1 64) ∷ (codes "gap-every", Number 0 1000000) ∷ (codes "title", Text) ∷ []
own_rows Identity = []
own_rows CapsFilter = (codes "caps", CapsTexts) ∷ []
own_rows Valve = (codes "drop", Switch) ∷ []
own_rows Queue =
    (codes "max-size-buffers", Number 0 4294967295) ∷ (codes "max-size-bytes", Number 0 4294967295) ∷ (codes "max-size-time", Number 0 9223372036854775807)
    ∷ (codes "leaky", NotLeaky) ∷ []
own_rows Tee = []
own_rows AudioConvert = []
own_rows (Law kind) = []
own_rows RawAudioParse = (codes "pcm-format", Format) ∷ (codes "sample-rate", Number 1 768000) ∷ (codes "num-channels", Number 1 64) ∷ []
own_rows AudioBufferSplit = (codes "frames", Number 1 1000000) ∷ []
own_rows WavParse = []
own_rows WavEnc = []
own_rows Interleave = []
own_rows Concat = []
own_rows FileSink = (codes "location", Text) ∷ (codes "keep-flushed", Switch) ∷ (codes "sync", Off) ∷ []
own_rows FakeSink = (codes "sync", Off) ∷ []

-- every element takes a name
abbrev pub domain_named : Kind → List ℕ → Option Domain
domain_named kind name = find_row name ((codes "name", Name) ∷ own_rows kind)

-- letters, digits, - and _
abbrev pub is_name_byte : ℕ → Bool
is_name_byte b = (nat_lt 96 b && nat_lt b 123) || (nat_lt 64 b && nat_lt b 91) || (nat_lt 47 b && nat_lt b 58) || (b == 45) || (b == 95)

abbrev pub is_name : List ℕ → Bool
is_name text = not (length text == 0) && list_all is_name_byte text

abbrev pub spells_true : List ℕ → Bool
spells_true text = bytes_eq text (codes "true") || bytes_eq text (codes "yes") || bytes_eq text (codes "1")

abbrev pub spells_false : List ℕ → Bool
spells_false text = bytes_eq text (codes "false") || bytes_eq text (codes "no") || bytes_eq text (codes "0")

-- the formats of raw audio, by how a parser of it is told them
abbrev pub formats : List (List ℕ × Sample)
formats =
    (codes "s8", S8) ∷ (codes "u8", U8) ∷ (codes "s16le", S16LE) ∷ (codes "s16be", S16BE) ∷ (codes "s24le", S24LE) ∷ (codes "s32le", S32LE) ∷ []

-- which texts are values
abbrev pub InDomain : Domain → List ℕ → Type 0
InDomain Name text = is_name text ≡ true
InDomain Text text = Unit {0}
InDomain (Number least most) text = (n : ℕ) × IsNumber text n × (least ≤ n) × (n ≤ most)
InDomain Switch text = (spells_true text || spells_false text) ≡ true
InDomain Off text = spells_false text ≡ true
InDomain NotLeaky text = (bytes_eq text (codes "no") || bytes_eq text (codes "0")) ≡ true
InDomain Format text = is_some (find_row text formats) ≡ true
InDomain CapsTexts text = (caps : Caps) × IsCapsText text caps
