-- The rule of an element that mixes channels, after GStreamer's interleave: each sink pad is a channel of the output.
use Rattle.std.specs.Prelude.{ℕ, Bool, true, false, List, [], ◌∷◌, ◌++◌, Option, Some, None, if◌then◌else◌, length}
use Rattle.gst_value.specs.Description.{Description}
use Rattle.gst_value.specs.declared.one.One.{One}
use Rattle.audio_info.specs.Media.{caps_of}
use Rattle.flow_model.specs.Item.{Item, Ev, StreamStart, NewCaps, NewSegment, Eos, Segment, Time, is_segment, is_eos}
use Rattle.flow_model.specs.Source.{ordered_without_stop}
use Rattle.flow_model.specs.Rule.{Rule}
use Rattle.el_mix.specs.Reopened.{reopenings}
use Rattle.el_mix.specs.Mono.{mono_of}
use Rattle.el_mix.specs.Mixed.{has, mixed, lesser, limit, limit_by}
use Rattle.el_mix.specs.Agreed.{or_else, lowest_caps, all_agreed}

-- a pad has started where it had SEGMENT or EOS
abbrev pub is_start : Item → Bool
is_start x = if is_segment x then true else is_eos x

abbrev pub all_have : (Item → Bool) → List (List Item) → Bool
all_have test [] = true
all_have test (xs ∷ xss) = if has test xs then all_have test xss else false

-- the first id of a pad that stands before its start
abbrev pub id_in : Item → Option ℕ
id_in (Ev (StreamStart id)) = Some id
id_in _ = None

abbrev pub pad_id : List Item → Option ℕ
pad_id [] = None
pad_id (x ∷ xs) = if is_start x then None else or_else (id_in x) (pad_id xs)

-- the least of these ids
abbrev pub least : Option ℕ → Option ℕ → Option ℕ
least None o = o
least (Some n) o = Some (lesser n o)

abbrev pub least_id : List (List Item) → Option ℕ
least_id [] = None
least_id (xs ∷ xss) = least (pad_id xs) (least_id xss)

abbrev pub stream_start : List (List Item) → Item
stream_start xss = Ev (StreamStart (limit_by 0 (least_id xss)))

-- as many channels as pads
abbrev pub joined_caps : Description One → ℕ → Item
joined_caps caps channels = Ev (NewCaps (caps_of (mono_of caps).format (mono_of caps).rate channels))

abbrev pub from_zero : Segment
from_zero = record { format = Time; start = 0; stop = None; time = 0; base = 0; position = 0; ordered = ordered_without_stop 0 }

abbrev pub eos_if : Bool → List Item
eos_if b = if b then Ev Eos ∷ [] else []

-- What is owed once all pads have started: without CAPS nothing before all ended.
abbrev pub started : Option (Description One) → List (List Item) → List Item
started None xss = if all_have is_eos xss then stream_start xss ∷ Ev Eos ∷ [] else []
started (Some caps) xss =
    stream_start xss ∷ joined_caps caps (length xss) ∷ Ev (NewSegment from_zero)
    ∷ (mixed (mono_of caps) xss 0 0 (limit (mono_of caps) xss) ++ eos_if (all_have is_eos xss))

-- what is owed for what counts of the pads' lists
abbrev pub begun : List (List Item) → List Item
begun xss = if all_have is_start xss then started (lowest_caps xss) xss else []

-- What is owed for the lists of one section, of which counts what is not refused. An element without sink pads owes nothing.
abbrev pub interleaved : List (List Item) → List Item
interleaved [] = []
interleaved (xs ∷ xss) = begun (all_agreed (lowest_caps (xs ∷ xss)) (xs ∷ xss))

-- the rule: section by section, each of which begins anew
abbrev pub mixes : Rule
mixes inputs port j = interleaved (reopenings j inputs)
