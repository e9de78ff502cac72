-- The pads that the ends of a link take.
use Rattle.std.specs.Prelude.{◌≡◌, ◌⊎◌, ◌==◌, ℕ, List, [], ◌++◌, Option, None, Some, Result, Ok, Err, MatchOption, if◌then◌else◌, codes, nat_lt, slice_get, position}
use Rattle.std.specs.Option.{option_map, option_map_or}
use denote.Bor.{Bor}
use Rattle.gst_value.specs.declared.name.PadName.{PadName}
use Rattle.el_settings.specs.Asked.{HasPad}
use Rattle.graph_core.specs.Asked.{End, own, named}
use Rattle.graph_core.specs.Elements.{Made, is_named}
use Rattle.graph_core.specs.declared.fault.BuildFault.{BuildFault}
use Rattle.graph_core.specs.declared.fault.BuildFault.TheVariants.{NoSuch, TooMany, OutOfMemory}
use Rattle.graph_core.specs.declared.fault.What.{What}
use Rattle.graph_core.specs.declared.fault.What.TheVariants.{Element, Pad as NoPad, SrcPad, SinkPad}
use Rattle.graph_pads.specs.Pads.{is_sink_pad, own_number, pad_at, pad_count, pad_number, pad_text, stem, takeable}
use Rattle.graph_pads.specs.declared.pad.Direction.{Direction}
use Rattle.graph_pads.specs.declared.pad.Direction.TheVariants.{Source, Sink}
use Rattle.graph_pads.specs.declared.pad.Pad.{Pad}
use Rattle.graph_pads.specs.declared.pad.PadLink.{PadLink}

abbrev pub missing : Direction → What
missing Source = SrcPad
missing Sink = SinkPad

-- the pad of a number; an element has 64 of a direction at most
abbrev pub pad_or_many : Direction → ℕ → ℕ → Result Pad BuildFault
pad_or_many direction element number = if nat_lt number 64 then Ok (pad_at direction element number) else Err (TooMany 65)

-- the element's name, a dot and the pad's
abbrev pub dotted : List ℕ → List ℕ → List ℕ
dotted element pad = (element ++ codes ".") ++ pad

-- the pad of this name, be it a source pad or a sink pad, or why there is none
abbrev pub named_pad : List PadLink → Made → ℕ → List ℕ → Result Pad BuildFault
named_pad links m element name =
    option_map_or (pad_or_many Source element) (pad_number links Source element m.settings name)
    (option_map_or (pad_or_many Sink element) (pad_number links Sink element m.settings name) (Err (NoSuch (dotted m.name name) NoPad)))

-- the pad that a link takes of an element: the one of this name, or else one of the wanted direction
abbrev pub taken_pad : List PadLink → Direction → Made → ℕ → Option (List ℕ) → Result Pad BuildFault
taken_pad links wanted m element wish =
    if takeable links wanted element m.settings == 0 then Err (NoSuch m.name (missing wanted))
    else option_map_or (named_pad links m element) wish (pad_or_many wanted element (own_number links wanted element m.settings))

-- the answer for the element of this number
abbrev pub IsPadOf : List Made → List PadLink → Direction → ℕ → Option (List ℕ) → Result Pad BuildFault → Type 0
IsPadOf made links wanted element wish answer = (m : Made) × (slice_get made element ≡ Some m) × (answer ≡ taken_pad links wanted m element wish)

-- the pad that an end of a link takes, or why it takes none
abbrev pub IsEndPad : List Made → List PadLink → Direction → End → Result Pad BuildFault → Type 0
IsEndPad made links wanted (own n) answer = IsPadOf made links wanted n None answer
IsEndPad made links wanted (named name wish) answer =
    MatchOption (position (is_named name) made) (answer ≡ Err (NoSuch name Element)) (λ n. IsPadOf made links wanted n wish answer)

-- the name of an element, where it is there
abbrev pub name_at : List Made → ℕ → List ℕ
name_at made element = option_map_or (λ (m : Made). m.name) (slice_get made element) []

abbrev pub pad_name : List Made → Pad → PadName
pad_name made pad =
    record {
      element = name_at made pad.place.element;
      pad = option_map_or (λ (m : Made). pad_text pad.direction m.settings pad.place.pad) (slice_get made pad.place.element) (stem pad.direction);
    }

-- the name of the pad that is wished
abbrev pub wish_of : Option (Bor (List ℕ)) → Option (List ℕ)
wish_of wish = option_map (λ name. name.now) wish

-- this answer, or memory is wanting
abbrev pub PadOrMemory : (Result Pad BuildFault → Type 0) → Result Pad BuildFault → Type 0
PadOrMemory Is answer = Is answer ⊎ (answer ≡ Err OutOfMemory)

-- the pad is one that its element has or can have
abbrev pub IsThere : List Made → Pad → Type 0
IsThere made pad = (m : Made) × (slice_get made pad.place.element ≡ Some m) × HasPad m.settings (is_sink_pad pad.direction) pad.place.pad

-- how many pads of a direction an element has, where it is there
abbrev pub pads_at : List Made → Direction → ℕ → ℕ
pads_at made direction element = option_map_or (λ (m : Made). pad_count direction m.settings) (slice_get made element) 0
