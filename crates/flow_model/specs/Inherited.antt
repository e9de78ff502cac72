-- What stays in force from an earlier pad or section on: the events of a stream without its SEGMENT.
use Rattle.std.specs.Prelude.{Bool, true, if◌then◌else◌, List, ◌++◌, ℕ, [], ◌∷◌, Option, None, Some}
use Rattle.flow_model.specs.Item.{Event, Ev, is_stream_start, is_caps, is_tag, Item, StreamStart, NewCaps, Tag}
use Rattle.flow_model.specs.Sticky.{latest}
use Rattle.gst_value.specs.Description.{Description}
use Rattle.gst_value.specs.declared.one.One.{One}

-- STREAM_START, CAPS or TAG
abbrev pub is_inherited : Event → Bool
is_inherited event = if is_stream_start (Ev event) then true else (if is_caps (Ev event) then true else is_tag (Ev event))

-- what a section inherits: the STREAM_START, CAPS and TAG in force
abbrev pub inherited : List Item → List Item
inherited h = latest is_stream_start h ++ (latest is_caps h ++ latest is_tag h)

-- the events in force, each a list of at most one
abbrev pub start_event : Option ℕ → List Item
start_event None = []
start_event (Some id) = Ev (StreamStart id) ∷ []

abbrev pub caps_event : Option (Description One) → List Item
caps_event None = []
caps_event (Some caps) = Ev (NewCaps caps) ∷ []

abbrev pub tag_event : Option (List ℕ) → List Item
tag_event None = []
tag_event (Some title) = Ev (Tag title) ∷ []
