-- What a command names, by the names that elements and pads of an edited graph have.
use Rattle.std.specs.Prelude.{false, ℕ, Bool, true, List, Option, None, Some, if◌then◌else◌, bytes_eq, is_some, option_and_then, position, slice_get}
use Rattle.std.specs.List.{list_all, range_with_len}
use Rattle.std.specs.Option.{option_map, option_map_or}
use Rattle.gst_value.specs.declared.name.PadName.{PadName}
use Rattle.el_settings.specs.Kinds.{kinds}
use Rattle.el_settings.specs.Rows.{domain_named, find_row}
use Rattle.gst_value.specs.declared.name.Prop.{Prop}
use Rattle.graph_core.specs.Elements.{Made, is_named}
use Rattle.graph_pads.specs.Links.{sink_behind}
use Rattle.graph_pads.specs.Pads.{pad_count, pad_text}
use Rattle.graph_pads.specs.declared.pad.Direction.{Direction}
use Rattle.graph_pads.specs.declared.pad.Direction.TheVariants.{Source, Sink}
use Rattle.graph_pads.specs.declared.pad.PadPlace.{PadPlace}
use Rattle.script_text.specs.declared.command.Act.{Act}
use Rattle.script_text.specs.declared.command.Act.TheVariants.{Relink, Unlink, Add, Remove}
use Rattle.script_text.specs.declared.command.When.{When}
use Rattle.script_text.specs.declared.command.When.TheVariants.{At, NowPad, Now}
use Rattle.graph_edits.specs.Edited.{Edited, is_there}

-- the element of this name, where it is there
abbrev pub element_named : Edited → List ℕ → Option ℕ
element_named g name = option_and_then (λ e. if is_there g e then Some e else None) (position (is_named name) g.made)

-- the pad of a name among those that an element has
abbrev pub pad_in : Direction → List ℕ → ℕ → Made → Option PadPlace
pad_in direction name e m =
    option_map (λ n. record { element = e; pad = n }) (position (λ n. bytes_eq name (pad_text direction m.settings n)) (range_with_len 0 (pad_count direction m.settings)))

abbrev pub pad_named : Direction → Edited → PadName → Option PadPlace
pad_named direction g name = option_and_then (λ e. option_and_then (pad_in direction name.pad e) (slice_get g.made e)) (element_named g name.element)

-- the source pad that a command names for its place
abbrev pub named_when : When → Option PadName
named_when (At pad buffers) = Some pad
named_when (NowPad pad) = Some pad
named_when Now = None

-- the source pad is there, where one is named
abbrev pub is_when_there : Edited → When → Bool
is_when_there g when = option_map_or (λ pad. is_some (pad_named Source g pad)) (named_when when) true

-- the source pad that is named, where it is there
abbrev pub source_when : Edited → When → Option PadPlace
source_when g when = option_and_then (pad_named Source g) (named_when when)

-- it has a link that can be undone
abbrev pub is_linked_when : Edited → When → Bool
is_linked_when g when = is_some (option_and_then (sink_behind g.links) (source_when g when))

-- the kind is there, and each property is one of its own
abbrev pub is_kind_there : List ℕ → List Prop → Bool
is_kind_there word props = option_map_or (λ kind. list_all (λ (prop : Prop). is_some (domain_named kind prop.name)) props) (find_row word kinds) false

-- what an act names is there
abbrev pub is_act_there : Edited → When → Act → Bool
is_act_there g when (Relink sink) = is_some (pad_named Sink g sink)
is_act_there g when (Unlink eos) = is_linked_when g when
is_act_there g when (Add kind props) = is_kind_there kind props
is_act_there g when (Remove element) = is_some (element_named g element)
