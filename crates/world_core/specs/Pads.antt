-- The names of pads.
use Rattle.std.specs.Prelude.{ℕ, Bool, List, [], ◌++◌, codes, if◌then◌else◌, nat_lt, slice_get}
use Rattle.std.specs.Fmt.{decimal}
use Rattle.std.specs.Option.{option_map_or}
use Rattle.el_settings.specs.Asked.{makes_sinks, makes_sources}
use Rattle.gst_value.specs.declared.name.PadName.{PadName}
use Rattle.graph_core.specs.Elements.{Made}
use Rattle.graph_core.specs.Ends.{name_at}
use Rattle.graph_core.specs.GraphPlan.{sink_count}
use Rattle.graph_pads.specs.declared.pad.PadPlace.{PadPlace}
use Rattle.graph_parts.specs.MomentLaws.{place_of}
use Rattle.graph_parts.specs.Pads.{is_pad}

-- the name of a pad at its element: those that links make are numbered
abbrev pub pad_text : List ℕ → Bool → ℕ → List ℕ
pad_text stem made number = if made then stem ++ (codes "_" ++ decimal number) else stem

abbrev pub source_name : List Made → PadPlace → PadName
source_name made source =
    record {
      element = name_at made source.element;
      pad = option_map_or (λ (m : Made). pad_text (codes "src") (makes_sources m.settings) source.pad) (slice_get made source.element) (codes "src");
    }

abbrev pub sink_name : List Made → PadPlace → PadName
sink_name made sink =
    record {
      element = name_at made sink.element;
      pad = option_map_or (λ (m : Made). pad_text (codes "sink") (makes_sinks m.settings) sink.pad) (slice_get made sink.element) (codes "sink");
    }

-- the name of an element in place of that of a pad
abbrev pub no_pad : List Made → ℕ → PadName
no_pad made e = record { element = name_at made e; pad = [] }

-- what is told of the source pad of a number, and of a sink pad: its name, where it is there
abbrev pub source_pad : List Made → ℕ → PadName
source_pad made p = if is_pad made p then source_name made (place_of p) else no_pad made (place_of p).element

abbrev pub sink_pad : List Made → PadPlace → PadName
sink_pad made sink = if nat_lt sink.pad (sink_count (slice_get made sink.element)) then sink_name made sink else no_pad made sink.element
