-- The pads of an element: how many there are, their names, and which a link can take.
use Rattle.std.specs.Prelude.{◌==◌, ℕ, suc, true, false, Bool, List, ◌++◌, Option, if◌then◌else◌, codes, bytes_eq, count_by, position}
use Rattle.std.specs.Fmt.{decimal}
use Rattle.std.specs.List.{range_with_len}
use Rattle.el_settings.specs.Asked.{makes_sinks, makes_sources, sink_pads, source_pads}
use Rattle.el_settings.specs.declared.settings.Settings.{Settings}
use Rattle.graph_pads.specs.declared.pad.Direction.{Direction}
use Rattle.graph_pads.specs.declared.pad.Direction.TheVariants.{Source, Sink}
use Rattle.graph_pads.specs.declared.pad.Pad.{Pad}
use Rattle.graph_pads.specs.declared.pad.PadLink.{PadLink}

-- how many pads of this direction an element has
abbrev pub pad_count : Direction → Settings → ℕ
pad_count Source settings = source_pads settings
pad_count Sink settings = sink_pads settings

-- whether each link makes a pad of this direction
abbrev pub makes : Direction → Settings → Bool
makes Source settings = makes_sources settings
makes Sink settings = makes_sinks settings

-- the element that a link leaves, or else the one that it comes to
abbrev pub end_element : Direction → PadLink → ℕ
end_element Source link = link.source.element
end_element Sink link = link.sink.element

-- how many links leave an element, or else come to it
abbrev pub links_at : List PadLink → Direction → ℕ → ℕ
links_at links direction element = count_by (λ link. end_element direction link == element) links

-- how many pads an element has once these links are made: those of its kind, or one for each link
abbrev pub pads_behind : List PadLink → Direction → ℕ → Settings → ℕ
pads_behind links direction element settings = if makes direction settings then links_at links direction element else pad_count direction settings

-- the name of a pad; those that links make are numbered
abbrev pub stem : Direction → List ℕ
stem Source = codes "src"
stem Sink = codes "sink"

abbrev pub pad_text : Direction → Settings → ℕ → List ℕ
pad_text direction settings number = if makes direction settings then stem direction ++ (codes "_" ++ decimal number) else stem direction

-- how many pads a link can take: those that are there, and the next one that it can make
abbrev pub takeable : List PadLink → Direction → ℕ → Settings → ℕ
takeable links direction element settings = if makes direction settings then suc (links_at links direction element) else pad_count direction settings

-- the number of the pad of this name that a link can take
abbrev pub pad_number : List PadLink → Direction → ℕ → Settings → List ℕ → Option ℕ
pad_number links direction element settings name =
    position (λ n. bytes_eq name (pad_text direction settings n)) (range_with_len 0 (takeable links direction element settings))

-- the number of the pad that a link takes by itself: the next one that it makes, or else the first
abbrev pub own_number : List PadLink → Direction → ℕ → Settings → ℕ
own_number links direction element settings = if makes direction settings then links_at links direction element else 0

abbrev pub pad_at : Direction → ℕ → ℕ → Pad
pad_at direction element number = record { direction = direction; place = record { element = element; pad = number } }

-- whether items come in at the pads of this direction
abbrev pub is_sink_pad : Direction → Bool
is_sink_pad Source = false
is_sink_pad Sink = true
