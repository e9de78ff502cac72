-- What links between pads lead to, and whether two pads are linked or are of the wrong directions.
use Rattle.std.specs.Prelude.{◌==◌, ◌&&◌, ◌||◌, Bool, true, false, not, List, [], ◌∷◌, Option, None, Some, if◌then◌else◌, is_some}
use Rattle.graph_pads.specs.declared.pad.Direction.{Direction}
use Rattle.graph_pads.specs.declared.pad.Direction.TheVariants.{Source, Sink}
use Rattle.graph_pads.specs.declared.pad.Pad.{Pad}
use Rattle.graph_pads.specs.declared.pad.PadLink.{PadLink}
use Rattle.graph_pads.specs.declared.pad.PadPlace.{PadPlace}

abbrev pub is_same : PadPlace → PadPlace → Bool
is_same one other = (one.element == other.element) && (one.pad == other.pad)

-- the sink pad to which a source pad is linked
abbrev pub sink_behind : List PadLink → PadPlace → Option PadPlace
sink_behind [] source = None
sink_behind (link ∷ links) source = if is_same link.source source then Some link.sink else sink_behind links source

-- the source pad that is linked to a sink pad
abbrev pub source_before : List PadLink → PadPlace → Option PadPlace
source_before [] sink = None
source_before (link ∷ links) sink = if is_same link.sink sink then Some link.source else source_before links sink

abbrev pub is_linked : List PadLink → Pad → Pad → Bool
is_linked links left right = is_some (sink_behind links left.place) || is_some (source_before links right.place)

abbrev pub leaves : Direction → Bool
leaves Source = true
leaves Sink = false

-- a link goes from a source pad to a sink pad
abbrev pub is_wrong : Pad → Pad → Bool
is_wrong left right = not (leaves left.direction) || leaves right.direction
