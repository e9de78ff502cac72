-- Links between pads, with the numbers of GStreamer's GstPadLinkReturn.
use Rattle.std.specs.Prelude.{ℕ, ℤ, pos, negsuc, Bool, true, false, if◌then◌else◌, Option, None, Some}
use Rattle.pad_core.specs.declared.linking.LinkReturn.{LinkReturn}
use Rattle.pad_core.specs.declared.linking.LinkReturn.TheVariants.{Ok as Linked, WrongHierarchy, WasLinked, WrongDirection, NoFormat, NoSched, Refused}
use Rattle.pad_core.specs.Crossing.{PadState}
use Rattle.pad_core.specs.SinkPad.{SinkState}

-- `negsuc n` is -(n + 1)
abbrev pub code_of : LinkReturn → ℤ
code_of Linked = pos 0
code_of WrongHierarchy = negsuc 0
code_of WasLinked = negsuc 1
code_of WrongDirection = negsuc 2
code_of NoFormat = negsuc 3
code_of NoSched = negsuc 4
code_of Refused = negsuc 5

abbrev pub has_peer : Option ℕ → Bool
has_peer None = false
has_peer (Some peer) = true

-- a pad has one link at most, and the two need common caps
abbrev pub link_answer : Bool → Bool → LinkReturn
link_answer linked common = if linked then WasLinked else (if common then Linked else NoFormat)

-- the two pads behind an answer
abbrev pub src_behind : LinkReturn → SinkState → PadState → PadState
src_behind Linked sink src = record src { peer = Some sink.number }
src_behind _ sink src = src

abbrev pub sink_behind : LinkReturn → PadState → SinkState → SinkState
sink_behind Linked src sink = record sink { peer = Some src.number }
sink_behind _ src sink = sink
