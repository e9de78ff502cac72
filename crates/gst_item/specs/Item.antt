-- Items: what crosses a source pad. The history of a pad is the list of the items that crossed it, and a place
-- on the pad is a number of them.
use Rattle.std.specs.Prelude.{Bool, true, false, ◌||◌, ℕ, List, count_by, fold, [], ◌∷◌}
pub use Rattle.gst_item.specs.declared.item.Item.{Item}
pub use Rattle.gst_item.specs.declared.item.Item.TheVariants.{Buffer as Buf, Event as Ev}
pub use Rattle.gst_item.specs.declared.item.Event.{Event}
pub use Rattle.gst_item.specs.declared.item.Event.TheVariants.{StreamStart, Caps as NewCaps, Segment as NewSegment, Tag, Gap, FlushStop, Eos}
pub use Rattle.gst_item.specs.declared.item.Buffer.{Buffer}
pub use Rattle.gst_time.specs.declared.segment.Segment.{Segment}
pub use Rattle.gst_time.specs.declared.segment.Format.{Format}
pub use Rattle.gst_time.specs.declared.segment.Format.TheVariants.{Bytes, Time}

abbrev pub is_stream_start : Item → Bool
is_stream_start (Ev (StreamStart id)) = true
is_stream_start _ = false

abbrev pub is_caps : Item → Bool
is_caps (Ev (NewCaps caps)) = true
is_caps _ = false

abbrev pub is_segment : Item → Bool
is_segment (Ev (NewSegment s)) = true
is_segment _ = false

abbrev pub is_tag : Item → Bool
is_tag (Ev (Tag title)) = true
is_tag _ = false

abbrev pub is_flush_stop : Item → Bool
is_flush_stop (Ev (FlushStop number)) = true
is_flush_stop _ = false

abbrev pub is_eos : Item → Bool
is_eos (Ev Eos) = true
is_eos _ = false

-- whether EOS is among items
abbrev pub eos_among : List Item → Bool
eos_among items = fold (λ eos x. eos || is_eos x) false items

abbrev pub is_buffer : Item → Bool
is_buffer (Buf b) = true
is_buffer _ = false

-- the events that stay in force on a pad: STREAM_START, CAPS, SEGMENT, TAG and EOS
abbrev pub is_sticky : Event → Bool
is_sticky (Gap pts duration) = false
is_sticky (FlushStop number) = false
is_sticky _ = true

-- how many buffers a history has
abbrev pub buffers : List Item → ℕ
buffers history = count_by is_buffer history

-- the bytes that an item carries: a buffer's body, and none of an event
abbrev pub body_of : Item → List ℕ
body_of (Buf b) = b.body
body_of (Ev e) = []

abbrev pub has_item : List Item → Bool
has_item [] = false
has_item (x ∷ xs) = true
