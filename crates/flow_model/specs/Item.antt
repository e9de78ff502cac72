-- Items: what crosses a source pad. The history of a pad is the list of the items that crossed it, and a place
-- on the pad is a number of them.
pub use Rattle.gst_item.specs.declared.item.Item.{Item}
pub use Rattle.gst_item.specs.declared.item.Item.TheVariants.{Buffer as Buf, Event as Ev}
pub use Rattle.gst_item.specs.declared.item.Event.{Event}
pub use Rattle.gst_item.specs.declared.item.Event.TheVariants.{StreamStart, Caps as NewCaps, Segment as NewSegment, Tag, Gap, FlushStop, Eos}
pub use Rattle.gst_item.specs.declared.item.Buffer.{Buffer}
pub use Rattle.gst_time.specs.declared.segment.Segment.{Segment}
pub use Rattle.gst_time.specs.declared.segment.Format.{Format}
pub use Rattle.gst_time.specs.declared.segment.Format.TheVariants.{Bytes, Time}
pub use Rattle.gst_item.specs.Item.{is_stream_start, is_caps, is_segment, is_tag, is_flush_stop, is_eos, eos_among, is_buffer, is_sticky, buffers, body_of}
