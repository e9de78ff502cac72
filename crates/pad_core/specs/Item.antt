-- Items: what crosses a pad.
pub use Rattle.gst_item.specs.declared.item.Item.{Item}
pub use Rattle.gst_item.specs.declared.item.Item.TheVariants.{Buffer as Buf, Event as Ev}
pub use Rattle.gst_item.specs.declared.item.Event.{Event}
pub use Rattle.gst_item.specs.declared.item.Event.TheVariants.{StreamStart, Caps as NewCaps, Segment as NewSegment, Tag, Gap, FlushStop, Eos}
pub use Rattle.gst_item.specs.declared.item.Buffer.{Buffer}
pub use Rattle.gst_item.specs.Item.{is_eos, is_flush_stop, is_buffer, is_sticky, buffers}
