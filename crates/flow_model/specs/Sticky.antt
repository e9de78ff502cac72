-- Sticky events: what a pad's history leaves in force, found by going back over the list.
pub use Rattle.gst_item.specs.Sticky.{first_found, latest, has_flush_stop, since_flush_stop, InForce, in_force}
unfoldable pub use Rattle.gst_item.specs.Sticky.{stickies}
