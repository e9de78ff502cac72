use Rattle.gst_caps.proofs.Meeting.{met_whole}
use Rattle.gst_caps.proofs.structure.Structure.fixed_meet.Goals as goal

pub from_parts-requires : goal.from_parts-requires
from_parts-requires c =
    met_whole _ _ _ _ c.args.self.now c.args.other.now c.entries.ensures.well_formed c.entries-2.ensures.well_formed c.requires c.entries.ensures.entries c.entries-2.ensures.entries c.in_ok-fields.ensures
