use Rattle.gst_caps.proofs.Meeting.{fixed_whole, takes_itself}
use Rattle.gst_caps.proofs.structure.Structure.fixate.Goals as goal

pub from_parts-requires : goal.from_parts-requires
from_parts-requires c = fixed_whole _ _ _ c.args.self.now c.entries.ensures.well_formed c.entries.ensures.entries c.in_ok-fields.ensures

pub returns-clause-member : goal.returns-clause-member
returns-clause-member c = takes_itself c.args.self.now c.entries.ensures.well_formed
