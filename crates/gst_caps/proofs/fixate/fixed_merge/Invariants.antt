use Rattle.std.proofs.Common.{◌≡◌, ◌≤◌, ◌+◌, ◌-◌, ◌++◌, map, length}
use Rattle.gst_caps.specs.Accepts.{merged}
use Rattle.gst_caps.specs.Merge.{fixed_field, merged_from}
use Rattle.gst_caps.proofs.fixate.fixed_merge.Given as goal

abbrev pub invariant-loop-field : goal.invariant-loop-field
invariant-loop-field l = (l.made.items ++ map fixed_field (merged_from l.field l.place l.fields l.others) ≡ map fixed_field (merged l.fields l.others)) × (l.field ≤ length l.fields) × (l.place ≤ length l.others)

abbrev pub decreases-loop-field : goal.decreases-loop-field
decreases-loop-field l = (length l.fields - l.field) + (length l.others - l.place)
