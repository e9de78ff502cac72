use Rattle.std.proofs.Common.{◌≡◌, ◌≤◌, ◌+◌, ◌-◌, ◌++◌, false, length}
use Rattle.gst_caps.specs.Accepts.{merged}
use Rattle.gst_caps.specs.Passes.{fields_pass}
use Rattle.gst_caps.specs.Merge.{merged_from}
use Rattle.gst_caps.proofs.merge.merged_fields.Given as goal

abbrev pub invariant-loop-field : goal.invariant-loop-field
invariant-loop-field l = (l.made.items ++ merged_from l.field l.place l.fields l.others ≡ merged l.fields l.others) × (fields_pass l.made.items ≡ false) × (l.field ≤ length l.fields) × (l.place ≤ length l.others)

abbrev pub decreases-loop-field : goal.decreases-loop-field
decreases-loop-field l = (length l.fields - l.field) + (length l.others - l.place)
