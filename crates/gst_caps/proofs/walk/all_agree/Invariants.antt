use Rattle.std.proofs.Common.{◌≡◌, ◌≤◌, ◌-◌, ◌+◌, drop, length}
use Rattle.gst_caps.specs.Accepts.{agrees, each_at}
use Rattle.gst_caps.proofs.walk.all_agree.Given as goal

abbrev pub invariant-loop-field : goal.invariant-loop-field
invariant-loop-field l = (each_at agrees (drop l.field l.fields) (drop l.place l.others) ≡ each_at agrees l.fields l.others) × (l.field ≤ length l.fields) × (l.place ≤ length l.others)

abbrev pub decreases-loop-field : goal.decreases-loop-field
decreases-loop-field l = (length l.fields - l.field) + (length l.others - l.place)
