use Rattle.std.proofs.Common.{◌≡◌, ◌≤◌, ◌-◌, ◌+◌, drop, length}
use Rattle.gst_caps.specs.Accepts.{contains_given, each_at}
use Rattle.gst_caps.proofs.walk.all_given.Given as goal

abbrev pub invariant-loop-field : goal.invariant-loop-field
invariant-loop-field l = (each_at contains_given (drop l.field l.fields) (drop l.place l.given) ≡ each_at contains_given l.fields l.given) × (l.field ≤ length l.fields) × (l.place ≤ length l.given)

abbrev pub decreases-loop-field : goal.decreases-loop-field
decreases-loop-field l = (length l.fields - l.field) + (length l.given - l.place)
