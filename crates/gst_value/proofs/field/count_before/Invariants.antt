use Rattle.std.proofs.Common.{length, ◌-◌, ◌≡◌, ◌≤◌, true, take}
use Rattle.gst_value.specs.Names.{Each, is_before}
use Rattle.gst_value.proofs.field.count_before.Given as goal

abbrev pub invariant-loop-place : goal.invariant-loop-place
invariant-loop-place g l = (l.place ≤ length l.fields) × Each (λ f. is_before f.0 l.name ≡ true) (take l.place l.fields)

abbrev pub decreases-loop-place : goal.decreases-loop-place
decreases-loop-place g l = length l.fields - l.place
