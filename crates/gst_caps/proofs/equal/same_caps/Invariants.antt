use Rattle.std.proofs.Common.{◌≡◌, drop}
use Rattle.std.specs.Cmp.Lexicographic.{pointwise}
use Rattle.gst_caps.specs.Same.{same_field}
use Rattle.gst_caps.proofs.equal.same_caps.Given as goal

abbrev pub invariant-loop-place : goal.invariant-loop-place
invariant-loop-place l = pointwise same_field l.one.fields l.other.fields ≡ pointwise same_field (drop l.place l.one.fields) (drop l.place l.other.fields)
