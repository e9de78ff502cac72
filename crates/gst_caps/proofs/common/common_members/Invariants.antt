use Rattle.std.proofs.Common.{◌≡◌, ◌≤◌, [], length, take}
use Rattle.gst_value.specs.Common.{commons}
use Rattle.gst_value.specs.Kept.{kept}
use Rattle.gst_caps.proofs.common.common_members.Given as goal

abbrev pub invariant-loop-member : goal.invariant-loop-member
invariant-loop-member l = (l.made.items ≡ kept [] (commons (take l.member-index l.member-items) l.others)) × (length l.made.items ≤ 64)
