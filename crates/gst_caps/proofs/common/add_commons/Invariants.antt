use Rattle.std.proofs.Common.{◌≡◌, ◌≤◌, length, take}
use Rattle.std.specs.List.{filter_map}
use Rattle.gst_value.specs.Common.{common_one}
use Rattle.gst_value.specs.Kept.{kept}
use Rattle.gst_caps.proofs.common.add_commons.Given as goal

abbrev pub invariant-loop-other : goal.invariant-loop-other
invariant-loop-other l = (l.members.items ≡ kept l.fn.members.items (filter_map (common_one l.one) (take l.other-index l.others))) × (length l.members.items ≤ 64)
