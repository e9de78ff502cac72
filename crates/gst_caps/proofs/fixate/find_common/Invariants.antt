use Rattle.std.proofs.Common.{◌≡◌, [], take}
use Rattle.std.specs.List.{filter_map}
use Rattle.gst_value.specs.Common.{common_one}
use Rattle.gst_caps.proofs.fixate.find_common.Given as goal

abbrev pub invariant-loop-other : goal.invariant-loop-other
invariant-loop-other l = filter_map (common_one l.one) (take l.other-index l.others) ≡ []
