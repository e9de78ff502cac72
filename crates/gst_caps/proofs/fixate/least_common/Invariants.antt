use Rattle.std.proofs.Common.{◌≡◌, [], take}
use Rattle.gst_value.specs.Common.{commons}
use Rattle.gst_caps.proofs.fixate.least_common.Given as goal

abbrev pub invariant-loop-member : goal.invariant-loop-member
invariant-loop-member l = commons (take l.member-index l.member-items) l.others ≡ []
