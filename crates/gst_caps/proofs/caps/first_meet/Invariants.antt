use Rattle.std.proofs.Common.{◌≡◌, [], take}
use Rattle.gst_caps.specs.Accepts.{all_meets}
use Rattle.gst_caps.proofs.caps.first_meet.Given as goal

abbrev pub invariant-loop-one : goal.invariant-loop-one
invariant-loop-one l = all_meets (take l.one-index l.first) l.second ≡ []
