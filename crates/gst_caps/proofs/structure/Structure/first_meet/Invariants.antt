use Rattle.std.proofs.Common.{◌≡◌, [], take}
use Rattle.std.specs.List.{filter_map}
use Rattle.gst_caps.specs.Accepts.{meet}
use Rattle.gst_caps.proofs.structure.Structure.first_meet.Given as goal

abbrev pub invariant-loop-other : goal.invariant-loop-other
invariant-loop-other l = filter_map (meet l.self) (take l.other-index l.others) ≡ []
