use Rattle.std.proofs.Common.{◌≡◌, ◌<◌, false, take}
use Rattle.gst_caps.specs.Accepts.{all_meets}
use Rattle.gst_caps.specs.Description.{IsStructure}
use Rattle.gst_value.specs.Names.{Each}
use Rattle.gst_caps.specs.Passes.{structures_pass}
use Rattle.gst_caps.proofs.caps.all_meets.Given as goal

abbrev pub invariant-loop-one : goal.invariant-loop-one
invariant-loop-one l = (l.made ≡ all_meets (take l.one-index l.first) l.second) × (structures_pass l.made ≡ false) × Each IsStructure (take l.one-index l.first) × (0 < l.one-index → Each IsStructure l.second)
