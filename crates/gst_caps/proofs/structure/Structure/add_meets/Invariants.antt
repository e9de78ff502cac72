use Rattle.std.proofs.Common.{◌≡◌, ◌++◌, false, take}
use Rattle.std.specs.List.{filter_map}
use Rattle.gst_caps.specs.Accepts.{meet}
use Rattle.gst_caps.specs.Description.{IsStructure}
use Rattle.gst_value.specs.Names.{Each}
use Rattle.gst_caps.specs.Passes.{structures_pass}
use Rattle.gst_caps.proofs.structure.Structure.add_meets.Given as goal

abbrev pub invariant-loop-other : goal.invariant-loop-other
invariant-loop-other l = (l.made ≡ l.fn.made ++ filter_map (meet l.self) (take l.other-index l.others)) × (structures_pass l.made ≡ false) × Each IsStructure (take l.other-index l.others)
