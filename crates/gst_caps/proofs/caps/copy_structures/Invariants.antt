use Rattle.std.proofs.Common.{◌≡◌, take}
use Rattle.gst_caps.specs.Description.{IsStructure}
use Rattle.gst_value.specs.Names.{Each}
use Rattle.gst_caps.proofs.caps.copy_structures.Given as goal

abbrev pub invariant-loop-structure : goal.invariant-loop-structure
invariant-loop-structure l = (l.made ≡ take l.structure-index l.structures) × Each IsStructure (take l.structure-index l.structures)
