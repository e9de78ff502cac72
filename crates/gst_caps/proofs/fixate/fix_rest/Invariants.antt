use Rattle.std.proofs.Common.{◌≡◌, ◌++◌, map, take}
use Rattle.gst_caps.specs.Merge.{fixed_field}
use Rattle.gst_caps.proofs.fixate.fix_rest.Given as goal

abbrev pub invariant-loop-field : goal.invariant-loop-field
invariant-loop-field l = l.made.items ≡ l.fn.made.items ++ map fixed_field (take l.field-index l.rest)
