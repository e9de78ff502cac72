use Rattle.std.proofs.Common.{◌≡◌, ◌++◌, false, take}
use Rattle.gst_caps.specs.Passes.{fields_pass}
use Rattle.gst_caps.proofs.merge.add_rest.Given as goal

abbrev pub invariant-loop-field : goal.invariant-loop-field
invariant-loop-field l = (l.made.items ≡ l.fn.made.items ++ take l.field-index l.rest) × (fields_pass l.made.items ≡ false)
