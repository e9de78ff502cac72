use Rattle.std.proofs.Common.{◌≡◌, take}
use Rattle.gst_value.proofs.fixed.copy_fields.Given as goal

abbrev pub invariant-loop-name : goal.invariant-loop-name
invariant-loop-name l = l.made.items ≡ take l.name-index l.fields
