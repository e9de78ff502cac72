use Rattle.std.proofs.Common.{◌≡◌, None, take}
use Rattle.gst_caps.specs.Accepts.{value_at}
use Rattle.caps_text.proofs.structures.has_field.Given as goal

abbrev pub invariant-loop-place : goal.invariant-loop-place
invariant-loop-place l = value_at l.name (take l.place l.structure.fields) ≡ None
