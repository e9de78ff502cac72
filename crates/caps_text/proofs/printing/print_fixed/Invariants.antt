use Rattle.std.proofs.Common.{◌≡◌, ◌++◌, drop}
use Rattle.std.specs.List.{flat_map}
use Rattle.std.specs.String.{string_bytes}
use Rattle.caps_text.specs.Printed.{field_text, structure_text, typed_text}
use Rattle.caps_text.proofs.printing.print_fixed.Given as goal

abbrev pub invariant-loop-place : goal.invariant-loop-place
invariant-loop-place l = string_bytes l.into ++ flat_map (field_text typed_text) (drop l.place l.caps.fields) ≡ structure_text typed_text l.fn.caps
