use Rattle.std.proofs.Common.{◌≡◌, ◌++◌, drop}
use Rattle.std.specs.List.{flat_map}
use Rattle.std.specs.String.{string_bytes}
use Rattle.caps_text.specs.Printed.{field_text, structure_text, value_text}
use Rattle.caps_text.proofs.printing.put_structure.Given as goal

abbrev pub invariant-loop-place : goal.invariant-loop-place
invariant-loop-place l = string_bytes l.into ++ flat_map (field_text value_text) (drop l.place l.structure.fields) ≡ string_bytes l.fn.into ++ structure_text value_text l.fn.structure
