use Rattle.std.proofs.Common.{◌≡◌, ◌++◌, codes, drop}
use Rattle.std.specs.String.{string_bytes}
use Rattle.caps_text.specs.Printed.{joined_behind, structure_text, value_text}
use Rattle.caps_text.proofs.printing.put_structures.Given as goal

abbrev pub invariant-loop-other : goal.invariant-loop-other
invariant-loop-other l = string_bytes l.into ++ joined_behind (codes "; ") (structure_text value_text) (drop l.other-index l.others) ≡ string_bytes l.initial.into ++ joined_behind (codes "; ") (structure_text value_text) l.others
