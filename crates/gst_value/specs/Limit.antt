-- When an answer is `TooMany`.
use Rattle.std.specs.Prelude.{◌≡◌, ⊤, Result, Ok, Err}
use Rattle.gst_value.specs.declared.fault.CapsFault.{CapsFault}
use Rattle.gst_value.specs.declared.fault.CapsFault.TheVariants.{TooMany, OutOfMemory}

-- `TooMany` comes only where P holds, and its count is 65
abbrev pub IsFaultWhere : CapsFault → Type 0 → Type 0
IsFaultWhere (TooMany count) P = P × (count ≡ 65)
IsFaultWhere OutOfMemory P = ⊤

-- `TooMany` comes exactly where P holds, unless memory is wanting
abbrev pub TooManyWhere : {T : Type 0} → Result T CapsFault → Type 0 → Type 0
TooManyWhere (Ok made) P = ¬ P
TooManyWhere (Err fault) P = IsFaultWhere fault P
