-- Fields that are merged from places on.
use Rattle.std.specs.Prelude.{ℕ, ◌≤◌, List, drop, length}
use Rattle.gst_caps.specs.Accepts.{merged}
use Rattle.gst_caps.specs.Common.{least, members}
use Rattle.gst_value.specs.declared.one.One.{One}
use Rattle.gst_caps.specs.declared.value.Value.{Value}

-- a value with at most 64 members
abbrev pub IsShort : Value → Type 0
IsShort v = length (members v) ≤ 64

-- the fields from these places on, merged
abbrev pub merged_from : ℕ → ℕ → List (List ℕ × Value) → List (List ℕ × Value) → List (List ℕ × Value)
merged_from i j fs gs = merged (drop i fs) (drop j gs)

-- a field with the first of its list, or the least of its range
abbrev pub fixed_field : List ℕ × Value → List ℕ × One
fixed_field f = (f.0, least f.1)
