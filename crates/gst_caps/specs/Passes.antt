-- The limit of structures, fields of one and members of one list.
use Rattle.std.specs.Prelude.{ℕ, Bool, ◌||◌, List, length, nat_lt}
use Rattle.std.specs.List.{list_any}
use Rattle.gst_caps.specs.Common.{members}
use Rattle.gst_value.specs.Description.{Description}
use Rattle.gst_caps.specs.declared.value.Value.{Value}

-- whether fields, members of one or structures are more than 64
abbrev pub fields_pass : List (List ℕ × Value) → Bool
fields_pass fs = nat_lt 64 (length fs) || list_any (λ f. nat_lt 64 (length (members f.1))) fs

abbrev pub structures_pass : List (Description Value) → Bool
structures_pass ss = nat_lt 64 (length ss) || list_any (λ s. fields_pass s.fields) ss
