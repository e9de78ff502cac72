-- Sections that begin anew: each pad of a fan-in element keeps the STREAM_START, the CAPS and the TAG in force over a flush.
use Rattle.std.specs.Prelude.{ℕ, zero, suc, Bool, true, false, List, [], ◌∷◌, ◌++◌, if◌then◌else◌, map}
use Rattle.flow_model.specs.Item.{Item, is_flush_stop}
use Rattle.flow_model.specs.Call.{Call, items}
use Rattle.flow_model.specs.Section.{section, counted, before_section, to_eos}
use Rattle.flow_model.specs.Inherited.{inherited}

-- whether a list has come to section j
abbrev pub has_section : ℕ → List Item → Bool
has_section zero xs = true
has_section (suc j) [] = false
has_section (suc j) (x ∷ xs) = if is_flush_stop x then has_section j xs else has_section (suc j) xs

-- what counts of section j
abbrev pub counted_section : ℕ → List Item → List Item
counted_section j xs = to_eos (section j xs)

-- section j as it begins anew: first what it inherits, and then what counts of it
abbrev pub reopened : ℕ → List Item → List Item
reopened j xs = inherited (counted (before_section j xs)) ++ counted_section j xs

-- section j of each pad
abbrev pub reopenings : ℕ → List (List Call) → List (List Item)
reopenings j inputs = map (λ calls. reopened j (items calls)) inputs
