-- The numbers of a graph's source pads.
use Rattle.std.specs.Prelude.{◌<◌, ◌%◌, ℕ, Bool, List, [], if◌then◌else◌, length, nat_lt}
use Rattle.flow_model.specs.Item.{Item}
use Rattle.graph_core.specs.Elements.{Made}
use Rattle.graph_pads.specs.declared.pad.PadPlace.{PadPlace}
use Rattle.graph_core.specs.GraphPlan.{most_pads, owner_of}
use Rattle.graph_parts.specs.Links.{source_count}

-- a source pad that is there
abbrev pub IsThere : List Made → PadPlace → Type 0
IsThere made place = place.pad < source_count made place.element

-- whether a number is that of a source pad of the graph
abbrev pub is_pad : List Made → ℕ → Bool
is_pad made p = nat_lt (p % most_pads) (source_count made (owner_of p))

-- the element of a source pad; a number without a pad belongs to a number past all elements
abbrev pub pad_owner : List Made → ℕ → ℕ
pad_owner made p = if is_pad made p then owner_of p else length made

-- what crossed the source pads of the graph, and nothing at other numbers
abbrev pub at_pads : List Made → (ℕ → List Item) → ℕ → List Item
at_pads made h p = if is_pad made p then h p else []
