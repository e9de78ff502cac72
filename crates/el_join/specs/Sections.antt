-- Rules of elements with several sink pads: from the pads' lists of one section, section by section.
use Rattle.std.specs.Prelude.{ℕ, List, [], ◌∷◌, ◌++◌, map}
use Rattle.flow_model.specs.Item.{Item}
use Rattle.flow_model.specs.Section.{section, before_section, to_eos, counted}
use Rattle.flow_model.specs.Call.{Call, items}
use Rattle.flow_model.specs.SinkPads.{flush_stops_given}
use Rattle.flow_model.specs.Rule.{Rule}
use Rattle.flow_model.specs.Inherited.{inherited}

-- what a section inherits stands before its first item
abbrev pub with_inherited : List Item → List Item → List Item
with_inherited before [] = []
with_inherited before (x ∷ xs) = before ++ x ∷ xs

-- section j as it begins anew: with its first item come the STREAM_START, CAPS and TAG in force
abbrev pub reopened : ℕ → List Item → List Item
reopened j xs = with_inherited (inherited (counted (before_section j xs))) (to_eos (section j xs))

-- that of each sink pad
abbrev pub reopened_of : ℕ → List Call → List Item
reopened_of j calls = reopened j (items calls)

abbrev pub all_reopened : ℕ → List (List Call) → List (List Item)
all_reopened j took = map (reopened_of j) took

-- what an element with several sink pads owes for their lists of one section
abbrev pub Join : Type 0
Join = List (List Item) → List Item

-- each section by itself
abbrev pub by_sections : Join → Rule
by_sections join took port j = join (all_reopened j took)

-- the section that is open, by the first sink pad
abbrev pub open_section : List (List Call) → ℕ
open_section [] = 0
open_section (cs ∷ css) = flush_stops_given cs
