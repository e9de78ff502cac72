-- The rule of an element that puts streams one behind the other, after GStreamer's concat.
use Rattle.std.specs.Prelude.{ℕ, Bool, true, false, List, [], ◌∷◌, ◌++◌, map, length, drop, Result, Ok, Err, if◌then◌else◌}
use Rattle.flow_model.specs.Item.{Item, Ev, Eos, is_eos}
use Rattle.flow_model.specs.Call.{Call, Feed}
use Rattle.flow_model.specs.Rule.{Rule, Fault}
use Rattle.flow_model.specs.SinkPads.{push_calls}
use Rattle.el_join.specs.declared.sums.Sums.{Sums}
use Rattle.el_join.specs.Totals.{no_sums, with_tally, tally_of, raised}
use Rattle.el_join.specs.Sections.{Join, by_sections, all_reopened, open_section}

-- a pad's items before its EOS, and whether it had one
abbrev pub before_eos : List Item → List Item
before_eos [] = []
before_eos (x ∷ xs) = if is_eos x then [] else x ∷ before_eos xs

abbrev pub has_end : List Item → Bool
has_end [] = false
has_end (x ∷ xs) = if is_eos x then true else has_end xs

-- what the earlier pads come to, with a pad more
abbrev pub behind : Sums → List Item → Sums
behind sums xs = with_tally sums (tally_of (before_eos xs))

-- The pads' items one behind the other, each as it goes out behind the earlier pads or the fault that it is. A pad
-- counts where each earlier one had EOS, and behind the last one's EOS comes EOS.
abbrev pub joined_from : Sums → List (List Item) → List (Result Item Fault)
joined_from sums [] = Ok (Ev Eos) ∷ []
joined_from sums (xs ∷ xss) = map (raised sums) (before_eos xs) ++ (if has_end xs then joined_from (behind sums xs) xss else [])

-- without pads there is nothing
abbrev pub joined : List (List Item) → List (Result Item Fault)
joined [] = []
joined (xs ∷ xss) = joined_from no_sums (xs ∷ xss)

-- what stands before the first fault
abbrev pub up_to_fault : List (Result Item Fault) → List Item
up_to_fault [] = []
up_to_fault (Ok x ∷ rs) = x ∷ up_to_fault rs
up_to_fault (Err fault ∷ rs) = []

-- all of them, or the first fault
abbrev pub in_front : Item → Result (List Item) Fault → Result (List Item) Fault
in_front x (Ok xs) = Ok (x ∷ xs)
in_front x (Err fault) = Err fault

abbrev pub all_or_fault : List (Result Item Fault) → Result (List Item) Fault
all_or_fault [] = Ok []
all_or_fault (Ok x ∷ rs) = in_front x (all_or_fault rs)
all_or_fault (Err fault ∷ rs) = Err fault

-- the rule
abbrev pub concat : Join
concat xss = up_to_fault (joined xss)

abbrev pub concat_rule : Rule
concat_rule = by_sections concat

-- what a sink pad's item more brings in the section that is open: what is owed more, or the first fault in it
abbrev pub joined_now : ℕ → List (List Call) → List (Result Item Fault)
joined_now j took = joined (all_reopened j took)

abbrev pub concat_answers : List (List Call) → ℕ → Item → Result (List Item) Fault
concat_answers took pad x =
    all_or_fault (drop (length (joined_now (open_section took) took)) (joined_now (open_section took) (push_calls pad (Feed x ∷ []) took)))
