-- The rule of an element that passes on the items of one of its sink pads, after GStreamer's input-selector.
use Rattle.std.specs.Prelude.{◌≡◌, ◌≤◌, ◌<◌, ℕ, List, [], ◌∷◌, ◌++◌, map, length, take, drop, slice_index, Ok}
use Rattle.flow_model.specs.Item.{Item}
use Rattle.flow_model.specs.Call.{Call, Feed, items}
use Rattle.flow_model.specs.Sticky.{stickies}
use Rattle.flow_model.specs.Section.{section, to_eos, counted, flush_stops}
use Rattle.flow_model.specs.Link.{between}
use Rattle.flow_model.specs.Rule.{Rule, Answers}
use Rattle.flow_model.specs.SinkPads.{calls_at, push_calls}
use Rattle.el_join.specs.Sections.{open_section}

-- A selection: a sink pad, and of each sink pad the place in its list up to which items were taken or dropped.
pub record Selection : Type 0 where
  pub pad : ℕ
  pub places : List ℕ

-- the pad that is active behind selections, where a pad is active before them
abbrev pub active_behind : ℕ → List Selection → ℕ
active_behind pad [] = pad
active_behind pad (s ∷ ss) = active_behind s.pad ss

-- the list of a sink pad
abbrev pub list_of : ℕ → List (List Call) → List Item
list_of pad took = items (calls_at pad took)

-- the sticky events in force behind so many items of a list
abbrev pub in_force_at : ℕ → List Item → List Item
in_force_at from xs = stickies (counted (take from xs))

-- What goes out from where a pad is selected at a place: the sticky events in force there, the pad's items from there to its place in
-- the next selection, and so on; behind the last selection all its items from there.
abbrev pub shown : ℕ → ℕ → List Selection → List (List Call) → List Item
shown pad from [] took = in_force_at from (list_of pad took) ++ drop from (list_of pad took)
shown pad from (s ∷ ss) took =
    in_force_at from (list_of pad took)
    ++ (between from (slice_index s.places pad) (list_of pad took) ++ shown s.pad (slice_index s.places s.pad) ss took)

-- The rule: the first sink pad is active at first, and in each section what goes out ends with its first EOS.
abbrev pub select_rule : List Selection → Rule
select_rule selections took port j = to_eos (section j (shown 0 0 selections took))

-- what a sink pad's item more brings in the section that is open
abbrev pub select_answers : List Selection → Answers
select_answers selections took pad x =
    let now = open_section took in
    Ok (drop (length (select_rule selections took 0 now)) (select_rule selections (push_calls pad (Feed x ∷ []) took) 0 now))

-- how long the list of each sink pad is: the places of a selection that is made now
abbrev pub lengths_of : List (List Call) → List ℕ
lengths_of took = map (λ (cs : List Call). length (items cs)) took

-- no place is past the end of its pad's list
abbrev pub AreWithin : List ℕ → List (List Call) → Type 0
AreWithin [] [] = Unit {0}
AreWithin [] (cs ∷ css) = ⊥
AreWithin (place ∷ places) [] = ⊥
AreWithin (place ∷ places) (cs ∷ css) = (place ≤ length (items cs)) × AreWithin places css

-- no place is before the earlier one of its pad
abbrev pub AreBehind : List ℕ → List ℕ → Type 0
AreBehind [] [] = Unit {0}
AreBehind [] (to ∷ behind) = ⊥
AreBehind (from ∷ before) [] = ⊥
AreBehind (from ∷ before) (to ∷ behind) = (from ≤ to) × AreBehind before behind

-- at these places each sink pad was in the same section
abbrev pub AreInSection : ℕ → List ℕ → List (List Call) → Type 0
AreInSection j [] css = Unit {0}
AreInSection j (place ∷ places) [] = ⊥
AreInSection j (place ∷ places) (cs ∷ css) = (flush_stops (take place (items cs)) ≡ j) × AreInSection j places css

-- A selection can have been made at its places, behind those of an earlier one: its pad is there, no place is before the earlier one
-- of its pad, and each pad was in the same section.
pub record IsMade (earlier : List ℕ) (s : Selection) (took : List (List Call)) : Type 0 where
  pub pad : s.pad < length took
  pub behind : AreBehind earlier s.places
  pub number : ℕ
  pub section : AreInSection number s.places took

-- Each of the selections can have been made, one behind the other, and the last within what the pads were given.
abbrev pub AreMade : List ℕ → List Selection → List (List Call) → Type 0
AreMade earlier [] took = AreWithin earlier took
AreMade earlier (s ∷ ss) took = IsMade earlier s took × AreMade s.places ss took

-- from the start on
abbrev pub AreSelections : List Selection → List (List Call) → Type 0
AreSelections selections took = AreMade (map (λ (cs : List Call). 0) took) selections took
