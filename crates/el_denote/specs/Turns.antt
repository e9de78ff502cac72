-- In which order an element with several sink pads is given whole lists: section by section, and in each pad by pad.
use Rattle.std.specs.Prelude.{ℕ, zero, suc, List, [], ◌∷◌, ◌++◌, map, max, unwrap_or, Option, None, Some, if◌then◌else◌}
use Rattle.flow_model.specs.Item.{Item, Ev, FlushStop, is_flush_stop}
use Rattle.flow_model.specs.Section.{section, flush_stops}
use Rattle.flow_model.specs.Call.{Call, Feed}
use Rattle.flow_model.specs.SinkPads.{push_calls, push_each}
use Rattle.el_settings.specs.Values.{or_else}

-- A sink pad is given an item, or each of them a FLUSH_STOP.
pub data Turn : Type 0 where
  Give : (pad : ℕ) (item : Item) → Turn
  Flush : (number : ℕ) → Turn

-- what the sink pads were given then
abbrev pub turned : List (List Call) → Turn → List (List Call)
turned given (Give pad item) = push_calls pad (Feed item ∷ []) given
turned given (Flush number) = push_each (Feed (Ev (FlushStop number)) ∷ []) given

abbrev pub all_turned : List (List Call) → List Turn → List (List Call)
all_turned given [] = given
all_turned given (t ∷ ts) = all_turned (turned given t) ts

-- the number of the FLUSH_STOP that ends section j of a list
abbrev pub number_of : Item → ℕ
number_of (Ev (FlushStop number)) = number
number_of x = 0

abbrev pub stop_of : ℕ → List Item → Option ℕ
stop_of j [] = None
stop_of zero (x ∷ xs) = if is_flush_stop x then Some (number_of x) else stop_of zero xs
stop_of (suc j) (x ∷ xs) = if is_flush_stop x then stop_of j xs else stop_of (suc j) xs

-- A section of the lists ends where that of one of them ends, with the number of the lowest pad that has such a FLUSH_STOP.
abbrev pub lowest_stop : ℕ → List (List Item) → Option ℕ
lowest_stop j [] = None
lowest_stop j (xs ∷ xss) = or_else (stop_of j xs) (lowest_stop j xss)

abbrev pub stop_behind : ℕ → List (List Item) → ℕ
stop_behind j inputs = unwrap_or (lowest_stop j inputs) 0

-- the most FLUSH_STOPs that a list has
abbrev pub most_stops : List (List Item) → ℕ
most_stops [] = 0
most_stops (xs ∷ xss) = max (flush_stops xs) (most_stops xss)

-- the items of section j, pad by pad
abbrev pub section_turns : ℕ → ℕ → List (List Item) → List Turn
section_turns j pad [] = []
section_turns j pad (xs ∷ xss) = map (Give pad) (section j xs) ++ section_turns j (suc pad) xss

-- what comes before section j, and up to its end
abbrev pub turns_before : ℕ → List (List Item) → List Turn
turns_before zero inputs = []
turns_before (suc j) inputs = turns_before j inputs ++ (section_turns j 0 inputs ++ Flush (stop_behind j inputs) ∷ [])

abbrev pub turns_to : ℕ → List (List Item) → List Turn
turns_to j inputs = turns_before j inputs ++ section_turns j 0 inputs

-- what is owed in the sections before section j, each with the FLUSH_STOP that ends it
abbrev pub woven : (ℕ → List Item) → List (List Item) → ℕ → List Item
woven owed inputs zero = []
woven owed inputs (suc j) = woven owed inputs j ++ (owed j ++ Ev (FlushStop (stop_behind j inputs)) ∷ [])
