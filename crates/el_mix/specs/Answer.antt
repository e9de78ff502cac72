-- What the rule answers to one item more on a pad, by what was given: what is owed for it, or why it is refused.
use Rattle.std.specs.Prelude.{ℕ, List, [], ◌∷◌, Option, Some, None, Result, Ok, Err, if◌then◌else◌, length, drop}
use Rattle.flow_model.specs.Item.{Item, is_buffer}
use Rattle.flow_model.specs.Sticky.{latest}
use Rattle.flow_model.specs.Call.{Call, Feed, items}
use Rattle.flow_model.specs.Rule.{Fault}
use Rattle.flow_model.specs.Feeding.{has_eos}
use Rattle.flow_model.specs.SinkPads.{push_calls, calls_at, flush_stops_given}
use Rattle.el_mix.specs.Reopened.{reopened, reopenings}
use Rattle.el_mix.specs.Agreed.{lowest_caps, first_refusal}
use Rattle.el_mix.specs.Mixes.{mixes}
use Rattle.flow_model.specs.Looking.{end_of}

abbrev pub reached : List Item → ℕ
reached owed = end_of (latest is_buffer owed)

-- what is owed more, where nothing is refused
abbrev pub more_or : Option Fault → List Item → List Item → Result (List Item) Fault
more_or None owed owed' = Ok (drop (length owed) owed')
more_or (Some fault) owed owed' = Err fault

-- The answer in section j: the inherited CAPS of the pad are judged with its first item. Behind EOS nothing is owed.
abbrev pub answer_in : ℕ → List (List Call) → List (List Call) → ℕ → Result (List Item) Fault
answer_in j inputs inputs' i =
    more_or (first_refusal (reached (mixes inputs 0 j)) (lowest_caps (reopenings j inputs')) [] (reopened j (items (calls_at i inputs'))))
    (mixes inputs 0 j) (mixes inputs' 0 j)

abbrev pub mix_answer : List (List Call) → ℕ → Item → Result (List Item) Fault
mix_answer inputs i x =
    if has_eos (calls_at i inputs) then Ok [] else answer_in (flush_stops_given (calls_at i inputs)) inputs (push_calls i (Feed x ∷ []) inputs) i
