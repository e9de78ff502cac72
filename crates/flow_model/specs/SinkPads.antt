-- Lists for the sink pads of an element, one each: what each of them was given.
use Rattle.std.specs.Prelude.{◌≡◌, ℕ, zero, suc, List, [], ◌∷◌, ◌++◌, map, if◌then◌else◌}
use Rattle.flow_model.specs.Item.{is_flush_stop}
use Rattle.flow_model.specs.Call.{Call, Feed, Act}

-- what sink pad i was given
abbrev pub calls_at : ℕ → List (List Call) → List Call
calls_at i [] = []
calls_at zero (cs ∷ css) = cs
calls_at (suc i) (cs ∷ css) = calls_at i css

-- sink pad i has more
abbrev pub push_calls : ℕ → List Call → List (List Call) → List (List Call)
push_calls i cs [] = []
push_calls zero cs (ds ∷ dss) = (ds ++ cs) ∷ dss
push_calls (suc i) cs (ds ∷ dss) = ds ∷ push_calls i cs dss

-- each sink pad has the same more
abbrev pub push_each : List Call → List (List Call) → List (List Call)
push_each cs dss = map (λ ds. ds ++ cs) dss

-- how many FLUSH_STOPs a sink pad was given
abbrev pub flush_stops_given : List Call → ℕ
flush_stops_given [] = 0
flush_stops_given (Feed x ∷ cs) = if is_flush_stop x then suc (flush_stops_given cs) else flush_stops_given cs
flush_stops_given (Act mark ∷ cs) = flush_stops_given cs

-- each sink pad was given so many FLUSH_STOPs
abbrev pub InSection : ℕ → List (List Call) → Type 0
InSection n [] = Unit {0}
InSection n (cs ∷ css) = (flush_stops_given cs ≡ n) × InSection n css
