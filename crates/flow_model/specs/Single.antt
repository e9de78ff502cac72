-- Elements with one sink pad: they meet what moves and a seek ask of a rule.
use Rattle.std.specs.Prelude.{◌≡◌, ℕ, List, [], ◌∷◌, ◌++◌, length}
use Rattle.flow_model.specs.Item.{Item, Ev, FlushStop}
use Rattle.flow_model.specs.Section.{flush_stops}
use Rattle.flow_model.specs.Call.{Call, Feed}
use Rattle.flow_model.specs.Rule.{Response, owed_for, single}
use Rattle.flow_model.specs.Pad.{Grows, Ends}
use Rattle.flow_model.specs.Whole.{OwesInOrder}

-- For what such an element took it owes a beginning of what it owes for more.
abbrev pub SingleInOrder : Type 0
SingleInOrder = (respond : Response) (took : List (List Call)) → OwesInOrder (single respond) took

-- What it puts out for more calls it owes more in the last section, where a cut stands for each FLUSH_STOP that it took.
abbrev pub SingleGrows : Type 0
SingleGrows = (respond : Response) (cuts : List (ℕ × ℕ)) (took calls : List Call) (out : List Item) → flush_stops (owed_for respond took) ≡ length cuts
    → flush_stops out ≡ 0 → owed_for respond (took ++ calls) ≡ owed_for respond took ++ out → (port : ℕ)
    → Grows 0 cuts (single respond (took ∷ []) port) (single respond ((took ++ calls) ∷ []) port) out

-- A flush ends its last section, where what was dropped counts as taken and has no FLUSH_STOP, and nothing is owed anew.
abbrev pub SingleEnds : Type 0
SingleEnds = (respond : Response) (cuts : List (ℕ × ℕ)) (took dropped : List Call) (k : ℕ) → flush_stops (owed_for respond took) ≡ length cuts
    → flush_stops (owed_for respond (took ++ dropped)) ≡ length cuts → (port : ℕ)
    → Ends 0 cuts (single respond (took ∷ []) port) (single respond (((took ++ dropped) ++ Feed (Ev (FlushStop k)) ∷ []) ∷ []) port) []
