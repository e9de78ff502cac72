-- How the pads' lists and what is owed go on with one more item, and with a flush.
use Rattle.std.specs.Prelude.{◌≡◌, ◌<◌, ℕ, zero, suc, true, false, List, [], ◌∷◌, ◌++◌, length, drop, Ok, Err}
use Rattle.flow_model.specs.Item.{Item, Ev, FlushStop, is_flush_stop}
use Rattle.flow_model.specs.Call.{Call, Feed, items}
use Rattle.flow_model.specs.Rule.{Fault}
use Rattle.flow_model.specs.Feeding.{has_eos}
use Rattle.flow_model.specs.SinkPads.{push_calls, push_each, flush_stops_given, InSection}
use Rattle.el_mix.specs.Reopened.{reopened, reopenings}
use Rattle.el_mix.specs.Mixes.{mixes}
use Rattle.el_mix.specs.Order.{IsKnown, FedInOrder}
use Rattle.el_mix.specs.Answer.{mix_answer}

-- each pad below this one has CAPS or had EOS
abbrev pub BelowKnown : ℕ → List (List Item) → Type 0
BelowKnown i [] = Unit {0}
BelowKnown zero (xs ∷ xss) = Unit {0}
BelowKnown (suc i) (xs ∷ xss) = IsKnown xs × BelowKnown i xss

-- One more item on a pad stands at the end of what counts of the open section, and behind EOS it does not count.
pub record PadGoesOn : Type 0 where
  pub taken : (calls : List Call) (x : Item) → is_flush_stop x ≡ false → has_eos calls ≡ false
      → reopened (flush_stops_given calls) (items (calls ++ Feed x ∷ [])) ≡ reopened (flush_stops_given calls) (items calls) ++ x ∷ []
  pub behind : (calls : List Call) (x : Item) → is_flush_stop x ≡ false → has_eos calls ≡ true
      → reopened (flush_stops_given calls) (items (calls ++ Feed x ∷ [])) ≡ reopened (flush_stops_given calls) (items calls)

-- So the sections that are over stay, and in the open one more is owed.
pub record OwesMore : Type 0 where
  pub over : (inputs : List (List Call)) (i n j port : ℕ) (x : Item) → InSection n inputs → is_flush_stop x ≡ false → j < n
      → mixes (push_calls i (Feed x ∷ []) inputs) port j ≡ mixes inputs port j
  pub more : (inputs : List (List Call)) (i j port : ℕ) (x : Item) → FedInOrder inputs
      → mixes (push_calls i (Feed x ∷ []) inputs) port j
      ≡ mixes inputs port j ++ drop (length (mixes inputs port j)) (mixes (push_calls i (Feed x ∷ []) inputs) port j)

-- What is answered to an item is what is owed more in the open section.
abbrev pub AnswersOwe : Type 0
AnswersOwe = (inputs : List (List Call)) (i n port : ℕ) (x : Item) (ys : List Item) → InSection n inputs → is_flush_stop x ≡ false → i < length inputs
    → FedInOrder inputs → mix_answer inputs i x ≡ Ok ys → mixes (push_calls i (Feed x ∷ []) inputs) port n ≡ mixes inputs port n ++ ys

-- What is refused owes nothing.
abbrev pub RefusedOwes : Type 0
RefusedOwes = (inputs : List (List Call)) (i n port : ℕ) (x : Item) (fault : Fault) → InSection n inputs → is_flush_stop x ≡ false → i < length inputs
    → FedInOrder inputs → mix_answer inputs i x ≡ Err fault → mixes (push_calls i (Feed x ∷ []) inputs) port n ≡ mixes inputs port n

-- A flush ends the open section, whatever was dropped, and nothing is owed in the next.
pub record FlushEnds : Type 0 where
  pub over : (inputs : List (List Call)) (n j k port : ℕ) → InSection n inputs → j < suc n
      → mixes (push_each (Feed (Ev (FlushStop k)) ∷ []) inputs) port j ≡ mixes inputs port j
  pub nothing : (inputs : List (List Call)) (n k port : ℕ) → InSection n inputs
      → mixes (push_each (Feed (Ev (FlushStop k)) ∷ []) inputs) port (suc n) ≡ []

-- The order of feeding: at first, behind an item on a pad below which all pads are known, and behind a flush.
pub record KeepsOrder : Type 0 where
  pub fed : (inputs : List (List Call)) (i n : ℕ) (x : Item) → InSection n inputs → is_flush_stop x ≡ false → BelowKnown i (reopenings n inputs)
      → FedInOrder inputs → FedInOrder (push_calls i (Feed x ∷ []) inputs)
  pub flushed : (inputs : List (List Call)) (n k : ℕ) → InSection n inputs → FedInOrder (push_each (Feed (Ev (FlushStop k)) ∷ []) inputs)
