-- From what is known of each element to the evaluation of the graph.
use Rattle.std.specs.Prelude.{◌≡◌, ℕ, List, [], length}
use Rattle.flow_model.specs.Item.{Item}
use Rattle.flow_model.specs.Prefix.{IsPrefix, ArePrefixes}
use Rattle.flow_model.specs.Call.{Call}
use Rattle.flow_model.specs.Rule.{Rule}
use Rattle.flow_model.specs.Eval.{Plan, inputs, eval, eval_whole}
use Rattle.flow_model.specs.Account.{GoesForward, IsMember, PadAccount}
use Rattle.flow_model.specs.Moment.{Moment, CellStands, owed_at}
use Rattle.flow_model.specs.Split.{AreEmpty}

-- the graph of a moment with its elements in an order and the moment's counts
abbrev pub counted : Moment → List ℕ → Plan
counted m forward = record m.plan { forward = forward; log = λ p. record { cuts = (m.plan.log p).cuts; count = length (m.history p) } }

-- what a rule owes for these lists begins what it owes for longer ones
abbrev pub OwesInOrder : Rule → List (List Call) → Type 0
OwesInOrder rule took = (whole : List (List Call)) → ArePrefixes took whole → (port j : ℕ) → IsPrefix (rule took port j) (rule whole port j)

-- What crossed a pad is what is owed to it, up to its cuts and its count. What waits there is not looked at.
abbrev pub PadBegins : Moment → ℕ → Type 0
PadBegins m p = PadAccount (record { cuts = (m.plan.log p).cuts; count = length (m.history p) }) (owed_at m p) (m.history p)

-- What is needed of an element for the whole, by turns or by threads, also behind a fault: what crossed its pads is what it
-- owes for what it took, up to cuts and counts, and it took beginnings of what its links give.
pub record CellBegins (m : Moment) (e : ℕ) : Type 0 where
  pub pads : (p : ℕ) → m.plan.owner p ≡ e → PadBegins m p
  pub begins : ArePrefixes (m.took e) (inputs m.plan m.history e)
  pub in_order : OwesInOrder (m.plan.rule e) (m.took e)

-- At any moment the histories are those of the evaluation, cut at their lengths.
abbrev pub MomentIsEval : Type 0
MomentIsEval = (m : Moment) (forward : List ℕ) → GoesForward m.plan [] forward → ((e : ℕ) → IsMember e forward → CellBegins m e)
    → (p : ℕ) → IsMember (m.plan.owner p) forward → eval (counted m forward) p ≡ m.history p

-- A moment behind a fault: some of what waited at pads or stood in inlets was given up, and this is left.
abbrev pub given_up : (ℕ → List Item) → (ℕ → List (List Call)) → Moment → Moment
given_up waits held m = record m { waits = waits; held = held }

-- Where an element stands, all that is needed of it is there.
abbrev pub StandingBegins : Type 0
StandingBegins = (m : Moment) (e : ℕ) → OwesInOrder (m.plan.rule e) (m.took e) → CellStands m e → CellBegins m e

-- The same behind a fault, whatever was given up.
abbrev pub FaultBegins : Type 0
FaultBegins = (m : Moment) (e : ℕ) (waits : ℕ → List Item) (held : ℕ → List (List Call)) → OwesInOrder (m.plan.rule e) (m.took e) → CellStands m e
    → CellBegins (given_up waits held m) e

-- So the histories are those of the evaluation there too.
abbrev pub FaultIsEval : Type 0
FaultIsEval = (m : Moment) (forward : List ℕ) (waits : ℕ → List Item) (held : ℕ → List (List Call)) → GoesForward m.plan [] forward
    → ((e : ℕ) → IsMember e forward → OwesInOrder (m.plan.rule e) (m.took e)) → ((e : ℕ) → IsMember e forward → CellStands m e)
    → (p : ℕ) → IsMember (m.plan.owner p) forward → eval (counted (given_up waits held m) forward) p ≡ m.history p

-- Nothing waits at a pad, and nothing stands in an inlet.
pub record IsOver (m : Moment) (forward : List ℕ) : Type 0 where
  pub idle : (p : ℕ) → IsMember (m.plan.owner p) forward → m.waits p ≡ []
  pub empty : (e : ℕ) → IsMember e forward → AreEmpty (m.held e)

-- The histories are whole, and each element, a sink too, took all that it is given in the evaluation.
pub record OverIsWhole (m : Moment) (forward : List ℕ) : Type 0 where
  pub whole : (p : ℕ) → IsMember (m.plan.owner p) forward → eval_whole (counted m forward) p ≡ m.history p
  pub inputs : (e : ℕ) → IsMember e forward → m.took e ≡ inputs m.plan (eval_whole (counted m forward)) e

-- That is so where a run is over.
abbrev pub EndIsWhole : Type 0
EndIsWhole = (m : Moment) (forward : List ℕ) → GoesForward m.plan [] forward → ((e : ℕ) → IsMember e forward → CellStands m e) → IsOver m forward
    → OverIsWhole m forward
