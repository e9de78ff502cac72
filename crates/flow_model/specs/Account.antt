-- What each element can tell of its own lists, and when that makes the whole.
use Rattle.std.specs.Prelude.{◌≡◌, ℕ, suc, ◌-◌, ◌≤◌, ◌⊎◌, List, [], ◌∷◌, length}
use Rattle.flow_model.specs.Item.{Item}
use Rattle.flow_model.specs.Prefix.{IsPrefix}
use Rattle.flow_model.specs.Call.{Call}
use Rattle.flow_model.specs.Rule.{Owed}
use Rattle.flow_model.specs.Link.{Span, Linked, WasLinked, Flushed, Given}
use Rattle.flow_model.specs.Eval.{PadLog, Plan, cut_at, crossed, inputs}

-- no cut is past what is owed in its section
abbrev pub CutsWithin : ℕ → ℕ → List (ℕ × ℕ) → Owed → Type 0
CutsWithin base j [] owed = Unit {0}
CutsWithin base j (c ∷ cs) owed = (c.1 - base ≤ length (owed j)) × CutsWithin (suc c.1) (suc j) cs owed

-- A pad's history is what is owed, up to its cuts and its count.
pub record PadAccount (log : PadLog) (owed : Owed) (history : List Item) : Type 0 where
  pub is : history ≡ crossed log owed
  pub cuts : CutsWithin 0 0 log.cuts owed
  pub count : log.count ≤ length (cut_at 0 0 log.cuts owed)

-- Each pad of an element has crossed what the element owes for these lists.
abbrev pub Accounts : Plan → ℕ → List (List Call) → (ℕ → List Item) → Type 0
Accounts plan e fed h = (p : ℕ) → plan.owner p ≡ e → PadAccount (plan.log p) (plan.rule e fed (plan.port p)) (h p)

-- The pads of an element agree with the whole lists of its sink pads: there are beginnings of these lists,
-- for which less is owed, and for which the pads have crossed what is owed.
pub record Agrees (plan : Plan) (h : ℕ → List Item) (e : ℕ) : Type 0 where
  pub fed : List (List Call)
  pub begins : (p : ℕ) → plan.owner p ≡ e → (j : ℕ) → IsPrefix (plan.rule e fed (plan.port p) j) (plan.rule e (inputs plan h e) (plan.port p) j)
  pub accounts : Accounts plan e fed h

abbrev pub IsMember : ℕ → List ℕ → Type 0
IsMember e [] = ⊥
IsMember e (x ∷ xs) = (e ≡ x) ⊎ IsMember e xs

-- each source of a span, or of several
abbrev pub EachSource : (ℕ → Type 0) → List Span → Type 0
EachSource P [] = Unit {0}
EachSource P (Linked source from marks ∷ ss) = P source × EachSource P ss
EachSource P (WasLinked source from to eos marks ∷ ss) = P source × EachSource P ss
EachSource P (Flushed number ∷ ss) = EachSource P ss
EachSource P (Given calls ∷ ss) = EachSource P ss

abbrev pub EachSourceOf : (ℕ → Type 0) → List (List Span) → Type 0
EachSourceOf P [] = Unit {0}
EachSourceOf P (s ∷ ss) = EachSource P s × EachSourceOf P ss

-- each link comes from an element that stands earlier
abbrev pub GoesForward : Plan → List ℕ → List ℕ → Type 0
GoesForward plan seen [] = Unit {0}
GoesForward plan seen (e ∷ es) = EachSourceOf (λ p. IsMember (plan.owner p) seen) (plan.sinks e) × GoesForward plan (e ∷ seen) es

abbrev pub Each : (ℕ → Type 0) → List ℕ → Type 0
Each P [] = Unit {0}
Each P (e ∷ es) = P e × Each P es
