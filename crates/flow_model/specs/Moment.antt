-- A moment in the middle of a run, and what each element stands for there.
use Rattle.std.specs.Prelude.{◌≡◌, ℕ, ◌==◌, if◌then◌else◌, List}
use Rattle.flow_model.specs.Item.{Item}
use Rattle.flow_model.specs.Call.{Call}
use Rattle.flow_model.specs.Rule.{Owed, Rule, Answers}
use Rattle.flow_model.specs.Eval.{Plan, inputs}
use Rattle.flow_model.specs.Pad.{Holds}
use Rattle.flow_model.specs.Split.{AreSplit}
use Rattle.flow_model.specs.Standing.{AllStanding}

-- What an element does: what it owes for what it took, and what it answers to one item more.
pub record Behavior : Type 0 where
  pub owes : Rule
  pub answers : Answers

-- The middle of a run. Elements and source pads have the numbers that the graph gives them.
pub record Moment : Type 0 where
  -- the graph with all that was done to it so far; its counts are not looked at
  pub plan : Plan
  -- what has crossed each source pad
  pub history : ℕ → List Item
  -- what each element took, a list for each of its sink pads
  pub took : ℕ → List (List Call)
  -- what stands in the inlets of each element and was not taken; nothing where pads of its own task feed the element
  pub held : ℕ → List (List Call)
  -- what was put out at each source pad and has not crossed it; at a source's pad also what the source has yet to give
  pub waits : ℕ → List Item
  -- what each element answers; nothing changes it
  pub answers : ℕ → Answers

-- what an element does at a moment
abbrev pub behavior_at : Moment → ℕ → Behavior
behavior_at m n = record { owes = m.plan.rule n; answers = m.answers n }

-- what a source pad is owed for what its element took
abbrev pub owed_at : Moment → ℕ → Owed
owed_at m p = m.plan.rule (m.plan.owner p) (m.took (m.plan.owner p)) (m.plan.port p)

-- all that was put out at a source pad has crossed it or waits there
abbrev pub PadStands : Moment → ℕ → Type 0
PadStands m p = Holds 0 0 (m.plan.log p).cuts (owed_at m p) (m.history p) (m.waits p)

-- An element stands where all that it owes for what it took has crossed its source pads or waits there, all that its links
-- gave it was taken or stands in its inlets, and its links are in order.
pub record CellStands (m : Moment) (e : ℕ) : Type 0 where
  pub pads : (p : ℕ) → m.plan.owner p ≡ e → PadStands m p
  pub input : AreSplit (m.took e) (m.held e) (inputs m.plan m.history e)
  pub standing : AllStanding m.history (m.plan.sinks e)

-- Each element that stands at a moment stands at the next.
abbrev pub Keeps : Moment → Moment → Type 0
Keeps m m' = (e : ℕ) → CellStands m e → CellStands m' e

-- a function with another value at one number
abbrev pub put_at : {A : Type 0} → ℕ → A → (ℕ → A) → ℕ → A
put_at n a f k = if k == n then a else f k
