-- Tasks are bags of elements. What a task tells of its elements depends on them alone, so tasks may be split, joined and
-- run beside each other.
use Rattle.std.specs.Prelude.{◌≡◌, ℕ, Bool, true, false, List}
use Rattle.flow_model.specs.Item.{Item}
use Rattle.flow_model.specs.Call.{Call}
use Rattle.flow_model.specs.Prefix.{ArePrefixes}
use Rattle.flow_model.specs.Eval.{Plan, inputs}
use Rattle.flow_model.specs.Account.{EachSourceOf}
use Rattle.flow_model.specs.Moment.{Moment, PadStands}
use Rattle.flow_model.specs.Whole.{OwesInOrder, PadBegins, CellBegins, given_up}
use Rattle.flow_model.specs.Rule.{Answers}

-- An inner element, which pads of its own task feed, took all that it was given. Of its head a task knows only what it took.
abbrev pub IsGiven : Bool → Moment → ℕ → Type 0
IsGiven true m e = m.took e ≡ inputs m.plan m.history e
IsGiven false m e = Unit {0}

-- what is told of a pad where its task is well, and where the task met a fault
abbrev pub PadKept : Bool → Moment → ℕ → Type 0
PadKept true m p = PadStands m p
PadKept false m p = PadBegins m p

-- What a task by itself tells of one of its elements, where `mine` are its elements and `inner` the inner ones of them.
pub record CellKept (well : Bool) (mine : ℕ → Bool) (inner : ℕ → Bool) (m : Moment) (e : ℕ) : Type 0 where
  pub pads : (p : ℕ) → m.plan.owner p ≡ e → PadKept well m p
  pub input : IsGiven (inner e) m e
  -- the links of an inner element come from elements of the task
  pub near : inner e ≡ true → EachSourceOf (λ p. mine (m.plan.owner p) ≡ true) (m.plan.sinks e)
  pub in_order : OwesInOrder (m.plan.rule e) (m.took e)

-- What a task told of an element while it was well it tells behind a fault too, whatever it gave up.
abbrev pub FaultKept : Type 0
FaultKept = (mine inner : ℕ → Bool) (m : Moment) (e : ℕ) (waits : ℕ → List Item) (held : ℕ → List (List Call)) → CellKept true mine inner m e
    → CellKept false mine inner (given_up waits held m) e

-- Two moments agree on the elements of a task and their pads.
pub record AgreeOn (mine : ℕ → Bool) (m m' : Moment) : Type 0 where
  pub plan : m'.plan ≡ m.plan
  pub history : (p : ℕ) → mine (m.plan.owner p) ≡ true → m'.history p ≡ m.history p
  pub took : (e : ℕ) → mine e ≡ true → m'.took e ≡ m.took e
  pub waits : (p : ℕ) → mine (m.plan.owner p) ≡ true → m'.waits p ≡ m.waits p

-- What a task tells of its elements stays where a moment comes that agrees on them, whatever others did.
abbrev pub OthersMayMove : Type 0
OthersMayMove = (well : Bool) (mine inner : ℕ → Bool) (m m' : Moment) (e : ℕ) → mine e ≡ true → AgreeOn mine m m' → CellKept well mine inner m e
    → CellKept well mine inner m' e

-- the moment of all tasks: at each element and its pads that of its task
abbrev pub together : Plan → (ℕ → Answers) → (ℕ → ℕ) → (ℕ → Moment) → Moment
together plan answers task_of view =
    record {
      plan = plan;
      history = λ p. (view (task_of (plan.owner p))).history p;
      took = λ e. (view (task_of e)).took e;
      held = λ e. (view (task_of e)).held e;
      waits = λ p. (view (task_of (plan.owner p))).waits p;
      answers = answers;
    }

-- what the head of a task took begins what its links give
abbrev pub heads_begin : Bool → Moment → ℕ → Type 0
heads_begin true m e = Unit {0}
heads_begin false m e = ArePrefixes (m.took e) (inputs m.plan m.history e)

-- Tasks that ran beside each other make one moment: where each task keeps its elements, and the head of each took beginnings
-- of what its links give, what is needed of an element for the whole holds of it there.
abbrev pub TasksTogether : Type 0
TasksTogether = (plan : Plan) (answers : ℕ → Answers) (task_of : ℕ → ℕ) (well : ℕ → Bool) (inner : ℕ → Bool) (mine : ℕ → ℕ → Bool) (view : ℕ → Moment)
    → ((k e : ℕ) → mine k e ≡ true → task_of e ≡ k)
    → ((k : ℕ) → (view k).plan ≡ plan)
    → (e : ℕ) → mine (task_of e) e ≡ true → CellKept (well (task_of e)) (mine (task_of e)) inner (view (task_of e)) e
    → heads_begin (inner e) (together plan answers task_of view) e → CellBegins (together plan answers task_of view) e
