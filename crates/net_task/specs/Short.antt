-- How what crossed a source's pad ends where the source can't be read.
use Rattle.std.specs.Prelude.{◌≡◌, ◌++◌, ℕ}
use Rattle.flow_model.specs.Moment.{Moment}
use Rattle.flow_model.specs.declared.refusal.Unread.{Unread}
use Rattle.flow_model.specs.Short.{StopsShort}

-- it ends short of what the source owes
abbrev pub CrossedShort : Moment → ℕ → Unread → Type 0
CrossedShort m n why = (p : ℕ) → m.plan.owner p ≡ n → StopsShort (m.history p ++ m.waits p) (m.history p) why
