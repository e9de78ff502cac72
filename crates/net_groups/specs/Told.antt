-- What speaks against a split and against a join where the tasks are as the moment of a run tells them.
use Rattle.std.specs.Prelude.{◌⊎◌, ℕ, List, Option}
use Rattle.lane_core.specs.Lane.{Lane}
use Rattle.lane_core.specs.declared.ends.Inlet as inlets
use Rattle.lane_core.specs.declared.ends.Outlet as outlets
use Rattle.flow_model.specs.declared.element.TaskElement as elements
use Rattle.flow_model.specs.declared.source.TaskSource as sources
use Rattle.net_task.specs.declared.task.Task.{Task}
use Rattle.net_turns.specs.Net.{NetReady}
use Rattle.net_groups.specs.Joined.{CannotJoin, IsApart, IsUnfed}
use Rattle.net_groups.specs.Places.{FedAt, IsPartOf, PadOf}
use Rattle.net_groups.specs.Splits.{CannotSplit, IsTreeIn, NamesBehind}

module _ {S E I O L : Type 0} (s : sources.Ghosts S) (e : elements.Ghosts E) (i : inlets.Ghosts I L O) (o : outlets.Ghosts O L) where
  -- Where what is behind an element is a tree, no task has the element or its head names what is behind it.
  abbrev pub TreesSplit : Type 0
  TreesSplit = (tasks : List (Task S E I O L s e i o)) (n : ℕ) → IsTreeIn tasks n → CannotSplit tasks n
      → ((k : ℕ) → IsPartOf tasks k n → ⊥) ⊎ ((k : ℕ) × NamesBehind tasks k n)

  -- Where tasks are ready, the element is fed from nothing and the two are apart, there are no two tasks.
  abbrev pub UnfedJoin : Type 0
  UnfedJoin = (tasks : List (Task S E I O L s e i o)) (tells : Option (List Lane)) (pad n : ℕ) → NetReady tasks tells → IsUnfed tasks n → IsApart tasks pad n
      → CannotJoin tasks pad n
      → ((k : ℕ) → FedAt tasks k n → ⊥) ⊎ ((k : ℕ) → PadOf tasks k pad → ⊥) ⊎ ((k : ℕ) × FedAt tasks k n × PadOf tasks k pad)
