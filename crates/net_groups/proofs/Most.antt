-- How many elements there are at the most in a task for which something is so.
use Rattle.std.proofs.Common.{◌≡◌, ◌<◌, ◌≤◌, ◌+◌, ℕ, List, length, Some, arith}
use Rattle.std.specs.Prelude.{slice_get}
use Rattle.lane_core.specs.declared.ends.Inlet as inlets
use Rattle.lane_core.specs.declared.ends.Outlet as outlets
use Rattle.flow_model.specs.declared.element.TaskElement as elements
use Rattle.flow_model.specs.declared.source.TaskSource as sources
use Rattle.net_task.specs.declared.task.Task.{Task}
use Rattle.net_groups.proofs.Lists.{before_all, before_next}

module _ {S E I O L : Type 0} {s : sources.Ghosts S} {e : elements.Ghosts E} {i : inlets.Ghosts I L O} {o : outlets.Ghosts O L} (Has : Task S E I O L s e i o → Type 0) (tasks : List (Task S E I O L s e i o)) where
  -- of those before a place
  abbrev pub MostBefore : ℕ → ℕ → Type 0
  MostBefore k most = (j : ℕ) (t : Task S E I O L s e i o) → j < k → slice_get tasks j ≡ Some t → Has t → length t.parts.items ≤ most

  pub most_next : (k : ℕ) (task : Task S E I O L s e i o) (most most' count : ℕ) → slice_get tasks k ≡ Some task → (Has task → length task.parts.items ≤ count) → most ≤ most' → count ≤ most' → MostBefore k most → MostBefore (k + 1) most'
  most_next k task most most' count at here a b before =
      before_next (λ (t : Task S E I O L s e i o). Has t → length t.parts.items ≤ most') tasks k task at (λ has. let few = here has in omega (arith, few, b))
      (λ j t less got has. let few = before j t less got has in omega (arith, few, a))

  -- of all
  pub most_all : (k most : ℕ) → length tasks ≤ k → MostBefore k most → (j : ℕ) (t : Task S E I O L s e i o) → slice_get tasks j ≡ Some t → Has t → length t.parts.items ≤ most
  most_all k most all before = before_all (λ (t : Task S E I O L s e i o). Has t → length t.parts.items ≤ most) tasks k all before
