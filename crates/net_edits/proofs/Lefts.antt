-- How many items the tasks of a net can still move, where more stands behind a row.
use Rattle.std.proofs.Common.{◌≡◌, ◌+◌, ◌++◌, ℕ, zero, suc, List, [], ◌∷◌, Some, ap, ◌∙◌, arith}
use Rattle.std.specs.Prelude.{slice_get, slice_set, sum_by}
use Rattle.std.proofs.lemmas.List.Sums.{sum_by-cons}
use Rattle.gst_value.proofs.Basics.{some_same}
use Rattle.inlet_row.specs.Left.{left_in, row_left}
use Rattle.inlet_row.specs.declared.feeding.Feeding.{Feeding}
use Rattle.inlet_row.specs.declared.feeding.Feeding.TheVariants.{Given, Lane as OfLane}
use Rattle.inlet_row.specs.declared.row.InletRow.{InletRow}
use Rattle.lane_core.specs.declared.ends.Inlet as inlets
use Rattle.lane_core.specs.declared.ends.Outlet as outlets
use Rattle.flow_model.specs.declared.element.TaskElement as elements
use Rattle.flow_model.specs.declared.source.TaskSource as sources
use Rattle.task_parts.specs.declared.head.Head.{Head}
use Rattle.task_parts.specs.declared.part.Part.{Part}
use Rattle.net_task.specs.declared.task.Task.{Task}
use Rattle.net_task.specs.Fuel.{head_left, moves_left, part_left}
use Rattle.net_turns.specs.Turns.{net_left}
use Rattle.net_edits.specs.Over.{IsGrownAt, TaskGrew}

-- a sum of which one part is more now
sum_more : {A : Type 0} (f : A → ℕ) (xs : List A) (k : ℕ) (x y : A) (d : ℕ) → slice_get xs k ≡ Some x → f y ≡ f x + d → sum_by f (slice_set xs k y) ≡ sum_by f xs + d
sum_more f [] k x y d at more = absurd cc
sum_more f (z ∷ zs) zero x y d at more =
    let a = sum_by-cons f y zs in
    let b = sum_by-cons f z zs in
    let c = ap f (some_same at) in
    omega (arith, a, b, c, more)
sum_more f (z ∷ zs) (suc k) x y d at more =
    let a = sum_by-cons f z (slice_set zs k y) in
    let b = sum_by-cons f z zs in
    let c = sum_more f zs k x y d at more in
    omega (arith, a, b, c)

module _ {I L O : Type 0} (i : inlets.Ghosts I L O) where
  left_both : (front back : List (Feeding I)) → left_in i (front ++ back) ≡ left_in i front + left_in i back
  left_both [] back = omega arith
  left_both (Given x ∷ front) back = let r = left_both front back in omega (arith, r)
  left_both (OfLane number inlet ∷ front) back = let r = left_both front back in omega (arith, r)

module _ {S E I O L : Type 0} {s : sources.Ghosts S} {e : elements.Ghosts E} {i : inlets.Ghosts I L O} {o : outlets.Ghosts O L} where
  task_left : (was is : Task S E I O L s e i o) (port : ℕ) (more : List (Feeding I)) → TaskGrew was is port more → moves_left is ≡ moves_left was + left_in i more
  task_left was is port more g =
      let row : row_left i g.grew.grown ≡ row_left i g.grew.row + left_in i more = ap (left_in i) g.grew.feeds ∙ left_both i (g.grew.row.feeds.items) more in
      let rows = sum_more (λ (r : InletRow I). row_left i r) g.old.rows.items port g.grew.row g.grew.grown (left_in i more) g.grew.at row in
      let set = ap (λ (rs : List (InletRow I)). sum_by (λ (r : InletRow I). row_left i r) rs) g.grew.set in
      let old = ap (λ (h : Head S I O s). head_left i h) g.was_fed in
      let new = ap (λ (h : Head S I O s). head_left i h) g.fed in
      let parts = ap (λ (ps : List (Part E O e)). sum_by (λ part. part_left part) ps) g.parts in
      omega (arith, rows, set, old, new, parts)

  pub grown_left : (tasks tasks' : List (Task S E I O L s e i o)) (place port : ℕ) (more : List (Feeding I)) → IsGrownAt tasks tasks' place port more → net_left tasks' ≡ net_left tasks + left_in i more
  grown_left tasks tasks' place port more g =
      ap (λ (ts : List (Task S E I O L s e i o)). net_left ts) g.set ∙ sum_more (λ task. moves_left task) tasks place g.was g.is (left_in i more) g.at (task_left g.was g.is port more g.grew)
