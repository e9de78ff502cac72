-- Whether anything is left in the inlets of tasks, one after the other.
use Rattle.std.proofs.Common.{◌≡◌, ◌⊎◌, ◌↔◌, ◌<◌, ◌≤◌, ◌+◌, ℕ, Bool, true, false, IsTrue, List, [], Some, length, get_or, refl, sym, ap, ◌∙◌, subst, inl, inr, arith}
use Rattle.std.specs.Prelude.{slice_get}
use Rattle.std.proofs.lemmas.Bool.{cases_eq}
use Rattle.std.proofs.lemmas.Option.{slice_get-get_or, slice_get_within}
use Rattle.flow_model.specs.declared.element.TaskElement as elements
use Rattle.flow_model.specs.declared.source.TaskSource as givers
use Rattle.gst_value.proofs.Basics.{some_same}
use Rattle.inlet_row.specs.Row.{row_holds}
use Rattle.inlet_row.specs.declared.row.InletRow.{InletRow}
use Rattle.lane_core.specs.Lane.{Lane}
use Rattle.lane_core.specs.declared.ends.Inlet as inlets
use Rattle.lane_core.specs.declared.ends.Outlet as outlets
use Rattle.net_task.specs.declared.task.Task.{Task}
use Rattle.task_parts.specs.declared.head.Head.{Head}
use Rattle.task_parts.specs.declared.step.Step.{Step}
use Rattle.task_parts.specs.declared.step.Step.TheVariants.{Ended}
use Rattle.world_core.specs.Left.{HeadHoldsNothing, HoldNothing, RowsHoldNothing}

-- what stands at a place of a list
at_place : {A : Type 0} (xs : List A) (k : ℕ) (one d : A) → k < length xs → one ≡ get_or xs k d → slice_get xs k ≡ Some one
at_place {A = A} xs k one d w is = slice_get-get_or xs k d w ∙ ap (λ (x : A). Some x) (sym is)

false_true : {b : Bool} → b ≡ false → b ≡ true → ⊥
false_true e f = cc

-- a fact of each of the first that stand in a list
abbrev pub First : {A : Type 0} → (A → Type 0) → List A → ℕ → Type 0
First {A} P xs n = (k : ℕ) (x : A) → k < n → slice_get xs k ≡ Some x → P x

first_more : {A : Type 0} (P : A → Type 0) (xs : List A) (n : ℕ) (x : A) → slice_get xs n ≡ Some x → P x → First P xs n → First P xs (n + 1)
first_more P xs n x at holds before k y low there = by (cases_eq k n)
  where
    by : (k ≡ n) ⊎ (k ≡ n → ⊥) → P y
    by (inl same) = subst P (some_same (sym at ∙ ap (slice_get xs) (sym same) ∙ there)) holds
    by (inr other) = before k y (omega (arith, low, other)) there

module _ {I L O : Type 0} (i : inlets.Ghosts I L O) (t : List Lane) (rows : List (InletRow I)) (n : ℕ) where
  -- one row more holds nothing
  pub rows_more : (row : InletRow I) (b : Bool) → n < length rows → row ≡ get_or rows n row → (IsTrue b ↔ (row_holds i t row ≡ [])) → b ≡ true
      → First (λ (one : InletRow I). row_holds i t one ≡ []) rows n → First (λ (one : InletRow I). row_holds i t one ≡ []) rows (n + 1)
  rows_more row b low is told so before = first_more (λ (one : InletRow I). row_holds i t one ≡ []) rows n row (at_place rows n row row low is) (told.0 so) before

  -- one that holds something
  pub rows_not : (row : InletRow I) (b : Bool) → n < length rows → row ≡ get_or rows n row → (IsTrue b ↔ (row_holds i t row ≡ [])) → b ≡ false → RowsHoldNothing i t rows → ⊥
  rows_not row b low is told not_so all = false_true not_so (told.1 (all n row (at_place rows n row row low is)))

  pub rows_all : length rows ≤ n → First (λ (one : InletRow I). row_holds i t one ≡ []) rows n → RowsHoldNothing i t rows
  rows_all past first port row at = let within = slice_get_within rows port row at in first port row (omega (arith, within, past)) at

module _ {S E I O L : Type 0} {s : givers.Ghosts S} {e : elements.Ghosts E} (i : inlets.Ghosts I L O) {o : outlets.Ghosts O L} (t : List Lane) (tasks : List (Task S E I O L s e i o)) (steps : List Step) where
  -- the first tasks have ended, or nothing is left in their inlets
  abbrev pub FirstHoldNothing : ℕ → Type 0
  FirstHoldNothing n = (k : ℕ) (task : Task S E I O L s e i o) (step : Step) → k < n → slice_get tasks k ≡ Some task → slice_get steps k ≡ Some step → (step ≡ Ended) ⊎ HeadHoldsNothing i t task.head

  module _ (n : ℕ) (task : Task S E I O L s e i o) (head : Head S I O s) (d : Step) (b : Bool) (low : n < length tasks) (size : length steps ≡ length tasks) (is : task ≡ get_or tasks n task) (head_is : head ≡ task.head)
      (answer : IsTrue b ↔ ((get_or steps n d ≡ Ended) ⊎ HeadHoldsNothing i t head)) where
    told : IsTrue b ↔ ((get_or steps n d ≡ Ended) ⊎ HeadHoldsNothing i t task.head)
    told = subst (λ (h : Head S I O s). IsTrue b ↔ ((get_or steps n d ≡ Ended) ⊎ HeadHoldsNothing i t h)) head_is answer

    at : slice_get tasks n ≡ Some task
    at = at_place tasks n task task low is

    step_at : slice_get steps n ≡ Some (get_or steps n d)
    step_at = at_place steps n (get_or steps n d) d (omega (arith, low, size)) refl

    pub tasks_more : b ≡ true → FirstHoldNothing n → FirstHoldNothing (n + 1)
    tasks_more so before k other one within other_at one_at = by (cases_eq k n)
      where
        by : (k ≡ n) ⊎ (k ≡ n → ⊥) → (one ≡ Ended) ⊎ HeadHoldsNothing i t other.head
        by (inl same) =
            let task_is : task ≡ other = some_same (sym at ∙ ap (slice_get tasks) (sym same) ∙ other_at) in
            let step_is : get_or steps n d ≡ one = some_same (sym step_at ∙ ap (slice_get steps) (sym same) ∙ one_at) in
            subst (λ (x : Step). (x ≡ Ended) ⊎ HeadHoldsNothing i t other.head) step_is
            (subst (λ (x : Task S E I O L s e i o). (get_or steps n d ≡ Ended) ⊎ HeadHoldsNothing i t x.head) task_is (told.0 so))
        by (inr else) = before k other one (omega (arith, within, else)) other_at one_at

    pub tasks_not : b ≡ false → HoldNothing i t tasks steps → ⊥
    tasks_not not_so all = false_true not_so (told.1 (all n task (get_or steps n d) at step_at))

  pub tasks_all : (n : ℕ) → length tasks ≤ n → FirstHoldNothing n → HoldNothing i t tasks steps
  tasks_all n past first k task step at there = let within = slice_get_within tasks k task at in first k task step (omega (arith, within, past)) at there
