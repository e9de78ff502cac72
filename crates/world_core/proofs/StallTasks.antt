-- What is told of tasks that cannot go on, task by task.
use Rattle.std.proofs.Common.{◌≡◌, ◌<◌, ◌≤◌, ◌+◌, ℕ, zero, suc, List, [], ◌∷◌, ◌++◌, Some, length, get_or, refl, sym, ap, ◌∙◌, ⊎_elim, arith}
use Rattle.std.specs.Prelude.{slice_get}
use Rattle.std.proofs.lemmas.Bool.{cases_eq}
use Rattle.std.proofs.lemmas.List.{length-append}
use Rattle.std.proofs.lemmas.Option.{slice_get-get_or, slice_get_within}
use Rattle.graph_core.specs.Elements.{Made}
use Rattle.lane_core.specs.declared.ends.Inlet as inlets
use Rattle.lane_core.specs.declared.ends.Outlet as outlets
use Rattle.flow_model.specs.declared.element.TaskElement as elements
use Rattle.flow_model.specs.declared.source.TaskSource as givers
use Rattle.net_task.specs.declared.task.Task.{Task}
use Rattle.run_report.specs.declared.report.StalledTask.{StalledTask}
use Rattle.task_parts.specs.declared.step.Step.{Step}
use Rattle.world_core.specs.Stalled.{TellsTasks, stalled_task}
use Rattle.gst_value.proofs.Basics.{some_same}
use Rattle.gst_value.proofs.Places.{get_last as last_at}

front_at : {A : Type 0} (xs ys : List A) (k : ℕ) → k < length xs → slice_get (xs ++ ys) k ≡ slice_get xs k
front_at [] ys k w = absurd (omega (arith, w))
front_at (x ∷ xs) ys zero w = refl
front_at (x ∷ xs) ys (suc k) w = front_at xs ys k (omega (arith, w))

module _ {S E I O L : Type 0} {s : givers.Ghosts S} {e : elements.Ghosts E} {i : inlets.Ghosts I L O} {o : outlets.Ghosts O L}
    (made : List Made) (tasks : List (Task S E I O L s e i o)) (steps : List Step) where
  -- so much is told of the first tasks
  pub record ToldFirst (told : List StalledTask) (n : ℕ) : Type 0 where
    pub count : length told ≡ n
    pub each : (k : ℕ) (task : Task S E I O L s e i o) (step : Step) → k < n → slice_get tasks k ≡ Some task → slice_get steps k ≡ Some step
        → slice_get told k ≡ Some (stalled_task made task step)

  pub told_none : (told : List StalledTask) → told ≡ [] → ToldFirst told 0
  told_none told none = record { count = ap length none; each = λ k task step w at there. absurd (omega (arith, w)) }

  -- one task more
  pub told_next : (n : ℕ) (task : Task S E I O L s e i o) (d : Step) (entry : StalledTask) (was is : List StalledTask) → n < length tasks → length steps ≡ length tasks
      → task ≡ get_or tasks n task → entry ≡ stalled_task made task (get_or steps n d) → is ≡ was ++ entry ∷ [] → ToldFirst was n → ToldFirst is (n + 1)
  told_next n task d entry was is w same own told pushed before = record {
    count =
        let size = ap length pushed in
        let whole = length-append was (entry ∷ []) in
        let first = before.count in
        omega (arith, size, whole, first);
    each = λ k other step less other_at step_at. ap (λ (xs : List StalledTask). slice_get xs k) pushed ∙ ⊎_elim (here k other step other_at step_at) (earlier k other step less other_at step_at) (cases_eq k n);
  }
    where
      here : (k : ℕ) (other : Task S E I O L s e i o) (step : Step) → slice_get tasks k ≡ Some other → slice_get steps k ≡ Some step → k ≡ n
          → slice_get (was ++ entry ∷ []) k ≡ Some (stalled_task made other step)
      here k other step other_at step_at at =
          let task_is : task ≡ other = some_same (sym (slice_get-get_or tasks n task w ∙ ap (λ (x : Task S E I O L s e i o). Some x) (sym own)) ∙ ap (slice_get tasks) (sym at) ∙ other_at) in
          let step_is : get_or steps n d ≡ step = some_same (sym (slice_get-get_or steps n d (omega (arith, w, same))) ∙ ap (slice_get steps) (sym at) ∙ step_at) in
          ap (slice_get (was ++ entry ∷ [])) (at ∙ sym before.count) ∙ last_at was entry
          ∙ ap (λ (x : StalledTask). Some x)
          (told ∙ ap (λ (x : Task S E I O L s e i o). stalled_task made x (get_or steps n d)) task_is ∙ ap (λ (x : Step). stalled_task made other x) step_is)

      earlier : (k : ℕ) (other : Task S E I O L s e i o) (step : Step) → k < n + 1 → slice_get tasks k ≡ Some other → slice_get steps k ≡ Some step → (k ≡ n → ⊥)
          → slice_get (was ++ entry ∷ []) k ≡ Some (stalled_task made other step)
      earlier k other step less other_at step_at ne =
          let first = before.count in
          front_at was (entry ∷ []) k (omega (arith, less, ne, first)) ∙ before.each k other step (omega (arith, less, ne)) other_at step_at

  -- all tasks
  pub told_all : (n : ℕ) (told : List StalledTask) → length tasks ≤ n → n ≤ length tasks → ToldFirst told n → TellsTasks made tasks steps told
  told_all n told most least first = record {
    count = let count = first.count in omega (arith, count, most, least);
    each = λ k task step at there. let within = slice_get_within tasks k task at in first.each k task step (omega (arith, within, most)) at there;
  }
