-- Whether the steps that tasks answered tell that their run is over, by the first of them.
use Rattle.std.proofs.Common.{◌≡◌, ◌<◌, ◌≤◌, ◌+◌, ℕ, Bool, true, false, ◌&&◌, not, List, [], ◌∷◌, ◌++◌, map, Some, length, get_or, refl, sym, ◌∙◌, ap, subst, ⊎_elim, arith}
use Rattle.std.specs.Prelude.{slice_get}
use Rattle.std.proofs.lemmas.Bool.{cases_eq}
use Rattle.std.specs.List.{range_with_len}
use Rattle.std.proofs.lemmas.List.FromFn.{map-range_with_len_more}
use Rattle.std.proofs.lemmas.Option.{slice_get-get_or, slice_get_within}
use Rattle.lane_core.specs.declared.ends.Inlet as inlets
use Rattle.lane_core.specs.declared.ends.Outlet as outlets
use Rattle.flow_model.specs.declared.element.TaskElement as elements
use Rattle.flow_model.specs.declared.source.TaskSource as givers
use Rattle.net_task.specs.Frame.{frame_of}
use Rattle.net_task.specs.declared.task.Task.{Task}
use Rattle.net_turns.specs.Ends.{TellsOver, head_number, is_idle}
use Rattle.task_parts.specs.declared.step.Step.{Step}
use Rattle.task_parts.specs.declared.step.Step.TheVariants as steps_of
use Rattle.world_core.specs.Stopped.{step_over}
use Rattle.gst_value.proofs.Basics.{some_same}
use Rattle.gst_value.proofs.Places.{found_at as got_within}

-- a step that lets the run be over leaves nothing that waits
calm : (live joins : ℕ → Bool) (head : ℕ) (step : Step) → step_over live joins head step ≡ true → is_idle step ≡ true
calm live joins head steps_of.Moved is = absurd (cc)
calm live joins head (steps_of.NeedsItem lane) is = refl
calm live joins head (steps_of.NeedsRoom lane) is = absurd (cc)
calm live joins head (steps_of.AtProbe command) is = absurd (cc)
calm live joins head steps_of.Ended is = refl

-- and where its head is live and joins streams it has ended
ended_at : (live joins : ℕ → Bool) (head : ℕ) (step : Step) → step_over live joins head step ≡ true → live head ≡ true → joins head ≡ true → step ≡ steps_of.Ended
ended_at live joins head steps_of.Moved is alive joining = absurd (cc)
ended_at live joins head (steps_of.NeedsItem lane) is alive joining = absurd (go (live head) (joins head) is alive joining)
  where
    go : (b d : Bool) → not (b && d) ≡ true → b ≡ true → d ≡ true → ⊥
    go true true is alive joining = cc
    go false d is alive joining = cc
    go true false is alive joining = cc
ended_at live joins head (steps_of.NeedsRoom lane) is alive joining = absurd (cc)
ended_at live joins head (steps_of.AtProbe command) is alive joining = absurd (cc)
ended_at live joins head steps_of.Ended is alive joining = refl

both : (b d : Bool) → not (b && d) ≡ false → (b ≡ true) × (d ≡ true)
both true true is = (refl, refl)
both true false is = absurd (cc)
both false d is = absurd (cc)

-- a step that does not let it be over has an item that waits, or wants one where its head is live and joins streams
pub data Lets (live joins : ℕ → Bool) (head : ℕ) (step : Step) : Type 0 where
  waits : is_idle step ≡ false → Lets live joins head step
  wants : (lane : ℕ) → step ≡ steps_of.NeedsItem lane → live head ≡ true → joins head ≡ true → Lets live joins head step

lets : (live joins : ℕ → Bool) (head : ℕ) (step : Step) → step_over live joins head step ≡ false → Lets live joins head step
lets live joins head steps_of.Moved is = waits refl
lets live joins head (steps_of.NeedsItem lane) is = let h = both (live head) (joins head) is in wants lane refl h.0 h.1
lets live joins head (steps_of.NeedsRoom lane) is = waits refl
lets live joins head (steps_of.AtProbe command) is = waits refl
lets live joins head steps_of.Ended is = absurd (cc)

pub false_true : {b : Bool} → b ≡ false → b ≡ true → ⊥
false_true e f = cc

not_ended : {lane : ℕ} → steps_of.NeedsItem lane ≡ steps_of.Ended → ⊥
not_ended e = cc

module _ {S E I O L : Type 0} {s : givers.Ghosts S} {e : elements.Ghosts E} {i : inlets.Ghosts I L O} {o : outlets.Ghosts O L}
    (live joins : ℕ → Bool) (tasks : List (Task S E I O L s e i o)) (steps : List Step) where
  -- the steps of the first tasks let the run be over
  abbrev pub LetOver : ℕ → Type 0
  LetOver n = (k : ℕ) (task : Task S E I O L s e i o) (step : Step) → k < n → slice_get tasks k ≡ Some task → slice_get steps k ≡ Some step
      → step_over live joins (head_number (frame_of task).head) step ≡ true

  pub over_more : (n : ℕ) (task : Task S E I O L s e i o) (step : Step) → LetOver n → slice_get tasks n ≡ Some task → slice_get steps n ≡ Some step
      → step_over live joins (head_number (frame_of task).head) step ≡ true → LetOver (n + 1)
  over_more n task step before at there lets k other one w other_at one_at = ⊎_elim here earlier (cases_eq k n)
    where
      here : k ≡ n → step_over live joins (head_number (frame_of other).head) one ≡ true
      here same =
          let task_is : task ≡ other = some_same (sym at ∙ ap (slice_get tasks) (sym same) ∙ other_at) in
          let step_is : step ≡ one = some_same (sym there ∙ ap (slice_get steps) (sym same) ∙ one_at) in
          subst (λ (x : Step). step_over live joins (head_number (frame_of other).head) x ≡ true) step_is
          (subst (λ (x : Task S E I O L s e i o). step_over live joins (head_number (frame_of x).head) step ≡ true) task_is lets)

      earlier : (k ≡ n → ⊥) → step_over live joins (head_number (frame_of other).head) one ≡ true
      earlier ne = before k other one (omega (arith, w, ne)) other_at one_at

  -- where those of all tasks do, they tell that it is over
  pub over_all : (n : ℕ) → length tasks ≤ n → length steps ≡ length tasks → LetOver n → TellsOver live joins tasks steps
  over_all n all same let_over = record {
    idle = λ k task step at there. calm live joins (head_number (frame_of task).head) step (lets_at k task step at there);
    ended = λ k task at alive joining.
        let within = slice_get_within tasks k task at in
        let step = got_within steps k (omega (arith, within, same)) in
        step.1 ∙ ap (λ (x : Step). Some x) (ended_at live joins (head_number (frame_of task).head) step.0 (lets_at k task step.0 at step.1) alive joining);
  }
    where
      lets_at : (k : ℕ) (task : Task S E I O L s e i o) (step : Step) → slice_get tasks k ≡ Some task → slice_get steps k ≡ Some step
          → step_over live joins (head_number (frame_of task).head) step ≡ true
      lets_at k task step at there = let within = slice_get_within tasks k task at in let_over k task step (omega (arith, within, all)) at there

  -- where one does not, they do not
  pub over_not : (k : ℕ) (task : Task S E I O L s e i o) (step : Step) → slice_get tasks k ≡ Some task → slice_get steps k ≡ Some step
      → step_over live joins (head_number (frame_of task).head) step ≡ false → TellsOver live joins tasks steps → ⊥
  over_not k task step at there is told = go (lets live joins (head_number (frame_of task).head) step is)
    where
      go : Lets live joins (head_number (frame_of task).head) step → ⊥
      go (waits idle) = false_true idle (told.idle k task step at there)
      go (wants lane same alive joining) = not_ended (sym same ∙ some_same (sym there ∙ told.ended k task at alive joining))

  -- what stands at a place of a list
  at_place : {A : Type 0} (xs : List A) (k : ℕ) (one d : A) → k < length xs → one ≡ get_or xs k d → slice_get xs k ≡ Some one
  at_place {A = A} xs k one d w is = slice_get-get_or xs k d w ∙ ap (λ (x : A). Some x) (sym is)

  -- the same, as the code asks
  pub more_here : (k : ℕ) (task : Task S E I O L s e i o) (head : ℕ) (d : Step) (b : Bool) → k < length tasks → length steps ≡ length tasks
      → task ≡ get_or tasks k task → head ≡ head_number (frame_of task).head → b ≡ step_over live joins head (get_or steps k d) → b ≡ true → LetOver k → LetOver (k + 1)
  more_here k task head d b w same is head_is told lets before =
      over_more k task (get_or steps k d) before (at_place tasks k task task w is) (slice_get-get_or steps k d (omega (arith, w, same)))
      (subst (λ (h : ℕ). step_over live joins h (get_or steps k d) ≡ true) head_is (sym told ∙ lets))

  pub not_here : (k : ℕ) (task : Task S E I O L s e i o) (head : ℕ) (d : Step) (b : Bool) → k < length tasks → length steps ≡ length tasks
      → task ≡ get_or tasks k task → head ≡ head_number (frame_of task).head → b ≡ step_over live joins head (get_or steps k d) → b ≡ false
      → TellsOver live joins tasks steps → ⊥
  not_here k task head d b w same is head_is told lets over =
      over_not k task (get_or steps k d) (at_place tasks k task task w is) (slice_get-get_or steps k d (omega (arith, w, same)))
      (subst (λ (h : ℕ). step_over live joins h (get_or steps k d) ≡ false) head_is (sym told ∙ lets)) over

-- a list of what is told of the first numbers, with one number more
pub told_more : {A : Type 0} (f : ℕ → A) (n : ℕ) (x : A) (was is : List A) → is ≡ was ++ x ∷ [] → x ≡ f n → was ≡ map f (range_with_len 0 n) → is ≡ map f (range_with_len 0 (n + 1))
told_more {A = A} f n x was is pushed told before =
    pushed ∙ ap (λ (xs : List A). xs ++ x ∷ []) before ∙ ap (λ (y : A). map f (range_with_len 0 n) ++ y ∷ []) told
    ∙ sym (map-range_with_len_more f 0 n n (let same : 0 + n ≡ n = omega arith in same))
