-- Turns, and how many are left.
use Rattle.std.proofs.Common.{◌≡◌, ◌<◌, ◌≤◌, ◌+◌, ◌%◌, ℕ, zero, suc, List, length, Option, Some, None, Bool, true, false, cond, eqb, refl, sym, ◌∙◌, subst, arith}
use Rattle.std.specs.Prelude.{Result, Ok, Err, IfOk, IfErr}
use Rattle.std.proofs.lemmas.Bool.{eq-eqb, ne_eqb, true≢false}
use Rattle.lane_core.specs.Lane.{Lane}
use Rattle.lane_core.specs.declared.ends.Inlet as inlets
use Rattle.lane_core.specs.declared.ends.Outlet as outlets
use Rattle.flow_model.specs.declared.element.TaskElement as elements
use Rattle.flow_model.specs.declared.source.TaskSource as sources
use Rattle.turn_order.specs.declared.order.Order.{Order}
use Rattle.turn_order.specs.declared.turns.Turns.{Turns}
use Rattle.turn_order.specs.Turns.{number_of, IsAmong}
use Rattle.task_parts.specs.declared.fault.TaskFault.{TaskFault}
use Rattle.task_parts.specs.declared.step.Step.{Step}
use Rattle.net_task.specs.declared.task.Task.{Task}
use Rattle.net_turns.specs.declared.net.Stopped.{Stopped}
use Rattle.net_turns.specs.Rests.{has_moved}
use Rattle.net_turns.specs.Turns.{AreTried, Burned, ByTurns, begun, turn, tries, HasAdvanced, HasCome, HasMet, HasMetTrying, IsStepped, RunBy, without, ended, at_turn, at_try, steps_left}

-- the next turn is the same among as many tasks
turn_same : (order : Order) (count count' n : ℕ) (turns : Turns) → count' ≡ count → IsAmong order count n turns → IsAmong order count' n turns
turn_same order count count' n turns e h = subst (λ (c : ℕ). IsAmong order c n turns) (sym e) h

-- how many turns in a row moved nothing, behind one more
pub idle_within : (moved : Bool) (after was : ℕ) → after ≡ cond moved 0 (was + 1) → was < 4096 → after ≤ 4096
idle_within true after was e w = omega (arith, e)
idle_within false after was e w = omega (arith, e, w)

pub less_left : (moved : Bool) (after was fuel left : ℕ) → after ≡ cond moved 0 (was + 1) → was < 4096 → Burned moved fuel left → steps_left left after < steps_left fuel was
less_left true after was fuel left e w b = omega (arith, e, w, b)
less_left false after was fuel left e w b = omega (arith, e, w, b)

module _ {S E I O L : Type 0} {s : sources.Ghosts S} {e : elements.Ghosts E} {i : inlets.Ghosts I L O} {o : outlets.Ghosts O L} where
  -- all were tried
  pub tried_all : (first is : List (Task S E I O L s e i o)) (told tells : Option (List Lane)) (place : ℕ) (moved : Bool) → place ≡ length first → AreTried first told place moved is tells
      → AreTried first told (length first) moved is tells
  tried_all first is told tells place moved same h = subst (λ (n : ℕ). AreTried first told n moved is tells) same h

  module _ (order : Order) (start : ℕ) (first : List (Task S E I O L s e i o)) (told : Option (List Lane)) where
    -- no turn was made yet
    pub come_first : (turns : Turns) (idle : ℕ) → idle ≡ 0 → IsAmong order (length first) start turns → HasCome order start first told turns idle first told
    come_first turns idle none next = record { number = start; next = next; run = subst (λ (j : ℕ). ByTurns order start first told start j first told) (sym none) begun }

    -- none was to be made
    pub run_without : (turns : Turns) → length first ≡ 0 → IsAmong order (length first) start turns → RunBy order start first told turns None first
    run_without turns none next = record { number = start; next = next; run = without none }

    -- one more was made
    pub come_turn : (was is : List (Task S E I O L s e i o)) (tells tells' : Option (List Lane)) (old new : Turns) (idle after : ℕ) (step : Step) (place : ℕ)
        → HasCome order start first told old idle was tells
        → 0 < length was → idle < 4096 → ((order : Order) (n : ℕ) → IsAmong order (length was) n old → place ≡ number_of order n % length was)
        → ((order : Order) (n : ℕ) → IsAmong order (length was) n old → IsAmong order (length was) (n + 1) new) → after ≡ cond (has_moved step) 0 (idle + 1) → length is ≡ length was
        → IsStepped place step was is tells tells' → HasCome order start first told new after is tells'
    come_turn was is tells tells' old new idle after step place h some few here more behind same stepped = record {
      number = h.number + 1;
      next = turn_same order (length was) (length is) (h.number + 1) new same (more order h.number h.next);
      run = subst (λ (j : ℕ). ByTurns order start first told (h.number + 1) j is tells') (sym behind)
          (turn h.number idle step was is tells tells' h.run some few (subst (λ (p : ℕ). IsStepped p step was is tells tells') (here order h.number h.next) stepped));
    }

    -- it met a fault
    pub come_stop : (was is : List (Task S E I O L s e i o)) (tells : Option (List Lane)) (old new : Turns) (idle : ℕ) (place : ℕ) (fault : TaskFault)
        → HasCome order start first told old idle was tells
        → 0 < length was → idle < 4096 → ((order : Order) (n : ℕ) → IsAmong order (length was) n old → place ≡ number_of order n % length was)
        → ((order : Order) (n : ℕ) → IsAmong order (length was) n old → IsAmong order (length was) (n + 1) new) → length is ≡ length was
        → HasMet place fault was is tells → RunBy order start first told new (Some fault) is
    come_stop was is tells old new idle place fault h some few here more same met = record {
      number = h.number + 1;
      next = turn_same order (length was) (length is) (h.number + 1) new same (more order h.number h.next);
      run = at_turn h.number idle fault was is tells h.run some few (subst (λ (p : ℕ). HasMet p fault was is tells) (here order h.number h.next) met);
    }

    -- each task was tried
    pub come_tries : (was is : List (Task S E I O L s e i o)) (tells tells' : Option (List Lane)) (turns : Turns) (idle after : ℕ) (moved : Bool)
        → HasCome order start first told turns idle was tells → idle ≡ 4096 → after ≡ 0
        → length is ≡ length was → AreTried was tells (length was) moved is tells' → HasAdvanced order start first told turns after moved is tells'
    come_tries was is tells tells' turns idle after true h full none same tried = record {
      number = h.number;
      next = turn_same order (length was) (length is) h.number turns same h.next;
      run = subst (λ (j : ℕ). ByTurns order start first told h.number j is tells') (sym none) (tries h.number was is tells tells' (subst (λ (j : ℕ). ByTurns order start first told h.number j was tells) full h.run) tried);
    }
    come_tries was is tells tells' turns idle after false h full none same tried = record {
      number = h.number;
      next = turn_same order (length was) (length is) h.number turns same h.next;
      run = ended h.number was is tells tells' (subst (λ (j : ℕ). ByTurns order start first told h.number j was tells) full h.run) tried;
    }

    -- one of them met a fault
    pub come_met : (was is : List (Task S E I O L s e i o)) (tells : Option (List Lane)) (turns : Turns) (idle : ℕ) (fault : TaskFault)
        → HasCome order start first told turns idle was tells → idle ≡ 4096 → length is ≡ length was
        → HasMetTrying fault was is tells → RunBy order start first told turns (Some fault) is
    come_met was is tells turns idle fault h full same met = record {
      number = h.number;
      next = turn_same order (length was) (length is) h.number turns same h.next;
      run = at_try h.number fault was is tells (subst (λ (j : ℕ). ByTurns order start first told h.number j was tells) full h.run) met;
    }

  module _ (was is : List (Task S E I O L s e i o)) (tells tells' : Option (List Lane)) (turns : Turns) (idle after : ℕ) (full : idle ≡ 4096) (none : after ≡ 0)
      (same : length is ≡ length was) where
    pub ok_tries : (r : Result Bool Stopped) → IfOk r (λ moved. AreTried was tells (length was) moved is tells')
        → IfOk r (λ more. (order : Order) (start : ℕ) (first : List (Task S E I O L s e i o)) (told : Option (List Lane)) → HasCome order start first told turns idle was tells → HasAdvanced order start first told turns after more is tells')
    ok_tries (Ok moved) tried = λ order start first told h. come_tries order start first told was is tells tells' turns idle after moved h full none same tried
    ok_tries (Err stop) tried = tt

    pub err_tries : (r : Result Bool Stopped) → IfErr r (λ stop. HasMetTrying stop.fault was is tells)
        → IfErr r (λ stop. (order : Order) (start : ℕ) (first : List (Task S E I O L s e i o)) (told : Option (List Lane)) → HasCome order start first told turns idle was tells → RunBy order start first told turns (Some stop.fault) is)
    err_tries (Ok moved) met = tt
    err_tries (Err stop) met = λ order start first told h. come_met order start first told was is tells turns idle stop.fault h full same met

-- a list that is empty, or is not
pub none_by : (n : ℕ) (b : Bool) → b ≡ eqb n 0 → b ≡ true → n ≡ 0
none_by zero b e is = refl
none_by (suc n) b e is = absurd (true≢false (sym is ∙ e ∙ ne_eqb (suc n) 0 (λ x. omega (arith, x))))

pub some_by : (n : ℕ) (b : Bool) → b ≡ eqb n 0 → b ≡ false → 0 < n
some_by zero b e is = absurd (true≢false (sym (eq-eqb 0 0 refl) ∙ sym e ∙ is))
some_by (suc n) b e is = omega arith
