-- How a run by turns comes on.
use Rattle.std.proofs.Common.{◌≡◌, ◌<◌, ◌≤◌, ◌+◌, ◌%◌, ℕ, Bool, true, false, sym, subst, arith}
use Rattle.std.specs.Prelude.{Result, Ok, Err, IfOk, IfErr, if◌then◌else◌}
use Rattle.turn_order.specs.declared.order.Order.{Order}
use Rattle.turn_order.specs.declared.order.Order.TheVariants.{Listed, Drawn}
use Rattle.turn_order.specs.declared.turns.Turns.{Turns}
use Rattle.turn_order.specs.Turns.{IsAt, IsWithin, number_of}
use Rattle.turn_loop.specs.Come.{HasAdvanced, HasCome}
use Rattle.turn_loop.specs.Left.{Falls, turns_left}
use Rattle.turn_loop.specs.Turns.{ByTurns, GoesFrom, HasFailed, IsIdle, IsTurn}
use Rattle.turn_loop.specs.Turns.ByTurns.{act, begun, tries, turn}
use Rattle.turn_loop.specs.Turns.HasFailed.{acting, at_turn, trying}
use Rattle.turn_loop.specs.declared.taking.TakesTurns.{Ghosts}

-- the number before one within is within
within_before : (order : Order) (n : ℕ) → IsWithin order (n + 1) → IsWithin order n
within_before (Listed numbers) n within = omega (arith, within)
within_before (Drawn start) n within = within

pub idle_within : (moved : Bool) (after was : ℕ) → after ≡ (if moved then 0 else was + 1) → was < 4096 → after ≤ 4096
idle_within true after was is few = omega (arith, is)
idle_within false after was is few = omega (arith, is, few)

pub less_left : (moved : Bool) (after was before left : ℕ) → after ≡ (if moved then 0 else was + 1) → was < 4096 → Falls moved before left → turns_left left after < turns_left before was
less_left true after was before left is few falls = omega (arith, is, few, falls)
less_left false after was before left is few falls = omega (arith, is, few, falls)

module _ {T F : Type 0} (t : Ghosts T F) where
  -- each was tried
  pub come_tried : (r : Result Bool F) (was is : T) (turns : Turns) (idle : ℕ) → IfOk r (λ moved. t.tried moved was is) → IsIdle idle (t.count was)
      → IfOk r (λ more. (order : Order) (start : ℕ) (first : T) → t.waits was → HasCome t order start first turns idle was → HasAdvanced t more order start first turns 0 is)
  come_tried (Ok true) was is turns idle tried still = λ order start first waits come. record { number = come.number; next = come.next; run = tries come.number idle was is come.run waits still tried }
  come_tried (Ok false) was is turns idle tried still = λ order start first waits come. record { number = come.number; next = come.next; idle = idle; was = was; run = come.run; waits = waits; is_idle = still; tried = tried }
  come_tried (Err fault) was is turns idle tried still = tt

  pub failed_trying : (r : Result Bool F) (was is : T) (turns : Turns) (idle : ℕ) → IfErr r (λ fault. t.try_failed was is fault) → IsIdle idle (t.count was)
      → IfErr r (λ fault. (order : Order) (start : ℕ) (first : T) → t.waits was → HasCome t order start first turns idle was → HasFailed t order start first turns is fault)
  failed_trying (Ok moved) was is turns idle failed still = tt
  failed_trying (Err fault) was is turns idle failed still = λ order start first waits come. trying come.number idle was come.run come.next waits still failed

  module _ (old new : Turns) (count place : ℕ) (some : 0 < count) (within : place < count)
      (here : (order : Order) (n : ℕ) → IsAt order n old → place ≡ number_of order n % count)
      (more : (order : Order) (n : ℕ) → IsAt order n old → IsWithin order (n + 1) → IsAt order (n + 1) new) where
    is_turn : (order : Order) (n : ℕ) → GoesFrom order n old → IsTurn order n count place
    is_turn order n next = (within, λ w. here order n (next w))

    goes_on : (order : Order) (n : ℕ) → GoesFrom order n old → GoesFrom order (n + 1) new
    goes_on order n next = λ w. more order n (next (within_before order n w)) w

    -- one took its turn
    pub come_turn : (was is : T) (idle after : ℕ) (moved : Bool) → count ≡ t.count was → idle < 4096 → after ≡ (if moved then 0 else idle + 1) → t.stepped place moved was is
        → (order : Order) (start : ℕ) (first : T) → t.waits was → HasCome t order start first old idle was → HasCome t order start first new after is
    come_turn was is idle after moved same few behind stepped order start first waits come = record {
      number = come.number + 1;
      next = goes_on order come.number come.next;
      run = subst (λ (j : ℕ). ByTurns t order start first (come.number + 1) j is) (sym behind)
          (turn come.number idle place moved was is come.run waits few (subst (λ (c : ℕ). IsTurn order come.number c place) same (is_turn order come.number come.next)) stepped);
    }

    -- it met a fault
    pub failed_at : (was is : T) (idle : ℕ) (fault : F) → count ≡ t.count was → idle < 4096 → t.step_failed place was is fault
        → (order : Order) (start : ℕ) (first : T) → t.waits was → HasCome t order start first old idle was → HasFailed t order start first new is fault
    failed_at was is idle fault same few failed order start first waits come =
        at_turn come.number idle place was come.run (goes_on order come.number come.next) waits few (subst (λ (c : ℕ). IsTurn order come.number c place) same (is_turn order come.number come.next)) failed

  -- control did an act, or met a fault at it
  pub come_act : (was is : T) (turns : Turns) (idle : ℕ) → t.acted was is → (order : Order) (start : ℕ) (first : T) → HasCome t order start first turns idle was → HasCome t order start first turns 0 is
  come_act was is turns idle acted order start first come = record { number = come.number; next = come.next; run = act come.number idle was is come.run acted }

  pub failed_acting : (was is : T) (turns : Turns) (idle : ℕ) (fault : F) → t.act_failed was is fault → (order : Order) (start : ℕ) (first : T) → HasCome t order start first turns idle was
      → HasFailed t order start first turns is fault
  failed_acting was is turns idle fault failed order start first come = acting come.number idle was come.run come.next failed

  -- no turn was made yet
  pub come_first : (order : Order) (start : ℕ) (first : T) (turns : Turns) → GoesFrom order start turns → HasCome t order start first turns 0 first
  come_first order start first turns next = record { number = start; next = next; run = begun }
