-- What acts, turns and trials keep is so behind a run by turns.
use Rattle.std.proofs.Common.{ℕ, Bool, true, false}
use Rattle.turn_order.specs.declared.order.Order.{Order}
use Rattle.turn_order.specs.declared.turns.Turns.{Turns}
use Rattle.turn_loop.specs.Turns.{ByTurns, HasEnded, HasFailed}
use Rattle.turn_loop.specs.declared.taking.TakesTurns.{Ghosts}

module _ {T F : Type 0} (t : Ghosts T F) (P : T → Type 0) (acts : (was is : T) → P was → t.acted was is → P is)
    (turns : (was is : T) (place : ℕ) (moved : Bool) → P was → t.stepped place moved was is → P is) (trials : (was is : T) (moved : Bool) → P was → t.tried moved was is → P is) where
  stays : (order : Order) (start : ℕ) (first : T) (number idle : ℕ) (is : T) → P first → ByTurns t order start first number idle is → P is
  stays order start first _ _ _ p ByTurns.begun = p
  stays order start first _ _ _ p (ByTurns.act n idle was is run acted) = acts was is (stays order start first n idle was p run) acted
  stays order start first _ _ _ p (ByTurns.turn n idle place moved was is run waits few turn stepped) = turns was is place moved (stays order start first n idle was p run) stepped
  stays order start first _ _ _ p (ByTurns.tries n idle was is run waits still tried) = trials was is true (stays order start first n idle was p run) tried

-- so it is before the last trial of such a run
pub before_end : {T F : Type 0} {t : Ghosts T F} (order : Order) (start : ℕ) (first : T) (next : Turns) (last : T) → (over : HasEnded t order start first next last) → (P : T → Type 0)
    → (acts : (was is : T) → P was → t.acted was is → P is) → (turns : (was is : T) (place : ℕ) (moved : Bool) → P was → t.stepped place moved was is → P is)
    → (trials : (was is : T) (moved : Bool) → P was → t.tried moved was is → P is) → P first → P over.was
before_end {t = t} order start first next last over P acts turns trials p = stays t P acts turns trials order start first over.number over.idle over.was p over.run

-- and where it has ended
pub ended : {T F : Type 0} {t : Ghosts T F} (order : Order) (start : ℕ) (first : T) (next : Turns) (last : T) → HasEnded t order start first next last → (P : T → Type 0)
    → (acts : (was is : T) → P was → t.acted was is → P is) → (turns : (was is : T) (place : ℕ) (moved : Bool) → P was → t.stepped place moved was is → P is)
    → (trials : (was is : T) (moved : Bool) → P was → t.tried moved was is → P is) → P first → P last
ended {t = t} order start first next last over P acts turns trials p = trials over.was last false (before_end order start first next last over P acts turns trials p) over.tried

-- a fault was met so, behind what is so
pub data Meets {T F : Type 0} (t : Ghosts T F) (P : T → Type 0) (last : T) (fault : F) : Type 0 where
  at_act : (was : T) → P was → t.act_failed was last fault → Meets t P last fault
  at_step : (place : ℕ) (was : T) → P was → t.step_failed place was last fault → Meets t P last fault
  at_trial : (was : T) → P was → t.try_failed was last fault → Meets t P last fault

-- and so it is up to where such a run met a fault
pub failed : {T F : Type 0} {t : Ghosts T F} (order : Order) (start : ℕ) (first : T) (next : Turns) (last : T) (fault : F) → HasFailed t order start first next last fault → (P : T → Type 0)
    → (acts : (was is : T) → P was → t.acted was is → P is) → (turns : (was is : T) (place : ℕ) (moved : Bool) → P was → t.stepped place moved was is → P is)
    → (trials : (was is : T) (moved : Bool) → P was → t.tried moved was is → P is) → P first → Meets t P last fault
failed {t = t} order start first next last fault (HasFailed.acting n idle was run goes why) P acts turns trials p =
    at_act was (stays t P acts turns trials order start first n idle was p run) why
failed {t = t} order start first next last fault (HasFailed.at_turn n idle place was run goes waits few turn why) P acts turns trials p =
    at_step place was (stays t P acts turns trials order start first n idle was p run) why
failed {t = t} order start first next last fault (HasFailed.trying n idle was run goes waits still why) P acts turns trials p =
    at_trial was (stays t P acts turns trials order start first n idle was p run) why
