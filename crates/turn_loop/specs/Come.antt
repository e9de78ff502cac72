-- How far a run by turns has come.
use Rattle.std.specs.Prelude.{ℕ, Bool, true, false}
use Rattle.turn_order.specs.declared.order.Order.{Order}
use Rattle.turn_order.specs.declared.turns.Turns.{Turns}
use Rattle.turn_loop.specs.Turns.{ByTurns, GoesFrom, HasEnded}
use Rattle.turn_loop.specs.declared.taking.TakesTurns.{Ghosts}

module _ {T F : Type 0} (t : Ghosts T F) where
  -- A run by turns has come here, and the next turn is that of this number.
  pub record HasCome (order : Order) (start : ℕ) (first : T) (turns : Turns) (idle : ℕ) (is : T) : Type 0 where
    pub number : ℕ
    pub next : GoesFrom order number turns
    pub run : ByTurns t order start first number idle is

  -- while there is more it has come on, and else it has ended
  abbrev pub HasAdvanced : Bool → Order → ℕ → T → Turns → ℕ → T → Type 0
  HasAdvanced true order start first turns idle is = HasCome order start first turns idle is
  HasAdvanced false order start first turns idle is = HasEnded t order start first turns is
