-- What a run by turns is.
use Rattle.std.specs.Prelude.{◌≡◌, ◌⊎◌, ◌<◌, ◌+◌, ◌%◌, ℕ, Bool, true, false, if◌then◌else◌}
use Rattle.turn_order.specs.declared.order.Order.{Order}
use Rattle.turn_order.specs.declared.turns.Turns.{Turns}
use Rattle.turn_order.specs.Turns.{IsAt, IsWithin, number_of}
use Rattle.turn_loop.specs.declared.taking.TakesTurns.{Ghosts}

-- The next number that is given is this one of the order, as far as its numbers go on.
abbrev pub GoesFrom : Order → ℕ → Turns → Type 0
GoesFrom order n turns = IsWithin order n → IsAt order n turns

-- a place among so many is what this number of the order tells
abbrev pub IsTurn : Order → ℕ → ℕ → ℕ → Type 0
IsTurn order n count place = (place < count) × (IsWithin order n → place ≡ number_of order n % count)

-- so many turns in a row moved nothing that each is tried now, as it is where none takes turns
abbrev pub IsIdle : ℕ → ℕ → Type 0
IsIdle idle count = (idle ≡ 4096) ⊎ (count ≡ 0)

module _ {T F : Type 0} (t : Ghosts T F) where
  -- A run by turns, from a number of an order on, has come to another of its numbers, and so many turns in a row moved nothing.
  -- Control does its next act before every turn, as soon as that can be done: no turn stands between. A turn steps the one that the
  -- number tells by its remainder. Behind 4,096 turns in a row that moved nothing, and not before, each is tried, which is no turn; the run
  -- goes on where one of them moved.
  pub data ByTurns (order : Order) (start : ℕ) (first : T) : ℕ → ℕ → T → Type 0 where
    begun : ByTurns order start first start 0 first
    act : (n idle : ℕ) (was is : T) → ByTurns order start first n idle was → t.acted was is → ByTurns order start first n 0 is
    turn : (n idle place : ℕ) (moved : Bool) (was is : T) → ByTurns order start first n idle was → t.waits was → idle < 4096
        → IsTurn order n (t.count was) place → t.stepped place moved was is → ByTurns order start first (n + 1) (if moved then 0 else idle + 1) is
    tries : (n idle : ℕ) (was is : T) → ByTurns order start first n idle was → t.waits was → IsIdle idle (t.count was) → t.tried true was is
        → ByTurns order start first n 0 is

  -- Such a run has ended, and the next turn is that of this number: control has nothing to do that can be done, each was tried, and none of them moved.
  pub record HasEnded (order : Order) (start : ℕ) (first : T) (turns : Turns) (last : T) : Type 0 where
    pub number : ℕ
    pub next : GoesFrom order number turns
    pub idle : ℕ
    pub was : T
    pub run : ByTurns order start first number idle was
    pub waits : t.waits was
    pub is_idle : IsIdle idle (t.count was)
    pub tried : t.tried false was last

  -- Such a run met a fault: at an act of control, at the turn of the one that the number tells, or as each was tried. The turn at which it
  -- did so took its number; an act and a trial take none.
  pub data HasFailed (order : Order) (start : ℕ) (first : T) (turns : Turns) (last : T) (fault : F) : Type 0 where
    acting : (n idle : ℕ) (was : T) → ByTurns order start first n idle was → GoesFrom order n turns → t.act_failed was last fault
        → HasFailed order start first turns last fault
    at_turn : (n idle place : ℕ) (was : T) → ByTurns order start first n idle was → GoesFrom order (n + 1) turns → t.waits was → idle < 4096
        → IsTurn order n (t.count was) place → t.step_failed place was last fault → HasFailed order start first turns last fault
    trying : (n idle : ℕ) (was : T) → ByTurns order start first n idle was → GoesFrom order n turns → t.waits was → IsIdle idle (t.count was)
        → t.try_failed was last fault → HasFailed order start first turns last fault
