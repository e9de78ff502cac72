-- The numbers of an order, and where they are given one after the other.
use Rattle.std.specs.Prelude.{◌≡◌, ◌<◌, ℕ, ◌+◌, ◌-◌, ◌%◌, ◌^◌, if◌then◌else◌, length, min, nat_lt, slice_index}
use Rattle.turn_order.specs.declared.order.Order.{Order}
use Rattle.turn_order.specs.declared.order.Order.TheVariants.{Listed, Drawn}
use Rattle.turn_order.specs.declared.turns.Turns.{Turns}
use Rattle.turn_order.specs.Draws.{draw, state_after}

-- number n of an order, counted from 0: the listed numbers, and then 0, 1, 2 and so on; or draw n
abbrev pub number_of : Order → ℕ → ℕ
number_of (Listed numbers) n = if nat_lt n (length numbers) then slice_index numbers n else n - length numbers
number_of (Drawn start) n = draw start n

-- the numbers up to number n are below 2^64: draws always are
abbrev pub IsWithin : Order → ℕ → Type 0
IsWithin (Listed numbers) n = n - length numbers < 2 ^ 64
IsWithin (Drawn start) n = Unit {0}

-- the next number is number n of an order
abbrev pub IsAt : Order → ℕ → Turns → Type 0
IsAt (Listed numbers) n turns = (turns.order ≡ Listed numbers) × (turns.listed ≡ min n (length numbers)) × (turns.behind ≡ n - length numbers)
IsAt (Drawn start) n turns = turns.order ≡ Drawn (state_after start n)

-- so by the remainders of a count
abbrev pub IsAmong : Order → ℕ → ℕ → Turns → Type 0
IsAmong (Listed numbers) count n turns = (turns.order ≡ Listed numbers) × (turns.listed ≡ min n (length numbers)) × (turns.behind % count ≡ (n - length numbers) % count)
IsAmong (Drawn start) count n turns = turns.order ≡ Drawn (state_after start n)

-- the count of numbers behind the listed ones has not come to the last value of 64 bits
abbrev pub HasMore : Turns → Type 0
HasMore turns = turns.behind + 1 < 2 ^ 64
