-- A generator of numbers: Knuth's linear congruence of 64 bits, whose upper bits are the draws.
use Rattle.std.specs.Prelude.{ℕ, zero, suc, ◌+◌, ◌*◌, ◌/◌, ◌%◌, ◌^◌}

-- the state behind one more draw
abbrev pub next_state : ℕ → ℕ
next_state state = (state * 6364136223846793005 + 1442695040888963407) % 2 ^ 64

-- the state behind n draws from a start
abbrev pub state_after : ℕ → ℕ → ℕ
state_after start zero = start
state_after start (suc n) = next_state (state_after start n)

-- draw n from a start, counted from 0: the upper 31 bits of the state behind it
abbrev pub draw : ℕ → ℕ → ℕ
draw start n = next_state (state_after start n) / 2 ^ 33
