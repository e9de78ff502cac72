-- How much is left.
use Rattle.std.specs.Prelude.{◌<◌, ◌≤◌, ◌+◌, ◌*◌, ◌-◌, ℕ, Bool, true, false}

-- where something moved less is left, and else no more
abbrev pub Falls : Bool → ℕ → ℕ → Type 0
Falls true before after = after < before
Falls false before after = after ≤ before

-- how many turns, those that move and those that do not, there are at the most behind so many that moved nothing
abbrev pub turns_left : ℕ → ℕ → ℕ
turns_left moves idle = 4097 * moves + (4096 - idle)
