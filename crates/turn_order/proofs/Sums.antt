-- Sums modulo 2^64.
use Rattle.std.proofs.Common.{◌≡◌, ℕ, ◌+◌, ◌*◌, ◌%◌, ◌^◌}
use Rattle.std.proofs.Math.Nat.{mod-add-mod}

pub draw_state : (state factor summand : ℕ) → ((state * factor) % 2 ^ 64 + summand) % 2 ^ 64 ≡ (state * factor + summand) % 2 ^ 64
draw_state state factor summand = mod-add-mod (state * factor) (2 ^ 64) summand
