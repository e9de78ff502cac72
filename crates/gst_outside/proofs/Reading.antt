-- What the reads of sources in memory tell.
use Rattle.std.proofs.Common.{◌≡◌, ℕ, ◌-◌, ◌<◌, ◌≤◌, min, List, length, ap, arith, Some, Result, Ok, Err, IfOk}
use Rattle.std.specs.Option.{ForSome}

-- a read as long as the room and the content allow gives nothing only at the end
pub read_end : {E : Type 0} (r : Result ℕ E) (kept : List ℕ) (place room : ℕ) → IfOk r (λ n. n ≡ min room (length kept - place)) → IfOk r (λ n. n ≡ 0 → 0 < room → ForSome (Some kept) (λ c. length c ≤ place))
read_end (Ok n) kept place room count = λ none some c same. let k : kept ≡ c = cc in omega (arith, ap length k)
read_end (Err e) kept place room count = tt
