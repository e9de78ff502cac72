-- Numbers of pieces.
use Rattle.std.proofs.Common.{◌≡◌, ◌<◌, ◌≤◌, ◌+◌, ◌-◌, ◌*◌, ◌/◌, ℕ, suc, min, arith}
use Rattle.std.proofs.Math.Nat.{mul-le-mul_right}
use Rattle.std.proofs.lemmas.Nat.{le-div, div_below}

one_more : (n k : ℕ) → (k + 1) * n ≡ k * n + n
one_more n k = grind arith

-- where frames are left there is one more piece, and where none are left there is none
pub pieces_more : (n l k : ℕ) → 1 ≤ n → k * n < l → (l + n - 1) / n - k ≡ suc ((l + n - 1) / n - (k + 1))
pieces_more n l k some more =
    let room : (k + 1) * n ≤ l + n - 1 = omega (arith, one_more n k) in
    let least : k + 1 ≤ (l + n - 1) / n = le-div (k + 1) (l + n - 1) n (omega arith) room in
    omega arith

pub pieces_none : (n l k : ℕ) → 1 ≤ n → l ≤ k * n → (l + n - 1) / n - k ≡ 0
pieces_none n l k some none =
    let room : l + n - 1 < (k + 1) * n = omega (arith, one_more n k) in
    let most : (l + n - 1) / n < k + 1 = div_below (l + n - 1) n (k + 1) (omega arith) room in
    omega arith

-- the pieces of whole buffers
pub pieces_whole : (n b : ℕ) → 1 ≤ n → (b * n - 0 + n - 1) / n ≡ b
pieces_whole n b some =
    let least : b ≤ (b * n - 0 + n - 1) / n = le-div b (b * n - 0 + n - 1) n (omega arith) (omega arith) in
    let room : b * n - 0 + n - 1 < (b + 1) * n = omega (arith, one_more n b) in
    let most : (b * n - 0 + n - 1) / n < b + 1 = div_below (b * n - 0 + n - 1) n (b + 1) (omega arith) room in
    omega arith

pub piece_whole : (n b k : ℕ) → k < b → min n (b * n - (0 + k * n)) ≡ n
piece_whole n b k within =
    let next : k + 1 ≤ b = omega arith in
    let room : (k + 1) * n ≤ b * n = mul-le-mul_right n next in
    omega (arith, one_more n k)
