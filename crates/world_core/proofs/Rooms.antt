-- Room for what one element more counts.
use Rattle.std.proofs.Common.{◌≡◌, ◌<◌, ◌+◌, ◌⊎◌, ℕ, zero, suc, refl, ap, inl, inr, arith}

pub same_or_less : (a b : ℕ) → a < b + 1 → (a ≡ b) ⊎ (a < b)
same_or_less zero zero w = inl refl
same_or_less zero (suc b) w = inr (omega arith)
same_or_less (suc a) zero w = absurd (omega (arith, w))
same_or_less (suc a) (suc b) w = up (same_or_less a b (omega (arith, w)))
  where
    up : (a ≡ b) ⊎ (a < b) → (suc a ≡ suc b) ⊎ (suc a < suc b)
    up (inl same) = inl (ap suc same)
    up (inr less) = inr (omega (arith, less))
