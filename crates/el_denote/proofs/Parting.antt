-- The sections of lists, item by item.
use Rattle.std.proofs.Common.{◌≡◌, ℕ, zero, suc, ◌-◌, ◌<◌, ◌≤◌, Bool, true, false, if◌then◌else◌, List, [], ◌∷◌, ◌++◌, length, drop, get_or, refl, arith}
use Rattle.flow_model.specs.Item.{Item, is_flush_stop}
use Rattle.flow_model.specs.Sticky.{has_flush_stop}
use Rattle.flow_model.specs.Section.{section}

pub plain_at : (xs : List Item) (i : ℕ) (x : Item) → has_flush_stop xs ≡ false → i < length xs → x ≡ get_or xs i x → is_flush_stop x ≡ false
plain_at [] i x plain w e = absurd (omega (arith, w))
plain_at (y ∷ ys) i x plain w e = go (is_flush_stop y) refl i plain w e (λ k p v f. plain_at ys k x p v f)
  where
    go : (b : Bool) → is_flush_stop y ≡ b → (i : ℕ) → (if b then true else has_flush_stop ys) ≡ false → i < suc (length ys) → x ≡ get_or (y ∷ ys) i x
        → ((k : ℕ) → has_flush_stop ys ≡ false → k < length ys → x ≡ get_or ys k x → is_flush_stop x ≡ false) → is_flush_stop x ≡ false
    go true is i plain w e r = absurd (cc)
    go false is zero plain w e r = rw (← e) at is
    go false is (suc i) plain w e r = r i plain (omega (arith, w)) e

-- what was gathered of section n, where so many FLUSH_STOPs were passed
abbrev pub Gathers : ℕ → List Item → ℕ → ℕ → List Item → Type 0
Gathers n items i passed part = (passed ≤ n) × (part ++ section (n - passed) (drop i items) ≡ section n items)
