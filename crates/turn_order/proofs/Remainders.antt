-- Numbers behind the listed ones, by their remainders.
use Rattle.std.proofs.Common.{◌≡◌, ℕ, ◌+◌, ◌-◌, ◌%◌, ◌≤◌, List, length, sym, ap, ◌∙◌, arith}
use Rattle.std.proofs.Math.Nat.{mod-add-mod}
use Rattle.turn_order.specs.declared.order.Order.{Order}
use Rattle.turn_order.specs.declared.order.Order.TheVariants.{Listed, Drawn}
use Rattle.turn_order.specs.declared.turns.Turns.{Turns}
use Rattle.turn_order.specs.Draws.{state_after}
use Rattle.turn_order.specs.Turns.{IsAmong}

mod_more : (a b count : ℕ) → a % count ≡ b % count → (a + 1) % count ≡ (b + 1) % count
mod_more a b count e = sym (mod-add-mod a count 1) ∙ ap (λ r. (r + 1) % count) e ∙ mod-add-mod b count 1

listed_same : {a b : List ℕ} → Listed a ≡ Listed b → a ≡ b
listed_same e = cc

listed_drawn : (numbers : List ℕ) (state : ℕ) → Listed numbers ≡ Drawn state → ⊥
listed_drawn numbers state e = cc

-- one more number behind the listed ones
pub among_more : (order : Order) (count n : ℕ) (numbers : List ℕ) (old : Turns) (behind : ℕ) → old.order ≡ Listed numbers → length numbers ≤ old.listed → behind ≡ old.behind + 1 → IsAmong order count n old
    → IsAmong order count (n + 1) (record { order = Listed numbers; listed = old.listed; behind = behind })
among_more (Listed listed) count n numbers old behind is past more h =
    let same : numbers ≡ listed = listed_same (sym is ∙ h.0) in
    let long : length numbers ≡ length listed = ap length same in
    let reached : length listed ≤ n = omega (arith, h.1, long, past) in
    let next : n + 1 - length listed ≡ n - length listed + 1 = omega arith in
    (ap Listed same, omega (arith, h.1, reached), ap (λ b. b % count) more ∙ mod_more old.behind (n - length listed) count h.2 ∙ ap (λ b. b % count) (sym next))
among_more (Drawn start) count n numbers old behind is past more h = absurd (listed_drawn numbers (state_after start n) (sym is ∙ h))
