-- One thing under one number, and what stands by its number in a list.
use Rattle.std.specs.Prelude.{◌≡◌, ℕ, List, Option, Some, slice_get}

abbrev pub IsNone : {X : Type 0} → ℕ → X → Type 0
IsNone n x = ⊥

abbrev pub IsSingle : {X : Type 0} → ℕ → X → ℕ → X → Type 0
IsSingle number one n x = (number ≡ n) × (one ≡ x)

-- a value, where there is one
abbrev pub IsValue : {X : Type 0} → ℕ → Option X → ℕ → X → Type 0
IsValue number value n x = (number ≡ n) × (value ≡ Some x)

-- what stands by its number
abbrev pub IsAt : {X : Type 0} → List (Option X) → ℕ → X → Type 0
IsAt list n x = slice_get list n ≡ Some (Some x)
