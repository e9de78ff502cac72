-- Values that are put at places of a list.
use Rattle.std.specs.Prelude.{◌≡◌, ◌<◌, ℕ, List, Some, length, slice_get}

-- What stands at a place: a value that belongs there, or, where none does, what stood there before.
pub data IsPutAt {A : Type 0} (Here : ℕ → A → Type 0) (old new : List A) (n : ℕ) : Type 0 where
  was_put : (x : A) → Here n x → slice_get new n ≡ Some x → IsPutAt Here old new n
  was_kept : ((x : A) → Here n x → ⊥) → slice_get new n ≡ slice_get old n → IsPutAt Here old new n

-- So it is at each place of a list.
pub record PutBack {A : Type 0} (Here : ℕ → A → Type 0) (old new : List A) : Type 0 where
  pub count : length new ≡ length old
  pub each : (n : ℕ) → n < length old → IsPutAt Here old new n

-- One of a list has the value at the number.
pub record Among {A X : Type 0} (Has : A → ℕ → X → Type 0) (list : List A) (n : ℕ) (x : X) : Type 0 where
  pub place : ℕ
  pub one : A
  pub at : slice_get list place ≡ Some one
  pub inside : Has one n x
