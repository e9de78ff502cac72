-- What was read of a file, and what it says of the whole.
use Rattle.std.specs.Prelude.{◌≡◌, ◌≤◌, ℕ, List, Option, length, take}
use Rattle.std.specs.Option.{ForSome}
use Rattle.script_text.specs.Scripts.{longest}

-- the bytes are the front of the content, and all of it unless they are more than a script may have
pub record IsFront (bytes content : List ℕ) : Type 0 where
  pub front : bytes ≡ take (length bytes) content
  pub whole : length bytes ≤ longest → bytes ≡ content

-- some text that was read is said to be so, and so is the content, where that is told
abbrev pub IsReadAs : Option (List ℕ) → (List ℕ → Type 0) → Type 0
IsReadAs told Says = ((text : List ℕ) × Says text) × ForSome told Says
