-- Parts of a line, which are written one behind the other.
use Rattle.std.proofs.Common.{◌≡◌, List, ◌++◌, ℕ, append_assoc, refl}

pub four_parts : (a b c d : List ℕ) → a ++ (b ++ (c ++ d)) ≡ a ++ b ++ c ++ d
four_parts a b c d = rw (append_assoc (a ++ b) c d, append_assoc a b (c ++ d)) refl
