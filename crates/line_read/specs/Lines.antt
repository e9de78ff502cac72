-- The line that a program's words make, and its tree.
use Rattle.std.specs.Prelude.{◌≡◌, ◌≢◌, ◌≤◌, ℕ, true, List, [], length}
use Rattle.launch_text.specs.Grammar.{IsLine}
use Rattle.launch_text.specs.declared.tree.Tree.{Tree}
use Rattle.run_words.specs.Line.{joined}
use Rattle.run_words.specs.Said.{line_words, takes_words}

-- the words of the line, joined
abbrev pub line_of : List (List ℕ) → List ℕ
line_of words = joined (line_words words)

-- the longest line, in bytes
abbrev pub longest : ℕ
longest = 65536

-- the command takes the words, and some of them make a line
pub record HasLine (words : List (List ℕ)) : Type 0 where
  pub taken : takes_words words ≡ true
  pub some : line_words words ≢ []

-- the words make a line that is not too long, and it stands for this tree and no other
pub record HasTree (words : List (List ℕ)) (tree : Tree) : Type 0 where
  pub line : HasLine words
  pub short : length (line_of words) ≤ longest
  pub stands : IsLine (line_of words) tree
  pub only : (other : Tree) → IsLine (line_of words) other → tree ≡ other
