-- Worked rows of the words of a launch line: of which words a text is.
use Rattle.std.specs.Prelude.{[], ◌∷◌, ◌++◌, codes, Some}
use Rattle.launch_text.specs.Tokens.{link, kind, property, caps, reference, opens}
use Rattle.launch_text.specs.Words.{Reads}

pub record WordRows : Type 0 where
  -- two elements and a link
  pub link_row : Reads (kind (codes "a") ∷ link ∷ kind (codes "b") ∷ []) (codes "a !  b") []
  -- the value `p q` of a property, in quotes
  pub quoted_row : Reads (property (codes "x") (codes "p q") ∷ []) (120 ∷ 61 ∷ 34 ∷ 112 ∷ 32 ∷ 113 ∷ 34 ∷ []) []
  -- and with a backslash
  pub taken_row : Reads (property (codes "x") (codes "p q") ∷ []) (120 ∷ 61 ∷ 112 ∷ 92 ∷ 32 ∷ 113 ∷ []) []
  -- caps of two words, with a backslash before a space in the second
  pub caps_row : Reads (caps (codes "x/y p q") ∷ []) (codes "x/y  p" ++ 92 ∷ 32 ∷ 113 ∷ []) []
  -- a bracket, and a reference with a pad
  pub reference_row : Reads (opens ∷ reference (codes "x") (Some (codes "src")) ∷ []) (codes "( x.src") []
