-- Worked rows of the words of a launch line.
use Rattle.std.proofs.Common.{[], ◌∷◌, ◌++◌, refl, codes, Some}
use Rattle.launch_text.specs.Tokens.{link, kind, property, caps, reference, opens}
use Rattle.launch_text.specs.Words.{Reads}
use Rattle.launch_text.specs.Rows.{WordRows}

-- two elements and a link
linked_row : Reads (kind (codes "a") ∷ link ∷ kind (codes "b") ∷ []) (codes "a !  b") []
linked_row = (
  codes " !  b",
  record { white = []; word = codes "a"; are_white = refl; parts = refl; stands = (refl, refl); ended = refl },
  (
    codes "  b",
    record { white = codes " "; word = codes "!"; are_white = refl; parts = refl; stands = refl; ended = refl },
    ([], record { white = codes "  "; word = codes "b"; are_white = refl; parts = refl; stands = (refl, refl); ended = refl }, refl),
  ),
)

-- the value `p q` of a property, in quotes and with a backslash
quoted_row : Reads (property (codes "x") (codes "p q") ∷ []) (120 ∷ 61 ∷ 34 ∷ 112 ∷ 32 ∷ 113 ∷ 34 ∷ []) []
quoted_row =
    ([], record { white = []; word = 120 ∷ 61 ∷ 34 ∷ 112 ∷ 32 ∷ 113 ∷ 34 ∷ []; are_white = refl; parts = refl; stands = record { spelling = 34 ∷ 112 ∷ 32 ∷ 113 ∷ 34 ∷ []; words = refl; named = refl; is_one = refl; closed = refl; says = refl }; ended = refl }, refl)

taken_row : Reads (property (codes "x") (codes "p q") ∷ []) (120 ∷ 61 ∷ 112 ∷ 92 ∷ 32 ∷ 113 ∷ []) []
taken_row =
    ([], record { white = []; word = 120 ∷ 61 ∷ 112 ∷ 92 ∷ 32 ∷ 113 ∷ []; are_white = refl; parts = refl; stands = record { spelling = 112 ∷ 92 ∷ 32 ∷ 113 ∷ []; words = refl; named = refl; is_one = refl; closed = refl; says = refl }; ended = refl }, refl)

-- caps of two words, with a backslash before a space in the second
caps_row : Reads (caps (codes "x/y p q") ∷ []) (codes "x/y  p" ++ 92 ∷ 32 ∷ 113 ∷ []) []
caps_row =
    ([], record { white = []; word = codes "x/y  p" ++ 92 ∷ 32 ∷ 113 ∷ []; are_white = refl; parts = refl; stands = record { first = codes "x/y"; more = (codes "  ", 112 ∷ 92 ∷ 32 ∷ 113 ∷ []) ∷ []; begun = refl; is_one = refl; closed = refl; are_words = refl; no_link = refl; words = refl; says = refl }; ended = refl }, refl)

-- a bracket, and a reference with a pad
reference_row : Reads (opens ∷ reference (codes "x") (Some (codes "src")) ∷ []) (codes "( x.src") []
reference_row = (
  codes " x.src",
  record { white = []; word = codes "("; are_white = refl; parts = refl; stands = refl; ended = refl },
  ([], record { white = codes " "; word = codes "x.src"; are_white = refl; parts = refl; stands = (refl, refl, refl); ended = refl }, refl),
)

pub word_rows : WordRows
word_rows = record { link_row = linked_row; quoted_row = quoted_row; taken_row = taken_row; caps_row = caps_row; reference_row = reference_row }
