-- The line of a tree.
use Rattle.std.specs.Prelude.{ℕ, Bool, cond, ◌==◌, ◌||◌, List, [], ◌∷◌, ◌++◌, Option, Some, None, codes, length, map}
use Rattle.std.specs.List.{flat_map, fold}
use Rattle.text_words.specs.Bytes.{is_white}
use Rattle.launch_text.specs.Tokens.{Token, opens, closes, link, kind, property, caps, reference, tree_tokens}
use Rattle.launch_text.specs.declared.printing.Marked.{Marked}
use Rattle.launch_text.specs.declared.printing.Marked.TheVariants.{Value, Caps}
use Rattle.launch_text.specs.declared.tree.Tree.{Tree}

-- in a value white space, a double quote and a backslash have a backslash before them, and in caps a space
abbrev pub is_marked : Marked → ℕ → Bool
is_marked Value b = is_white b || (b == 34) || (b == 92)
is_marked Caps b = b == 32

abbrev pub mark : Marked → ℕ → List ℕ
mark marked b = cond (is_marked marked b) (92 ∷ b ∷ []) (b ∷ [])

abbrev pub with_marks : Marked → List ℕ → List ℕ
with_marks marked text = flat_map (mark marked) text

-- the empty value is two double quotes
abbrev pub value_text : List ℕ → List ℕ
value_text value = cond (length value == 0) (34 ∷ 34 ∷ []) (with_marks Value value)

abbrev pub caps_text : List ℕ → List ℕ
caps_text text = with_marks Caps text

-- a reference is a name, a point, and a pad's name where it has one
abbrev pub reference_text : List ℕ → Option (List ℕ) → List ℕ
reference_text name None = name ++ 46 ∷ []
reference_text name (Some pad) = name ++ 46 ∷ pad

-- the word of a token
abbrev pub token_text : Token → List ℕ
token_text opens = codes "("
token_text closes = codes ")"
token_text link = codes "!"
token_text (kind k) = k
token_text (property name value) = name ++ 61 ∷ value_text value
token_text (caps text) = caps_text text
token_text (reference name pad) = reference_text name pad

-- a space behind a text, where the text is not empty
abbrev pub spaced : List ℕ → List ℕ
spaced text = cond (length text == 0) [] (text ++ 32 ∷ [])

-- a word behind the words so far
abbrev pub with_word : List ℕ → List ℕ → List ℕ
with_word text word = spaced text ++ word

-- words behind those so far
abbrev pub with_tokens : List ℕ → List Token → List ℕ
with_tokens text tokens = fold with_word text (map token_text tokens)

-- the words of the tree with one space between
abbrev pub line_text : Tree → List ℕ
line_text tree = with_tokens [] (tree_tokens tree)
