-- Where a text is no line.
use Rattle.std.specs.Prelude.{ℕ, ◌<◌, ◌≤◌, Bool, false, cond, ◌==◌, List, [], ◌∷◌, ◌++◌, Option, Some, None, is_some, length, nat_lt, take}
use Rattle.text_words.specs.Bytes.{in_class}
use Rattle.text_words.specs.Values.{cut, property_of}
use Rattle.text_words.specs.declared.class.Class.{Class}
use Rattle.text_words.specs.declared.class.Class.TheVariants.{Name}
use Rattle.launch_text.specs.Grammar.{IsLine}
use Rattle.launch_text.specs.Words.{begins_caps}
use Rattle.launch_text.specs.declared.front.Spot.{Spot}
use Rattle.launch_text.specs.declared.front.Spot.TheVariants.{Start, Bin, Chain, Element, Link, Caps, Reference}
use Rattle.launch_text.specs.declared.line.Last.{Last}
use Rattle.launch_text.specs.declared.line.Last.TheVariants.{Start as AtStart, Bin as BehindBin, Chain as BehindChain, Element as InElement, Link as BehindLink, Caps as InCaps, Reference as BehindReference}
use Rattle.launch_text.specs.declared.tree.Tree.{Tree}

-- some line begins with this text
abbrev pub IsFront : List ℕ → Type 0
IsFront text = (rest : List ℕ) × (tree : Tree) × IsLine (text ++ rest) tree

-- the length of the longest front of the text with which some line begins
pub record IsPlace (text : List ℕ) (place : ℕ) : Type 0 where
  pub within : place ≤ length text
  pub front : IsFront (take place text)
  pub longest : (n : ℕ) → place < n → n ≤ length text → ¬ IsFront (take n text)

-- whether a word begins with this byte
abbrev pub begins : ℕ → List ℕ → Bool
begins mark [] = false
begins mark (b ∷ bs) = b == mark

-- the bytes of a class that stand first, and what stands behind them
abbrev pub run_of : Class → List ℕ → List ℕ
run_of class [] = []
run_of class (b ∷ bs) = cond (in_class class b) (b ∷ run_of class bs) []

abbrev pub behind_run : Class → List ℕ → List ℕ
behind_run class [] = []
behind_run class (b ∷ bs) = cond (in_class class b) (behind_run class bs) (b ∷ bs)

-- what stands behind a point
abbrev pub after_point : List ℕ → Option (List ℕ)
after_point [] = None
after_point (b ∷ bs) = cond (b == 46) (Some bs) None

abbrev pub pad_front : Option (List ℕ) → List ℕ
pad_front None = []
pad_front (Some pad) = 46 ∷ run_of Name pad

-- the front that can go on behind a name: a point, and a pad's name
abbrev pub point_front : List ℕ → List ℕ
point_front behind = pad_front (after_point behind)

-- the front of a word with which a kind or a reference begins
unfoldable pub name_front : List ℕ → List ℕ
name_front word = cond (length (run_of Name word) == 0) [] (run_of Name word ++ point_front (behind_run Name word))

abbrev pub caps_before : List ℕ → Option (List ℕ × List ℕ) → List ℕ
caps_before word None = word
caps_before word (Some p) = p.0

-- the same of a node behind a link, which may be caps
unfoldable pub caps_front : List ℕ → List ℕ
caps_front word = cond (begins_caps word) word (caps_before word (cut 61 word))

-- the same of a part within so many brackets
unfoldable pub part_front : ℕ → List ℕ → List ℕ
part_front depth word = cond (begins 40 word) (cond (nat_lt depth 16) (40 ∷ []) []) (name_front word)

-- the same behind a whole part
unfoldable pub next_front : ℕ → List ℕ → List ℕ
next_front depth word = cond (begins 41 word) (cond (depth == 0) [] (41 ∷ [])) (part_front depth word)

-- the same of a link
abbrev pub link_front : List ℕ → List ℕ
link_front word = cond (begins 33 word) (33 ∷ []) []

-- the same behind an element
unfoldable pub element_front : ℕ → List ℕ → List ℕ
element_front depth word = cond (is_some (property_of word)) word (cond (begins 33 word) (33 ∷ []) (next_front depth word))

-- the front of a word with which one at this spot begins
abbrev pub front_of : Spot → ℕ → List ℕ → List ℕ
front_of Start depth word = part_front depth word
front_of Bin depth word = next_front depth word
front_of Chain depth word = next_front depth word
front_of Element depth word = element_front depth word
front_of Link depth word = caps_front word
front_of Caps depth word = word
front_of Reference depth word = link_front word

-- what may follow
abbrev pub spot_of : Last → Spot
spot_of AtStart = Start
spot_of BehindBin = Bin
spot_of BehindChain = Chain
spot_of (InElement kind props) = Element
spot_of BehindLink = Link
spot_of (InCaps text) = Caps
spot_of (BehindReference n) = Reference
