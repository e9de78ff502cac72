-- How the words of a line are read, one behind the other.
use Rattle.std.specs.Prelude.{◌≡◌, ℕ, true, cond, ◌==◌, ◌<◌, List, [], ◌∷◌, ◌++◌, Option, Some, None, Result, Ok, Err, codes, length, nat_lt, take, drop}
use Rattle.std.specs.List.{list_all}
use Rattle.std.specs.Str.{bytes_eq}
use Rattle.gst_value.specs.declared.name.Prop.{Prop}
use Rattle.text_words.specs.Bytes.{is_run, is_white}
use Rattle.text_words.specs.Values.{cut, property_of, ◌>>=◌}
use Rattle.text_words.specs.Words.{is_closed, plain}
use Rattle.text_words.specs.declared.class.Class.TheVariants.{Kind, Name}
use Rattle.launch_text.specs.Words.{begins_caps, taken, word_length}
use Rattle.launch_text.specs.declared.fault.Refusal.{Refusal}
use Rattle.launch_text.specs.declared.fault.Refusal.TheVariants.{Stuck, OutOfMemory}
use Rattle.launch_text.specs.declared.line.Last.{Last}
use Rattle.launch_text.specs.declared.line.Last.TheVariants.{Start, Bin, Chain, Element, Link, Caps, Reference}
use Rattle.launch_text.specs.declared.parts.Parts.{Parts}
use Rattle.launch_text.specs.declared.printing.Marked.{Marked}
use Rattle.launch_text.specs.declared.printing.Marked.TheVariants.{Value as InValue, Caps as InCaps}
use Rattle.launch_text.specs.declared.tree.Node.{Node}
use Rattle.launch_text.specs.declared.tree.Node.TheVariants.{Element as ElementNode, Caps as CapsNode, Reference as ReferenceNode}
use Rattle.launch_text.specs.declared.tree.Part.{Part}
use Rattle.launch_text.specs.declared.tree.Part.TheVariants.{Chain as ChainPart, Bin as BinPart}
use Rattle.launch_text.specs.declared.tree.Tree.{Tree}

-- what a function gave that is stuck where there is nothing, unless memory was wanting
abbrev pub Gives : {X V : Type 0} → (X → V) → Result X Refusal → Option V → Type 0
Gives view (Ok x) answer = answer ≡ Some (view x)
Gives view (Err Stuck) answer = answer ≡ None
Gives view (Err OutOfMemory) answer = Unit {0}

-- what a word says of a value or of caps
unfoldable pub said : Marked → List ℕ → Option (List ℕ)
said marked word = cond (is_closed word) (Some (taken marked plain word)) None

-- the name of a pad, where one stands there
unfoldable pub pad_of : List ℕ → Option (Option (List ℕ))
pad_of text = cond (length text == 0) (Some None) (cond (is_run Name text) (Some (Some text)) None)

abbrev pub reference_from : List ℕ × List ℕ → Option Node
reference_from p = cond (is_run Name p.0) (pad_of p.1 >>= λ pad. Some (ReferenceNode p.0 pad)) None

unfoldable pub reference_of : List ℕ → Option Node
reference_of word = cut 46 word >>= reference_from

-- what is whole: for each open bracket the parts before it, the parts behind the last one, and the nodes of a chain that
-- goes on
pub record Held : Type 0 where
  pub outer : List (List Part)
  pub parts : List Part
  pub nodes : List Node

-- what is whole, and what was read last
abbrev pub State : Type 0
State = Held × Last

abbrev pub held : Parts → Held
held p = record { outer = p.outer.items; parts = p.parts; nodes = p.nodes }

-- the chain ends with this node
abbrev pub ended : Held → Node → Held
ended h n = record { outer = h.outer; parts = h.parts ++ ChainPart (record { nodes = h.nodes ++ n ∷ [] }) ∷ []; nodes = [] }

-- a link stands behind this node
abbrev pub linked_to : Held → Node → State
linked_to h n = (record { outer = h.outer; parts = h.parts; nodes = h.nodes ++ n ∷ [] }, Link)

-- a bracket is opened, of which there are at most 16
unfoldable pub opened : Held → Option Held
opened h = cond (nat_lt (length h.outer) 16) (Some (record { outer = h.outer ++ h.parts ∷ []; parts = []; nodes = h.nodes })) None

abbrev pub more_outer : List Part → Option (List (List Part) × List Part) → Option (List (List Part) × List Part)
more_outer x None = Some ([], x)
more_outer x (Some p) = Some (x ∷ p.0, p.1)

-- the parts before the last open bracket, and those of the others
abbrev pub innermost : List (List Part) → Option (List (List Part) × List Part)
innermost [] = None
innermost (x ∷ xs) = more_outer x (innermost xs)

abbrev pub closed_in : Held → List (List Part) × List Part → Option Held
closed_in h p = Some (record { outer = p.0; parts = p.1 ++ BinPart (record { parts = h.parts }) ∷ []; nodes = h.nodes })

-- the last open bracket is closed
unfoldable pub closed : Held → Option Held
closed h = innermost h.outer >>= closed_in h

-- a word that begins a chain or a bin
unfoldable pub begin_part : Held → List ℕ → Option State
begin_part h word =
    cond (bytes_eq word (codes "(")) (opened h >>= λ g. Some (g, Start))
    (cond (is_run Kind word) (Some (h, Element word []))
    (reference_of word >>= λ n. Some (h, Reference n)))

-- a word behind a whole part
unfoldable pub go_on : Held → List ℕ → Option State
go_on h word = cond (bytes_eq word (codes ")")) (closed h >>= λ g. Some (g, Bin)) (begin_part h word)

abbrev pub with_property : Held → List ℕ → List Prop → List ℕ × List ℕ → Option State
with_property h kind props p = said InValue p.1 >>= λ value. Some (h, Element kind (props ++ record { name = p.0; value = value } ∷ []))

abbrev pub element_from : Held → List ℕ → List Prop → List ℕ → Option (List ℕ × List ℕ) → Option State
element_from h kind props word (Some p) = with_property h kind props p
element_from h kind props word None = cond (bytes_eq word (codes "!")) (Some (linked_to h (ElementNode kind props))) (go_on (ended h (ElementNode kind props)) word)

-- a word behind an element
unfoldable pub behind_element : Held → List ℕ → List Prop → List ℕ → Option State
behind_element h kind props word = element_from h kind props word (property_of word)

-- a word behind a link
unfoldable pub behind_link : Held → List ℕ → Option State
behind_link h word =
    cond (begins_caps word) (said InCaps word >>= λ text. Some (h, Caps text))
    (cond (is_run Kind word) (Some (h, Element word []))
    (reference_of word >>= λ n. Some (ended h n, Chain)))

-- a word behind the first ones of caps
unfoldable pub behind_caps : Held → List ℕ → List ℕ → Option State
behind_caps h text word = cond (bytes_eq word (codes "!")) (Some (linked_to h (CapsNode text))) (said InCaps word >>= λ more. Some (h, Caps (text ++ 32 ∷ more)))

-- a word behind the reference that begins a chain
unfoldable pub behind_reference : Held → Node → List ℕ → Option State
behind_reference h first word = cond (bytes_eq word (codes "!")) (Some (linked_to h first)) None

-- one word more
abbrev pub step_from : Held → Last → List ℕ → Option State
step_from h Start word = begin_part h word
step_from h Bin word = go_on h word
step_from h Chain word = go_on h word
step_from h (Element kind props) word = behind_element h kind props word
step_from h Link word = behind_link h word
step_from h (Caps text) word = behind_caps h text word
step_from h (Reference n) word = behind_reference h n word

abbrev pub step : State → List ℕ → Option State
step s word = step_from s.0 s.1 word

-- the words of a line
abbrev pub run : Option State → List (List ℕ) → Option State
run o [] = o
run o (w ∷ ws) = run (o >>= (λ s. step s w)) ws

-- where no bracket is open
abbrev pub whole : Held → Option Tree
whole h = cond (length h.outer == 0) (Some (record { parts = h.parts })) None

-- the end of the line
abbrev pub finish_from : Held → Last → Option Tree
finish_from h Start = None
finish_from h Bin = whole h
finish_from h Chain = whole h
finish_from h (Element kind props) = whole (ended h (ElementNode kind props))
finish_from h Link = None
finish_from h (Caps text) = None
finish_from h (Reference n) = None

abbrev pub finish : State → Option Tree
finish s = finish_from s.0 s.1

-- nothing
abbrev pub none : State
none = (record { outer = []; parts = []; nodes = [] }, Start)

-- the tree of words
abbrev pub tree_of : List (List ℕ) → Option Tree
tree_of words = run (Some none) words >>= finish

-- the word at the front of a text
abbrev pub first_word : List ℕ → List ℕ
first_word text = take (word_length plain text) text

abbrev pub behind_word : List ℕ → List ℕ
behind_word text = drop (word_length plain text) text

-- the words of a text up to a rest, with white space before each word and behind the last one
abbrev pub Splits : List (List ℕ) → List ℕ → List ℕ → Type 0
Splits [] text rest = (white : List ℕ) × (text ≡ white ++ rest) × (list_all is_white white ≡ true)
Splits (w ∷ ws) text rest = (white mid : List ℕ) × (text ≡ white ++ (w ++ mid)) × (list_all is_white white ≡ true) × (0 < length w) × (word_length plain (w ++ mid) ≡ length w) × Splits ws mid rest

-- the text is read up to a rest
pub record Passed (text rest : List ℕ) (state : State) : Type 0 where
  pub words : List (List ℕ)
  pub splits : Splits words text rest
  pub reads : run (Some none) words ≡ Some state

-- the rest can't go on
abbrev pub IsStuck : State → List ℕ → Type 0
IsStuck s [] = finish s ≡ None
IsStuck s (b ∷ bs) = step s (first_word (b ∷ bs)) ≡ None
