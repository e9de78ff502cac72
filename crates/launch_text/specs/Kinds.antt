-- Why a text is no line.
use Rattle.std.specs.Prelude.{ℕ, Bool, true, false, cond, ◌==◌, ◌&&◌, ◌||◌, not, List, codes, length, nat_lt, nat_le}
use Rattle.std.specs.Str.{bytes_eq}
use Rattle.text_words.specs.Words.{is_closed}
use Rattle.launch_text.specs.Places.{begins}
use Rattle.launch_text.specs.Words.{begins_caps}
use Rattle.launch_text.specs.declared.fault.LineKind.{LineKind}
use Rattle.launch_text.specs.declared.fault.LineKind.TheVariants.{EmptyLink, TrailingLink, Unclosed, BadRef, CapsEnd, Deep, Empty, BadName}
use Rattle.launch_text.specs.declared.front.Spot.{Spot}
use Rattle.launch_text.specs.declared.front.Spot.TheVariants.{Start, Bin, Chain, Element, Link, Caps, Reference}

-- a word that is a bracket
abbrev pub is_bracket : List ℕ → Bool
is_bracket word = bytes_eq word (codes "(") || bytes_eq word (codes ")")

-- where a part may begin
abbrev pub takes_parts : Spot → Bool
takes_parts Start = true
takes_parts Bin = true
takes_parts Chain = true
takes_parts Element = true
takes_parts Link = false
takes_parts Caps = false
takes_parts Reference = false

-- `!` stands where a node must begin
abbrev pub is_empty_link : Spot → List ℕ → Bool
is_empty_link Start word = bytes_eq word (codes "!")
is_empty_link Bin word = false
is_empty_link Chain word = false
is_empty_link Element word = false
is_empty_link Link word = bytes_eq word (codes "!")
is_empty_link Caps word = false
is_empty_link Reference word = false

-- the text ends, or `)` stands, behind `!`
abbrev pub is_trailing_link : Spot → List ℕ → Bool
is_trailing_link Start word = false
is_trailing_link Bin word = false
is_trailing_link Chain word = false
is_trailing_link Element word = false
is_trailing_link Link word = (length word == 0) || bytes_eq word (codes ")")
is_trailing_link Caps word = false
is_trailing_link Reference word = false

-- the place is the text's end, which is in a bracket, in quotes or behind a backslash
abbrev pub is_unclosed : ℕ → ℕ → ℕ → List ℕ → Bool
is_unclosed size place depth word = (place == size) && (nat_lt 0 depth || not (is_closed word))

-- a reference stands alone or in the middle
abbrev pub is_bad_reference : Spot → List ℕ → Bool
is_bad_reference Start word = false
is_bad_reference Bin word = false
is_bad_reference Chain word = bytes_eq word (codes "!")
is_bad_reference Element word = false
is_bad_reference Link word = false
is_bad_reference Caps word = false
is_bad_reference Reference word = true

-- caps stand first or last
abbrev pub is_caps_end : Spot → List ℕ → Bool
is_caps_end Start word = begins_caps word
is_caps_end Bin word = begins_caps word
is_caps_end Chain word = begins_caps word
is_caps_end Element word = begins_caps word
is_caps_end Link word = false
is_caps_end Caps word = true
is_caps_end Reference word = false

-- a 17th open bracket
abbrev pub is_deep : Spot → ℕ → List ℕ → Bool
is_deep spot depth word = takes_parts spot && (nat_le 16 depth && begins 40 word)

-- the first of these that fits, and else that the text has no node, or any other reason
abbrev pub kind_of : ℕ → ℕ → Spot → ℕ → List ℕ → Bool → LineKind
kind_of size place spot depth word bare =
    cond (is_empty_link spot word) EmptyLink
    (cond (is_trailing_link spot word) TrailingLink
    (cond (is_unclosed size place depth word) Unclosed
    (cond (is_bad_reference spot word) BadRef
    (cond (is_caps_end spot word) CapsEnd
    (cond (is_deep spot depth word) Deep
    (cond bare Empty BadName))))))
