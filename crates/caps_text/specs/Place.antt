-- Where a text is refused: how long its beginning is that some caps text begins with, limits aside.
use Rattle.std.specs.Prelude.{◌≡◌, ℕ, ◌<◌, ◌≤◌, ◌++◌, List, None, length, take}
use Rattle.gst_caps.specs.declared.caps.Caps.{Caps}
use Rattle.caps_text.specs.Grammar.{IsCapsTextTo}
use Rattle.caps_text.specs.Parsed.{as_place}
use Rattle.caps_text.specs.declared.fault.CapsTextFault.{CapsTextFault}
use Rattle.caps_text.specs.declared.fault.CapsTextFault.TheVariants.{BadCaps, TooMany, OutOfMemory}

-- the text stands for some caps where a list, a structure and caps may hold any number
abbrev pub StandsUnlimited : List ℕ → Type 0
StandsUnlimited text = (caps : Caps) × IsCapsTextTo None text caps

-- some bytes behind the text, whatever they are, make it such a text
abbrev pub BeginsSome : List ℕ → Type 0
BeginsSome text = (more : List ℕ) × StandsUnlimited (text ++ more)

-- the longest beginning of the text that begins a caps text, limits aside, is of this length
abbrev pub IsLongest : List ℕ → ℕ → Type 0
IsLongest text place = (place ≤ length text) × BeginsSome (take place text) × ((n : ℕ) → place < n → n ≤ length text → ¬ BeginsSome (take n text))

-- a text that is refused for its spelling is refused behind that beginning
abbrev pub IsPlace : List ℕ → CapsTextFault → Type 0
IsPlace text (BadCaps place) = (n : ℕ) × IsLongest text n × (place ≡ as_place n)
IsPlace text (TooMany count) = Unit {0}
IsPlace text OutOfMemory = Unit {0}
