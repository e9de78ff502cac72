-- What `parse` answers.
use Rattle.std.specs.Prelude.{◌≡◌, ℕ, ◌-◌, ◌≤◌, List, Result, Ok, Err, length, min}
use Rattle.gst_value.specs.Description.{Description}
use Rattle.gst_caps.specs.declared.caps.Caps.{Caps}
use Rattle.gst_caps.specs.declared.caps.Caps.TheVariants.{Of}
use Rattle.gst_caps.specs.declared.value.Value.{Value}
use Rattle.caps_text.specs.Answers.{Answer, misspelt, many}
use Rattle.caps_text.specs.declared.fault.Refusal.{Refusal}
use Rattle.caps_text.specs.declared.fault.Refusal.TheVariants.{Misspelt as Misspelling, TooMany as TooManyOfAKind, OutOfMemory as NoMemory}
use Rattle.caps_text.specs.declared.fault.CapsTextFault.{CapsTextFault}
use Rattle.caps_text.specs.declared.fault.CapsTextFault.TheVariants.{BadCaps, TooMany, OutOfMemory}

-- a place of 32 bits, or the largest where it is more
abbrev pub as_place : ℕ → ℕ
as_place n = min n 4294967295

-- the fault of a refusal at a place
abbrev pub fault_of : Refusal → ℕ → CapsTextFault
fault_of Misspelling place = BadCaps (as_place place)
fault_of TooManyOfAKind place = TooMany 65
fault_of NoMemory place = OutOfMemory

-- what is told of structures that were read from a text
abbrev pub Told : List ℕ → Result Caps CapsTextFault → Answer (List (Description Value)) → Type 0
Told text (Ok caps) answer = (ss : List (Description Value)) × (rest : List ℕ) × (answer ≡ Ok (ss, rest)) × (caps ≡ Of ss)
Told text (Err (BadCaps place)) answer = (rest : List ℕ) × (answer ≡ Err (misspelt rest)) × (place ≡ as_place (length text - length rest))
Told text (Err (TooMany count)) answer = (answer ≡ Err many) × (count ≡ 65)
Told text (Err OutOfMemory) answer = Unit {0}

-- the answer is these caps, unless memory is wanting
abbrev pub AnswersCaps : Result Caps CapsTextFault → Caps → Type 0
AnswersCaps (Ok caps) wanted = caps ≡ wanted
AnswersCaps (Err (BadCaps place)) wanted = ⊥
AnswersCaps (Err (TooMany count)) wanted = ⊥
AnswersCaps (Err OutOfMemory) wanted = Unit {0}

-- a place is within the text, and a count is 65
abbrev pub IsFaultOf : List ℕ → CapsTextFault → Type 0
IsFaultOf text (BadCaps place) = place ≤ as_place (length text)
IsFaultOf text (TooMany count) = count ≡ 65
IsFaultOf text OutOfMemory = Unit {0}
