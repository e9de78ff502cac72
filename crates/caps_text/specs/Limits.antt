-- Where a text has too many of a kind: 64 members of a list, fields of a structure and structures are the most.
use Rattle.std.specs.Prelude.{◌≡◌, ℕ, ◌<◌, ◌≤◌, ◌++◌, ◌⊎◌, false, List, [], ◌∷◌, Option, Some, None, Result, Ok, Err, length, codes}
use Rattle.gst_caps.specs.Accepts.{value_at}
use Rattle.gst_value.specs.Description.{Description}
use Rattle.gst_caps.specs.declared.caps.Caps.{Caps}
use Rattle.gst_value.specs.declared.one.One.{One}
use Rattle.gst_caps.specs.declared.value.Value.{Value}
use Rattle.caps_text.specs.Bytes.{in_class}
use Rattle.caps_text.specs.Grammar.{Then, Is, Spaces, Mark, Member, Type_word, Field_name, List_step_to, Field_to, Head, Caps_step_to}
use Rattle.caps_text.specs.Kinds.{kind_of}
use Rattle.caps_text.specs.Reading.{Made, Next, again}
use Rattle.caps_text.specs.declared.class.Class.TheVariants.{Word}
use Rattle.caps_text.specs.declared.fault.CapsTextFault.{CapsTextFault}
use Rattle.caps_text.specs.declared.fault.CapsTextFault.TheVariants.{BadCaps, TooMany, OutOfMemory}
use Rattle.caps_text.specs.declared.kind.Kind.{Kind}

-- a step again and again, up to where more is to come
pub data Passed {S V : Type 0} (Step : S → List ℕ → Next S V → Type 0) : S → List ℕ → S → Type 0 where
  here : (s : S) → Passed Step s [] s
  past : (s t u : S) (front back text : List ℕ) → text ≡ front ++ back → Step s front (again t) → Passed Step t back u → Passed Step s text u

-- the members of a list up to the end of one of them
abbrev pub Open_list : Option Kind → List ℕ → List One → Type 0
Open_list kind = Then (Is (codes "{")) (λ o. Then Spaces (λ s. Then (Member kind) (λ first. Passed (List_step_to None (kind_of first)) (first ∷ []))))

abbrev pub Open_value : List ℕ → List One → Type 0
Open_value text members = Then Type_word (λ kind. Then Spaces (λ s. Open_list (Some kind))) text members ⊎ Open_list None text members

-- a field of a new name up to the end of one of the members of its list
abbrev pub Open_field : Description Value → List ℕ → List One → Type 0
Open_field s = Then Field_name (λ name text members. (value_at name s.fields ≡ None) × Then (Mark 61) (λ m. Open_value) text members)

-- a field with which a list has more than 64 members, or the structure more than 64 fields
abbrev pub Excess_field : Description Value → List ℕ → Unit {0} → Type 0
Excess_field s text u = ((members : List One) × Open_field s text members × (64 < length members)) ⊎ ((t : Description Value) × Field_to None s text t × (64 < length t.fields))

-- no byte of a word stands first
abbrev pub Ends_word : List ℕ → Type 0
Ends_word [] = Unit {0}
Ends_word (b ∷ bs) = in_class Word b ≡ false

-- what ends a structure: a semicolon, or the end of the text
abbrev pub Ends_structure : List ℕ → List ℕ → Type 0
Ends_structure text rest = Then Spaces (λ s. Is (codes ";")) text tt ⊎ ((text ≡ []) × (rest ≡ []))

-- a field with which there are too many, or the end of a structure with which there are
abbrev pub Excess_part : Made → List ℕ → List ℕ → Type 0
Excess_part made text rest = (Then (Mark 44) (λ m. Excess_field made.1) text tt × Ends_word rest) ⊎ ((64 ≤ length made.0) × Ends_structure text rest)

-- structures and fields, and then what is too many
abbrev pub Excess : List ℕ → List ℕ → Type 0
Excess text rest = (front back : List ℕ) × (made : Made) × (text ≡ front ++ back) × Then Head (λ s. Passed (Caps_step_to None) ([], s)) front made × Excess_part made back rest

-- some beginning of the text has too many of a kind
abbrev pub HasExcess : List ℕ → Type 0
HasExcess text = (front rest : List ℕ) × (text ≡ front ++ rest) × Excess front rest

-- it is told that there are too many exactly where there are, unless memory is wanting
abbrev pub TellsExcess : List ℕ → Result Caps CapsTextFault → Type 0
TellsExcess text (Ok caps) = ¬ HasExcess text
TellsExcess text (Err (BadCaps place)) = ¬ HasExcess text
TellsExcess text (Err (TooMany count)) = (count ≡ 65) × HasExcess text
TellsExcess text (Err OutOfMemory) = Unit {0}
