-- The text of caps.
use Rattle.std.specs.Prelude.{ℕ, Bool, cond, ◌==◌, ◌||◌, true, false, List, [], ◌∷◌, ◌++◌, Option, Some, None, codes}
use Rattle.std.specs.Fmt.{signed_decimal}
use Rattle.std.specs.List.{flat_map}
use Rattle.gst_value.specs.Description.{Description}
use Rattle.gst_caps.specs.declared.caps.Caps.{Caps}
use Rattle.gst_caps.specs.declared.caps.Caps.TheVariants.{Any, Of}
use Rattle.gst_value.specs.declared.one.One.{One}
use Rattle.gst_value.specs.declared.one.One.TheVariants.{Int, Bool as Truth, Text, Fraction, IntRange}
use Rattle.gst_caps.specs.declared.value.Value.{Value}
use Rattle.gst_caps.specs.declared.value.Value.TheVariants.{One as Single, Many}
use Rattle.caps_text.specs.Bytes.{is_word}
use Rattle.caps_text.specs.Kinds.{kind_of, kind_text}

-- in quotes a double quote and a backslash have a backslash before them
abbrev pub escaped_byte : ℕ → List ℕ
escaped_byte b = cond ((b == 34) || (b == 92)) (92 ∷ b ∷ []) (b ∷ [])

abbrev pub escaped : List ℕ → List ℕ
escaped text = flat_map escaped_byte text

-- a string stands without quotes where it can
abbrev pub string_text : List ℕ → List ℕ
string_text text = cond (is_word text) text (34 ∷ (escaped text ++ 34 ∷ []))

abbrev pub truth_text : Bool → List ℕ
truth_text true = codes "true"
truth_text false = codes "false"

-- a value as it stands behind its type
abbrev pub one_text : One → List ℕ
one_text (Int n) = signed_decimal n
one_text (Truth b) = truth_text b
one_text (Text t) = string_text t
one_text (Fraction num den) = signed_decimal num ++ codes "/" ++ signed_decimal den
one_text (IntRange low high) = codes "[ " ++ signed_decimal low ++ codes ", " ++ signed_decimal high ++ codes " ]"

-- the type of a value, in brackets
abbrev pub type_text : One → List ℕ
type_text one = kind_text (kind_of one)

-- parts with a text between each two
abbrev pub joined_behind : {X : Type 0} → List ℕ → (X → List ℕ) → List X → List ℕ
joined_behind between part [] = []
joined_behind between part (x ∷ xs) = between ++ part x ++ joined_behind between part xs

abbrev pub joined : {X : Type 0} → List ℕ → (X → List ℕ) → List X → List ℕ
joined between part [] = []
joined between part (x ∷ xs) = part x ++ joined_behind between part xs

-- the type of the first member
abbrev pub list_type : List One → List ℕ
list_type [] = []
list_type (x ∷ xs) = type_text x

-- a value with its type: a list has that of its first member
abbrev pub value_text : Value → List ℕ
value_text (Single one) = type_text one ++ one_text one
value_text (Many members) = list_type members ++ codes "{ " ++ joined (codes ", ") one_text members ++ codes " }"

-- a field behind the media type
abbrev pub field_text : {V : Type 0} → (V → List ℕ) → List ℕ × V → List ℕ
field_text value f = codes ", " ++ f.0 ++ codes "=" ++ value f.1

-- a field that may be there
abbrev pub text_at : {V : Type 0} → (V → List ℕ) → Option (List ℕ × V) → List ℕ
text_at value None = []
text_at value (Some f) = field_text value f

-- the media type and the fields in the order of their names
abbrev pub structure_text : {V : Type 0} → (V → List ℕ) → Description V → List ℕ
structure_text value s = s.media ++ flat_map (field_text value) s.fields

-- caps without structures are EMPTY
abbrev pub caps_text : Caps → List ℕ
caps_text Any = codes "ANY"
caps_text (Of []) = codes "EMPTY"
caps_text (Of (s ∷ ss)) = joined (codes "; ") (structure_text value_text) (s ∷ ss)

-- a value of fixed caps with its type
abbrev pub typed_text : One → List ℕ
typed_text one = type_text one ++ one_text one
