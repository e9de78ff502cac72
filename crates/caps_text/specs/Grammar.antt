-- The grammar of caps texts: which text stands for which value, part by part.
use Rattle.std.specs.Prelude.{◌≡◌, ◌≢◌, ℕ, ◌+◌, ◌-◌, ◌*◌, ◌<◌, ◌≤◌, ◌==◌, ◌++◌, ◌⊎◌, ℤ, Bool, true, false, List, [], ◌∷◌, Option, Some, None, length, codes}
use Rattle.std.specs.List.{list_all}
use Rattle.gst_caps.specs.Accepts.{value_at}
use Rattle.gst_caps.specs.Common.{as_value}
use Rattle.gst_value.specs.Description.{Description}
use Rattle.gst_value.specs.Fractions.{signed}
use Rattle.gst_caps.specs.declared.caps.Caps.{Caps}
use Rattle.gst_caps.specs.declared.caps.Caps.TheVariants.{Any, Of}
use Rattle.gst_value.specs.declared.one.One.{One}
use Rattle.gst_value.specs.declared.one.One.TheVariants.{Int, Bool as Truth, Text}
use Rattle.gst_caps.specs.declared.value.Value.{Value}
use Rattle.gst_caps.specs.declared.value.Value.TheVariants.{One as Single}
use Rattle.caps_text.specs.Bytes.{in_class, is_digit}
use Rattle.caps_text.specs.Kinds.{kind_of, kind_text}
use Rattle.caps_text.specs.Ratio.{fits, ratio}
use Rattle.caps_text.specs.Reading.{Made, Next, again, bare, done, is_wanted, judge_words, kept_member, letter_first, range, takes_ranges, with_field}
use Rattle.caps_text.specs.declared.class.Class.{Class}
use Rattle.caps_text.specs.declared.class.Class.TheVariants.{Media, Name, Word}
use Rattle.caps_text.specs.declared.kind.Kind.{Kind}
use Rattle.caps_text.specs.declared.kind.Kind.TheVariants.{Int as Whole, Bool as Either, Text as Words, Fraction as Ratio}
use Rattle.caps_text.specs.declared.number.Wanted.{Wanted}
use Rattle.caps_text.specs.declared.number.Wanted.TheVariants.{AtLeast}

-- one part and then another
abbrev pub Then : {V W : Type 0} → (List ℕ → V → Type 0) → (V → List ℕ → W → Type 0) → List ℕ → W → Type 0
Then {V} P Q text w = (front back : List ℕ) × (v : V) × (text ≡ front ++ back) × P front v × Q v back w

-- a part whose value is made into another
abbrev pub As : {V W : Type 0} → (V → W) → (List ℕ → V → Type 0) → List ℕ → W → Type 0
As {V} f P text w = (v : V) × P text v × (w ≡ f v)

-- a part whose value may stand for nothing
abbrev pub Sure : {V W : Type 0} → (V → Option W) → (List ℕ → V → Type 0) → List ℕ → W → Type 0
Sure {V} f P text w = (v : V) × P text v × (f v ≡ Some w)

-- this text
abbrev pub Is : List ℕ → List ℕ → Unit {0} → Type 0
Is wanted text u = text ≡ wanted

abbrev pub is_space : ℕ → Bool
is_space b = b == 32

-- spaces, or none
abbrev pub Spaces : List ℕ → Unit {0} → Type 0
Spaces text u = list_all is_space text ≡ true

-- a mark with spaces before and behind it
abbrev pub Mark : ℕ → List ℕ → Unit {0} → Type 0
Mark mark = Then Spaces (λ s. Then (Is (mark ∷ [])) (λ m. Spaces))

-- bytes of a class, one or more
abbrev pub Run : Class → List ℕ → List ℕ → Type 0
Run class text run = (run ≡ text) × (0 < length text) × (list_all (in_class class) text ≡ true)

-- a media type: two names with a slash between
abbrev pub Media_type : List ℕ → List ℕ → Type 0
Media_type = Then (Run Media) (λ above. Then (Is (codes "/")) (λ s. As (λ below. above ++ codes "/" ++ below) (Run Media)))

-- the name of a field begins with a letter
abbrev pub Field_name : List ℕ → List ℕ → Type 0
Field_name text name = Run Name text name × (letter_first text ≡ true)

-- the size that digits write behind those of size
abbrev pub size_after : ℕ → List ℕ → ℕ
size_after size [] = size
size_after size (b ∷ bs) = size_after (size * 10 + (b - 48)) bs

-- decimal digits, one or more
abbrev pub Digits : List ℕ → ℕ → Type 0
Digits text size = (size ≡ size_after 0 text) × (0 < length text) × (list_all is_digit text ≡ true)

-- digits, or a minus and digits, that write a number of 32 bits
abbrev pub Number : List ℕ → ℤ → Type 0
Number text n =
    ((size : ℕ) × Digits text size × (fits false size ≡ true) × (n ≡ signed false size))
    ⊎ ((digits : List ℕ) × (size : ℕ) × (text ≡ 45 ∷ digits) × Digits digits size × (fits true size ≡ true) × (n ≡ signed true size))

-- a number that is one of those that are wanted
abbrev pub Wanted_number : Wanted → List ℕ → ℤ → Type 0
Wanted_number w text n = Number text n × (is_wanted w n ≡ true)

-- two numbers with a slash between
abbrev pub Pair : List ℕ → ℤ × ℤ → Type 0
Pair = Then Number (λ num. Then (Is (codes "/")) (λ s. As (λ den. (num, den)) Number))

-- a fraction
abbrev pub Quotient : List ℕ → One → Type 0
Quotient = Then Number (λ num. Then (Is (codes "/")) (λ s. Sure (λ den. ratio num den) Number))

-- what stands between the quotes of a string: each byte as it is, or behind a backslash, which a double quote and a
-- backslash need
abbrev pub Quoted : List ℕ → List ℕ → Type 0
Quoted text [] = text ≡ []
Quoted text (b ∷ bs) = (rest : List ℕ) × (((text ≡ b ∷ rest) × (b ≢ 34) × (b ≢ 92)) ⊎ (text ≡ 92 ∷ b ∷ rest)) × Quoted rest bs

abbrev pub In_quotes : List ℕ → List ℕ → Type 0
In_quotes text t = (body : List ℕ) × (text ≡ 34 ∷ (body ++ 34 ∷ [])) × Quoted body t

-- a string: a word, or in quotes
abbrev pub Some_string : List ℕ → List ℕ → Type 0
Some_string text t = Run Word text t ⊎ In_quotes text t

-- true or false
abbrev pub Truth_value : List ℕ → Bool → Type 0
Truth_value text b = ((text ≡ codes "true") × (b ≡ true)) ⊎ ((text ≡ codes "false") × (b ≡ false))

-- a word without type is a number where it is spelled so, else a fraction where it is two numbers with a slash between,
-- else a truth value or a string
abbrev pub Bare_word : List ℕ → One → Type 0
Bare_word text one =
    ((n : ℤ) × Number text n × (one ≡ Int n))
    ⊎ Quotient text one
    ⊎ (((n : ℤ) → ¬ Number text n) × ((p : ℤ × ℤ) → ¬ Pair text p) × (one ≡ judge_words text))

-- a value without type
abbrev pub Untyped : List ℕ → One → Type 0
Untyped text one = (Run Word text text × Bare_word text one) ⊎ ((t : List ℕ) × In_quotes text t × (one ≡ Text t))

-- a single value of a type, or of the type that it reads as
abbrev pub Single_value : Option Kind → List ℕ → One → Type 0
Single_value None text one = Untyped text one
Single_value (Some Whole) text one = As Int Number text one
Single_value (Some Words) text one = As Text Some_string text one
Single_value (Some Either) text one = As Truth Truth_value text one
Single_value (Some Ratio) text one = Quotient text one

-- a range of whole numbers, from the first to the second, which is not less
abbrev pub Range : List ℕ → One → Type 0
Range = Then (Is (codes "[")) (λ o. Then Spaces (λ s. Then Number (λ low. Then (Mark 44) (λ m. Then (Wanted_number (AtLeast low)) (λ high. Then Spaces (λ t. As (λ e. range low high) (Is (codes "]"))))))))

-- a single value or a range
abbrev pub Member : Option Kind → List ℕ → One → Type 0
Member kind text one = ((takes_ranges kind ≡ true) × Range text one) ⊎ Single_value kind text one

-- a step again and again up to the last
pub data Repeated {S V : Type 0} (Step : S → List ℕ → Next S V → Type 0) : S → List ℕ → V → Type 0 where
  last : (s : S) (text : List ℕ) (v : V) → Step s text (done v) → Repeated Step s text v
  more : (s t : S) (front back text : List ℕ) (v : V) → text ≡ front ++ back → Step s front (again t) → Repeated Step t back v → Repeated Step s text v

-- the most members of a list, fields of a structure and structures of a text, where there is a limit
abbrev pub Limit : Type 0
Limit = Option ℕ

-- so many are not too many
abbrev pub Allows : Limit → ℕ → Type 0
Allows None count = Unit {0}
Allows (Some most) count = count ≤ most

-- so many and one more are not too many
abbrev pub Allows_more : Limit → ℕ → Type 0
Allows_more None count = Unit {0}
Allows_more (Some most) count = count ≤ most - 1

-- the limit of caps texts
abbrev pub the_limit : Limit
the_limit = Some 64

-- the end of a list, or a comma and a member, where members that are equal are kept once
abbrev pub List_step_to : Limit → Kind → List One → List ℕ → Next (List One) (List One) → Type 0
List_step_to limit kind members text next =
    (Then Spaces (λ s. Is (codes "}")) text tt × (next ≡ done members))
    ⊎ ((one : One) × Then (Mark 44) (λ m. Member (Some kind)) text one × Allows limit (length (kept_member members one)) × (next ≡ again (kept_member members one)))

abbrev pub List_step : Kind → List One → List ℕ → Next (List One) (List One) → Type 0
List_step = List_step_to the_limit

-- a list of one member or more, all of the type of the first; one member stands alone
abbrev pub List_to : Limit → Option Kind → List ℕ → Value → Type 0
List_to limit kind = Then (Is (codes "{")) (λ o. Then Spaces (λ s. Then (Member kind) (λ first. As as_value (Repeated (List_step_to limit (kind_of first)) (first ∷ [])))))

abbrev pub List_of : Option Kind → List ℕ → Value → Type 0
List_of = List_to the_limit

-- a value behind its type, if it has one
abbrev pub Plain_value_to : Limit → Option Kind → List ℕ → Value → Type 0
Plain_value_to limit kind text v = List_to limit kind text v ⊎ As Single (Member kind) text v

abbrev pub Plain_value : Option Kind → List ℕ → Value → Type 0
Plain_value = Plain_value_to the_limit

-- the word of a type
abbrev pub Type_word : List ℕ → Kind → Type 0
Type_word text kind = text ≡ kind_text kind

-- a value, with a type before it or without one
abbrev pub Field_value_to : Limit → List ℕ → Value → Type 0
Field_value_to limit text v = Then Type_word (λ kind. Then Spaces (λ s. Plain_value_to limit (Some kind))) text v ⊎ Plain_value_to limit None text v

abbrev pub Field_value : List ℕ → Value → Type 0
Field_value = Field_value_to the_limit

-- a field of a new name, with which there are not too many
abbrev pub Rest_of_field_to : Limit → Description Value → List ℕ → List ℕ → Description Value → Type 0
Rest_of_field_to limit s name text t = (value_at name s.fields ≡ None) × Then (Mark 61) (λ m. As (with_field s name) (Field_value_to limit)) text t × Allows limit (length t.fields)

abbrev pub Rest_of_field : Description Value → List ℕ → List ℕ → Description Value → Type 0
Rest_of_field = Rest_of_field_to the_limit

abbrev pub Field_to : Limit → Description Value → List ℕ → Description Value → Type 0
Field_to limit s = Then Field_name (Rest_of_field_to limit s)

abbrev pub Field : Description Value → List ℕ → Description Value → Type 0
Field = Field_to the_limit

-- a structure without fields
abbrev pub Head : List ℕ → Description Value → Type 0
Head = As bare Media_type

-- the end of the text, a comma and a field, or a semicolon and another structure, where there are not too many
abbrev pub Caps_step_to : Limit → Made → List ℕ → Next Made (List (Description Value)) → Type 0
Caps_step_to limit made text next =
    ((text ≡ []) × Allows_more limit (length made.0) × (next ≡ done (made.0 ++ made.1 ∷ [])))
    ⊎ ((s : Description Value) × Then (Mark 44) (λ m. Field_to limit made.1) text s × (next ≡ again (made.0, s)))
    ⊎ ((s : Description Value) × Then (Mark 59) (λ m. Head) text s × Allows_more limit (length made.0) × (next ≡ again (made.0 ++ made.1 ∷ [], s)))

abbrev pub Caps_step : Made → List ℕ → Next Made (List (Description Value)) → Type 0
Caps_step = Caps_step_to the_limit

-- structures with semicolons between
abbrev pub Structures_to : Limit → List ℕ → List (Description Value) → Type 0
Structures_to limit = Then Head (λ s. Repeated (Caps_step_to limit) ([], s))

abbrev pub Structures : List ℕ → List (Description Value) → Type 0
Structures = Structures_to the_limit

-- the text stands for the caps: ANY, EMPTY for no structures, or structures
abbrev pub IsCapsTextTo : Limit → List ℕ → Caps → Type 0
IsCapsTextTo limit text caps =
    ((text ≡ codes "ANY") × (caps ≡ Any))
    ⊎ ((text ≡ codes "EMPTY") × (caps ≡ Of []))
    ⊎ ((ss : List (Description Value)) × Structures_to limit text ss × (caps ≡ Of ss))

-- a list, a structure and caps hold at most 64 of a kind
abbrev pub IsCapsText : List ℕ → Caps → Type 0
IsCapsText = IsCapsTextTo the_limit
