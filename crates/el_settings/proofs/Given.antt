-- The given properties one by one.
use Rattle.std.proofs.Common.{◌≡◌, ℕ, ◌+◌, ◌<◌, ◌≤◌, Bool, List, [], ◌∷◌, ◌++◌, length, take, get_or, refl, sym, ap, ◌∙◌, if◌then◌else◌, Option, None, Some, bytes_eq, is_some, MatchOption, true, false, arith}
use Rattle.std.specs.Bool.{⊤}
use Rattle.std.proofs.lemmas.Slice.Eq.{bytes_eq-Decides}
use Rattle.std.specs.Option.{option_map}
use Rattle.std.proofs.lemmas.List.{take_more}
use Rattle.gst_value.specs.declared.name.Prop.{Prop}
use Rattle.el_settings.specs.declared.kind.Kind.{Kind}
use Rattle.el_settings.specs.Values.{IsTaken, AllTaken, or_else, last_value, NumberOr, FormatOr}
use Rattle.el_settings.specs.declared.domain.Domain.{Domain}
use Rattle.el_settings.specs.declared.domain.Domain.TheVariants.{Number, Format, Caps as CapsTexts}
use Rattle.el_settings.specs.Numbers.{IsNumber}
use Rattle.el_settings.specs.Rows.{domain_named, find_row, formats, InDomain}
use Rattle.gst_caps.specs.declared.caps.Caps.{Caps}
use Rattle.audio_info.specs.declared.sample.Sample.{Sample}
use Rattle.caps_text.specs.Grammar.{IsCapsText}
use Rattle.gst_value.proofs.Basics.{some_same}

pub or_else-or_else : {V : Type 0} → (a b c : Option V) → or_else (or_else a b) c ≡ or_else a (or_else b c)
or_else-or_else None b c = refl
or_else-or_else (Some v) b c = refl

abbrev pub own_value : List ℕ → Prop → Option (List ℕ)
own_value name prop = if bytes_eq prop.name name then Some prop.value else None

-- one more property behind the others
last_push : (name : List ℕ) (props : List Prop) (prop : Prop) → last_value name (props ++ prop ∷ []) ≡ or_else (own_value name prop) (last_value name props)
last_push name [] prop = go (own_value name prop)
  where
    go : (o : Option (List ℕ)) → or_else None o ≡ or_else o None
    go None = refl
    go (Some v) = refl
last_push name (p ∷ ps) prop = ap (λ o. or_else o (own_value name p)) (last_push name ps prop) ∙ or_else-or_else (own_value name prop) (last_value name ps) (own_value name p)

pub last_more : (name : List ℕ) (props : List Prop) (i : ℕ) (prop : Prop) → i < length props → prop ≡ get_or props i prop
    → last_value name (take (i + 1) props) ≡ or_else (own_value name prop) (last_value name (take i props))
last_more name props i prop within is =
    ap (last_value name) (take_more props i prop within ∙ ap (λ p. take i props ++ p ∷ []) (sym is)) ∙ last_push name (take i props) prop

taken_push : (kind : Kind) (props : List Prop) (prop : Prop) → AllTaken kind props → IsTaken kind prop → AllTaken kind (props ++ prop ∷ [])
taken_push kind [] prop all one = (one, tt)
taken_push kind (p ∷ ps) prop all one = (all.0, taken_push kind ps prop all.1 one)

pub taken_more : (kind : Kind) (props : List Prop) (i : ℕ) (prop : Prop) → i < length props → prop ≡ get_or props i prop
    → AllTaken kind (take i props) → IsTaken kind prop → AllTaken kind (take (i + 1) props)
taken_more kind props i prop within is all one =
    rw (take_more props i prop within, ← is) (taken_push kind (take i props) prop all one)

pub value_then : (name : List ℕ) (props : List Prop) (i : ℕ) (prop : Prop) (found : Option (List ℕ)) → i < length props → prop ≡ get_or props i prop
    → bytes_eq prop.name name ≡ true → found ≡ Some prop.value → found ≡ last_value name (take (i + 1) props)
value_then name props i prop found within is same e = e ∙ sym (last_more name props i prop within is ∙ rw same refl)

pub value_else : (name : List ℕ) (props : List Prop) (i : ℕ) (prop : Prop) (found : Option (List ℕ)) → i < length props → prop ≡ get_or props i prop
    → bytes_eq prop.name name ≡ false → found ≡ last_value name (take i props) → found ≡ last_value name (take (i + 1) props)
value_else name props i prop found within is other e = e ∙ sym (last_more name props i prop within is ∙ rw other refl)

-- the value that counts is one of its property
taken_own : (kind : Kind) (name : List ℕ) (domain : Domain) (prop : Prop) → domain_named kind name ≡ Some domain → IsTaken kind prop
    → (b : Bool) → bytes_eq prop.name name ≡ b → (text : List ℕ) → (if b then Some prop.value else None) ≡ Some text → InDomain domain text
taken_own kind name domain prop row own true same text e =
    let words : prop.name ≡ name = (bytes_eq-Decides prop.name name).0 same in
    let rows : Some own.0 ≡ Some domain = sym own.1 ∙ ap (domain_named kind) words ∙ row in
    moved own.0 domain prop.value text (some_same rows) (some_same e) own.2
  where
    moved : (d f : Domain) (t u : List ℕ) → d ≡ f → t ≡ u → InDomain d t → InDomain f u
    moved d f t u e g s = rw (← e, ← g) s
taken_own kind name domain prop row own false same text e = absurd (cc)

pub taken_value : (kind : Kind) (name : List ℕ) (domain : Domain) (props : List Prop) → domain_named kind name ≡ Some domain → AllTaken kind props
    → (text : List ℕ) → last_value name props ≡ Some text → InDomain domain text
taken_value kind name domain [] row all text e = absurd (cc)
taken_value kind name domain (prop ∷ props) row all text e = go (last_value name props) refl (taken_value kind name domain props row all.1 text) e
  where
    go : (later : Option (List ℕ)) → last_value name props ≡ later → (last_value name props ≡ Some text → InDomain domain text)
        → or_else later (own_value name prop) ≡ Some text → InDomain domain text
    go None same known e = taken_own kind name domain prop row all.0 (bytes_eq prop.name name) refl text e
    go (Some v) same known e = known (same ∙ e)

-- a number that fits is the one that is given
pub number_is : (kind : Kind) (name : List ℕ) (least most limit plain : ℕ) (props : List Prop) (r : ℕ)
    → domain_named kind name ≡ Some (Number least most) → most < limit → AllTaken kind props
    → MatchOption (last_value name props) (r ≡ plain) (λ text. (n : ℕ) → IsNumber text n → n < limit → r ≡ n)
    → NumberOr name plain props r
number_is kind name least most limit plain props r row fits all given = go (last_value name props) refl given
  where
    go : (o : Option (List ℕ)) → last_value name props ≡ o → MatchOption o (r ≡ plain) (λ text. (n : ℕ) → IsNumber text n → n < limit → r ≡ n)
        → MatchOption o (r ≡ plain) (λ text. IsNumber text r)
    go None same e = e
    go (Some text) same e =
        let n = taken_value kind name (Number least most) props row all text same in
        rw (e n.0 n.1 (omega (arith, fits, n.3))) n.1

-- and so is a format
pub format_is : (kind : Kind) (name : List ℕ) (plain : Sample) (props : List Prop) (r : Sample) → domain_named kind name ≡ Some Format → AllTaken kind props
    → MatchOption (last_value name props) (r ≡ plain) (λ text. (format : Sample) → find_row text formats ≡ Some format → r ≡ format)
    → FormatOr name plain props r
format_is kind name plain props r row all given = go (last_value name props) refl given
  where
    read : (text : List ℕ) (o : Option Sample) → find_row text formats ≡ o → is_some o ≡ true → ((format : Sample) → find_row text formats ≡ Some format → r ≡ format)
        → find_row text formats ≡ Some r
    read text None is some e = absurd (cc)
    read text (Some format) is some e = is ∙ ap (λ f. Some f) (sym (e format is))

    go : (o : Option (List ℕ)) → last_value name props ≡ o → MatchOption o (r ≡ plain) (λ text. (format : Sample) → find_row text formats ≡ Some format → r ≡ format)
        → MatchOption o (r ≡ plain) (λ text. find_row text formats ≡ Some r)
    go None same e = e
    go (Some text) same e = read text (find_row text formats) refl (taken_value kind name Format props row all text same) e

pub caps_taken : {V : Type 0} (f : V → List ℕ) (kind : Kind) (name : List ℕ) (props : List Prop) → domain_named kind name ≡ Some CapsTexts → AllTaken kind props
    → (o : Option V) → option_map f o ≡ last_value name props → MatchOption o ⊤ (λ v. (caps : Caps) × IsCapsText (f v) caps)
caps_taken f kind name props row all None e = tt
caps_taken f kind name props row all (Some v) e = taken_value kind name CapsTexts props row all (f v) (sym e)

-- and it is one of its property
pub number_within : (kind : Kind) (name : List ℕ) (least most plain : ℕ) (props : List Prop) (r : ℕ)
    → domain_named kind name ≡ Some (Number least most) → least ≤ plain → plain ≤ most → AllTaken kind props → NumberOr name plain props r
    → (least ≤ r) × (r ≤ most)
number_within kind name least most plain props r row some few all given = go (last_value name props) refl given
  where
    go : (o : Option (List ℕ)) → last_value name props ≡ o → MatchOption o (r ≡ plain) (λ text. IsNumber text r) → (least ≤ r) × (r ≤ most)
    go None same e = rw e (some, few)
    go (Some text) same is =
        let n = taken_value kind name (Number least most) props row all text same in
        let value : r ≡ n.0 = sym is.2 ∙ n.1.2 in
        rw value (n.2, n.3)
