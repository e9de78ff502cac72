-- What the grammar gives are values: fractions in lowest terms, ranges in order, lists of one type.
use Rattle.std.proofs.Common.{◌≡◌, ℕ, ◌<◌, ◌≤◌, ◌/◌, ◌≤ℤ◌, ℤ, pos, Bool, true, false, cond, eqb, ◌&&◌, not, List, [], ◌∷◌, ◌++◌, length, Option, Some, None, IfSome, SomeIff, FitsSigned, unsigned_abs, inl, inr, refl, sym, ap, ◌∙◌, subst, arith, length-append}
use Rattle.std.specs.Prelude.{int_le}
use Rattle.std.specs.Int.{is_negative, w32}
use Rattle.std.specs.Ordering.{int_eq}
use Rattle.std.specs.Bool.{beq}
use Rattle.std.specs.List.{list_any}
use Rattle.std.proofs.lemmas.Bool.Decides.{eqb_tells}
use Rattle.std.proofs.lemmas.Int.{ints}
use Rattle.gst_value.proofs.Fractions.{when_lowest}
use Rattle.gst_value.proofs.Lists.{Each-append}
use Rattle.gst_caps.specs.Common.{as_value}
use Rattle.gst_value.specs.Common.{same}
use Rattle.gst_value.specs.Fractions.{signed}
use Rattle.gst_value.specs.Names.{Each}
use Rattle.gst_value.specs.Values.{IsOne, IsSingle, kind_of as gst_kind_of, Kind as GstKind, whole, truth, words, ratio as ratio_kind}
use Rattle.gst_caps.specs.Values.{IsValue}
use Rattle.gst_value.specs.declared.one.One.{One}
use Rattle.gst_value.specs.declared.one.One.TheVariants.{Int, Bool as Truth, Text, Fraction, IntRange}
use Rattle.gst_caps.specs.declared.value.Value.{Value}
use Rattle.caps_text.specs.Grammar.{Member, Single_value, Bare_word, Quotient, Range, List_step, List_of, Plain_value, Field_value, Repeated, last, more}
use Rattle.caps_text.specs.Kinds.{kind_of}
use Rattle.caps_text.specs.Ratio.{divisor, fits, parts, ratio}
use Rattle.caps_text.specs.Reading.{again, done, kept_member}
use Rattle.caps_text.specs.declared.kind.Kind.{Kind}
use Rattle.caps_text.specs.declared.kind.Kind.TheVariants.{Int as Whole, Bool as Either, Text as Words, Fraction as Quotients}
use Rattle.caps_text.proofs.Ratios.{IsGcd-divisor, fits_from, fits_to}

-- the kinds of the two crates
kind_in : Kind → GstKind
kind_in Whole = whole
kind_in Either = truth
kind_in Words = words
kind_in Quotients = ratio_kind

kinds_agree : (one : One) → gst_kind_of one ≡ kind_in (kind_of one)
unfolding kind_in
kinds_agree (Int n) = refl
kinds_agree (Truth b) = refl
kinds_agree (Text t) = refl
kinds_agree (Fraction n d) = refl
kinds_agree (IntRange a b) = refl

-- a fraction is in lowest terms
pub parts_when : (s : Bool) (above below : ℕ) → SomeIff (parts s above below) (FitsSigned w32 (signed s above) × FitsSigned w32 (pos below)) (Fraction (signed s above) (pos below))
parts_when s above below = step (fits s above) (fits false below) refl refl
  where
    step : (a b : Bool) → fits s above ≡ a → fits false below ≡ b → SomeIff (cond {A = Option One} (a && b) (Some (Fraction (signed s above) (pos below))) None) (FitsSigned w32 (signed s above) × FitsSigned w32 (pos below)) (Fraction (signed s above) (pos below))
    step true true e f = ((fits_from s above e, fits_from false below f), refl)
    step true false e f = λ h. let bad : true ≡ false = sym (fits_to false below h.1) ∙ f in cc
    step false b e f = λ h. let bad : true ≡ false = sym (fits_to s above h.0) ∙ e in cc

pub some_then : {A : Type 0} (P : A → Type 0) (o : Option A) (x : A) → IfSome o P → o ≡ Some x → P x
some_then P None x h e = absurd (cc)
some_then P (Some y) x h e = let is : y ≡ x = cc in subst P is h

pub ratio_single : (num den : ℤ) (one : One) → ratio num den ≡ Some one → IsSingle one
ratio_single num den one h = elim (eqb_tells (unsigned_abs den) 0) [
  | inl t ↦ absurd (let bad : None ≡ Some one = sym (ap (λ b. cond {A = Option One} b None (parts sign (unsigned_abs num / g) (unsigned_abs den / g))) t.0) ∙ h in cc)
  | inr t ↦
      let some : 0 < unsigned_abs den = omega (arith, t.1) in
      let is : parts sign (unsigned_abs num / g) (unsigned_abs den / g) ≡ Some one = sym (ap (λ b. cond {A = Option One} b None (parts sign (unsigned_abs num / g) (unsigned_abs den / g))) t.0) ∙ h in
      some_then IsSingle (parts sign (unsigned_abs num / g) (unsigned_abs den / g)) one
      (when_lowest num den (unsigned_abs num) (unsigned_abs den) g (is_negative num) (is_negative den) refl refl (IsGcd-divisor (unsigned_abs num) (unsigned_abs den)) some refl refl _ (parts_when sign (unsigned_abs num / g) (unsigned_abs den / g)))
      is
]
  where
    g : ℕ
    g = divisor (unsigned_abs num) (unsigned_abs den)

    sign : Bool
    sign = not (beq (is_negative num) (is_negative den))

single_one : (one : One) → IsSingle one → IsOne one
single_one (Int n) h = tt
single_one (Truth b) h = tt
single_one (Text t) h = tt
single_one (Fraction n d) h = h
single_one (IntRange a b) h = absurd h

pub ratio_kind_is : (num den : ℤ) (one : One) → ratio num den ≡ Some one → kind_of one ≡ Quotients
ratio_kind_is num den one h = step (eqb (unsigned_abs den) 0) (fits sign (unsigned_abs num / g) && fits false (unsigned_abs den / g)) h
  where
    g : ℕ
    g = divisor (unsigned_abs num) (unsigned_abs den)

    sign : Bool
    sign = not (beq (is_negative num) (is_negative den))

    step : (a b : Bool) → cond {A = Option One} a None (cond {A = Option One} b (Some (Fraction (signed sign (unsigned_abs num / g)) (pos (unsigned_abs den / g)))) None) ≡ Some one → kind_of one ≡ Quotients
    step true b k = absurd (cc)
    step false true k = let is : one ≡ Fraction (signed sign (unsigned_abs num / g)) (pos (unsigned_abs den / g)) = cc in ap kind_of is
    step false false k = absurd (cc)

range_cases : (t : Bool) (low high : ℤ) → low ≤ℤ high → IsOne (cond {A = One} t (Int low) (IntRange low high)) × (kind_of (cond {A = One} t (Int low) (IntRange low high)) ≡ Whole)
range_cases true low high h = (tt, refl)
range_cases false low high h = (h, refl)

int_le_is : (a b : ℤ) → int_le a b ≡ true → a ≤ℤ b
int_le_is a b h = grind (arith, ints)

-- a value that is fit, and of the type where one is wanted
abbrev Good : Option Kind → One → Type 0
Good None one = IsOne one
Good (Some k) one = IsOne one × (kind_of one ≡ k)

quotient_good : (text : List ℕ) (one : One) → Quotient text one → IsOne one × (kind_of one ≡ Quotients)
quotient_good text one h = let d = h.5.5 in (single_one one (ratio_single h.2 d.0 one d.2), ratio_kind_is h.2 d.0 one d.2)

range_good : (text : List ℕ) (one : One) → Range text one → IsOne one × (kind_of one ≡ Whole)
range_good text one h =
    let low = h.5.5 in
    let high = low.5.5 in
    let e = high.5.5 in
    let c = range_cases (int_eq low.2 high.2) low.2 high.2 (int_le_is low.2 high.2 high.4.1) in
    (subst IsOne (sym e.2) c.0, ap kind_of e.2 ∙ c.1)

word_one : (a b : Bool) (text : List ℕ) → IsOne (cond {A = One} a (Truth true) (cond {A = One} b (Truth false) (Text text)))
word_one true b text = tt
word_one false true text = tt
word_one false false text = tt

bare_good : (text : List ℕ) (one : One) → Bare_word text one → IsOne one
bare_good text one (inl h) = subst IsOne (sym h.2) tt
bare_good text one (inr (inl h)) = (quotient_good text one h).0
bare_good text one (inr (inr h)) = subst IsOne (sym h.2) (word_one _ _ text)

single_good : (kind : Option Kind) (text : List ℕ) (one : One) → Single_value kind text one → Good kind one
single_good None text one (inl h) = bare_good text one h.1
single_good None text one (inr h) = subst IsOne (sym h.2) tt
single_good (Some Whole) text one h = (subst IsOne (sym h.2) tt, ap kind_of h.2)
single_good (Some Words) text one h = (subst IsOne (sym h.2) tt, ap kind_of h.2)
single_good (Some Either) text one h = (subst IsOne (sym h.2) tt, ap kind_of h.2)
single_good (Some Quotients) text one h = quotient_good text one h

member_good : (kind : Option Kind) (text : List ℕ) (one : One) → Member kind text one → Good kind one
member_good None text one (inl h) = (range_good text one h.1).0
member_good (Some Whole) text one (inl h) = range_good text one h.1
member_good (Some Words) text one (inl h) = absurd (let bad = h.0 in cc)
member_good (Some Either) text one (inl h) = absurd (let bad = h.0 in cc)
member_good (Some Quotients) text one (inl h) = absurd (let bad = h.0 in cc)
member_good kind text one (inr h) = single_good kind text one h

good_one : (kind : Option Kind) (one : One) → Good kind one → IsOne one
good_one None one h = h
good_one (Some k) one h = h.0

-- the members of a list are fit and of its type
pub record Alike (kind : Kind) (members : List One) : Type 0 where
  pub each : Each (λ m. IsOne m × (kind_of m ≡ kind)) members
  pub some : 0 < length members
  pub few : length members ≤ 64

kept_each : (kind : Kind) (members : List One) (one : One) (t : Bool) → Each (λ m. IsOne m × (kind_of m ≡ kind)) members → IsOne one × (kind_of one ≡ kind) → Each (λ m. IsOne m × (kind_of m ≡ kind)) (cond {A = List One} t members (members ++ one ∷ []))
kept_each kind members one true h g = h
kept_each kind members one false h g = Each-append (λ m. IsOne m × (kind_of m ≡ kind)) members (one ∷ []) h (g, tt)

kept_some : (members : List One) (one : One) (t : Bool) → 0 < length members → 0 < length (cond {A = List One} t members (members ++ one ∷ []))
kept_some members one true h = h
kept_some members one false h = let n = length-append members (one ∷ []) in omega (arith, n, h)

listed_good : (kind : Kind) (members all : List One) (text : List ℕ) → Repeated (List_step kind) members text all → Alike kind members → Alike kind all
listed_good kind _ _ _ (last s text v d) a = ended d
  where
    ended : List_step kind s text (done v) → Alike kind v
    ended (inl h) = let e : done v ≡ done s = h.1 in let is : v ≡ s = cc in subst (Alike kind) (sym is) a
    ended (inr h) = absurd (let bad = h.3 in cc)
listed_good kind _ _ _ (more s t front back text v e d later) a = listed_good kind t v back later (on d)
  where
    on : List_step kind s front (again t) → Alike kind t
    on (inl h) = absurd (let bad = h.1 in cc)
    on (inr h) =
        let e : again t ≡ again (kept_member s h.0) = h.3 in
        let is : t ≡ kept_member s h.0 = cc in
        let g = member_good (Some kind) h.1.1 h.0 h.1.5 in
        let b = list_any (λ m. same m h.0) s in
        subst (Alike kind) (sym is) (record { each = kept_each kind s h.0 b a.each g; some = kept_some s h.0 b a.some; few = h.2 })

each_one : (kind : Kind) (members : List One) → Each (λ m. IsOne m × (kind_of m ≡ kind)) members → Each IsOne members
each_one kind [] h = tt
each_one kind (x ∷ xs) h = (h.0.0, each_one kind xs h.1)

each_kind : (kind : Kind) (x : One) (members : List One) → kind_of x ≡ kind → Each (λ m. IsOne m × (kind_of m ≡ kind)) members → Each (λ y. gst_kind_of y ≡ gst_kind_of x) members
each_kind kind x [] e h = tt
each_kind kind x (y ∷ ys) e h = (kinds_agree y ∙ ap kind_in (h.0.1 ∙ sym e) ∙ sym (kinds_agree x), each_kind kind x ys e h.1)

alike_value : (kind : Kind) (members : List One) → Alike kind members → IsValue (as_value members)
alike_value kind [] a = absurd (let s = a.some in omega (arith, s))
alike_value kind (x ∷ []) a = a.each.0.0
alike_value kind (x ∷ y ∷ ys) a = record { each = each_one kind (x ∷ y ∷ ys) a.each; one_kind = each_kind kind x (y ∷ ys) a.each.0.1 a.each.1; few = a.few }

list_good : (kind : Option Kind) (text : List ℕ) (v : Value) → List_of kind text v → IsValue v
list_good kind text v h =
    let first = h.5.5 in
    let g = good_one kind first.2 (member_good kind first.0 first.2 first.4) in
    let all = first.5 in
    let start : Alike (kind_of first.2) (first.2 ∷ []) = record { each = ((g, refl), tt); some = omega arith; few = omega arith } in
    subst IsValue (sym all.2) (alike_value (kind_of first.2) all.0 (listed_good (kind_of first.2) (first.2 ∷ []) all.0 first.1 all.1 start))

plain_good : (kind : Option Kind) (text : List ℕ) (v : Value) → Plain_value kind text v → IsValue v
plain_good kind text v (inl h) = list_good kind text v h
plain_good kind text v (inr h) = subst IsValue (sym h.2) (good_one kind h.0 (member_good kind text h.0 h.1))

pub value_good : (text : List ℕ) (v : Value) → Field_value text v → IsValue v
value_good text v (inl h) = plain_good (Some h.2) h.5.1 v h.5.5
value_good text v (inr h) = plain_good None text v h

pub member_kind : (kind : Kind) (text : List ℕ) (one : One) → Member (Some kind) text one → kind_of one ≡ kind
member_kind kind text one h = (member_good (Some kind) text one h).1
