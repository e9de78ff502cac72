-- What an element put out, by its source pads.
use Rattle.std.proofs.Common.{◌≡◌, ◌<◌, ◌⊎◌, ℕ, zero, suc, Bool, true, false, not, List, [], ◌∷◌, ◌++◌, ◌&&◌, ◌||◌, nat_lt, eqb, length, map, Some, refl, sym, ap, ◌∙◌, subst, inl, inr, arith}
use Rattle.std.specs.Prelude.{slice_get, slice_set, ◌==◌, ◌≢◌, ◌+◌, if◌then◌else◌, Result, Ok, Err, OnOk, OnErr}
use Rattle.std.proofs.lemmas.Bool.{cases_eq, ltb-true, lt-ltb}
use Rattle.std.proofs.lemmas.Bool.Decides.{eqb_tells}
use Rattle.gst_item.specs.declared.out.Out.{Out}
use Rattle.flow_model.specs.Item.{Item, is_flush_stop}
use Rattle.flow_model.specs.Call.{Call}
use Rattle.flow_model.specs.Moment.{Behavior}
use Rattle.flow_model.specs.declared.refusal.Refusal.{Refusal}
use Rattle.flow_model.specs.Takes.{AreWithin, Takes, on_port}
use Rattle.task_pads.specs.declared.pad.Pad.{Pad}
use Rattle.task_pads.specs.Behind.{goes, leads_on}
use Rattle.task_pads.specs.Pads.{PadShape, Rest, pad_shape, rest_of, waiting_of}
use Rattle.task_pads.specs.Put.{Spread, SpreadAt}
use Rattle.pad_core.specs.SrcPad.{state_of}
use Rattle.task_parts.specs.Gathered.{AreFilled, are_linked, are_within, linked_else}
use Rattle.task_parts.proofs.Lists.{map_over}
use Rattle.gst_value.proofs.Basics.{and_left, and_right, some_same, and_both as both, not_false as not_true, or_first, or_second as or_yes}

not_false : (b : Bool) → b ≡ false → not b ≡ true
not_false true e = absurd cc
not_false false e = refl

pub within_of : (n : ℕ) (outs : List Out) → are_within n outs ≡ true → AreWithin n outs
within_of n [] e = tt
within_of n (o ∷ os) e =
    let more = and_right (nat_lt o.pad n) (not (is_flush_stop o.item) && are_within n os) e in
    (ltb-true o.pad n (and_left (nat_lt o.pad n) (not (is_flush_stop o.item) && are_within n os) e), not_true (is_flush_stop o.item) (and_left (not (is_flush_stop o.item)) (are_within n os) more), within_of n os (and_right (not (is_flush_stop o.item)) (are_within n os) more))

pub of_within : (n : ℕ) (outs : List Out) → AreWithin n outs → are_within n outs ≡ true
of_within n [] w = refl
of_within n (o ∷ os) w = both (nat_lt o.pad n) (not (is_flush_stop o.item) && are_within n os) (lt-ltb o.pad n w.0) (both (not (is_flush_stop o.item)) (are_within n os) (not_false (is_flush_stop o.item) w.1) (of_within n os w.2))

within_both : (n : ℕ) (outs more : List Out) → AreWithin n outs → AreWithin n more → AreWithin n (outs ++ more)
within_both n [] more w m = m
within_both n (o ∷ os) more w m = (w.0, w.1, within_both n os more w.2 m)

pub within_append : (n : ℕ) (outs more outs' : List Out) → outs' ≡ outs ++ more → are_within n outs ≡ true → AreWithin n more → are_within n outs' ≡ true
within_append n outs more outs' e w m = subst (λ (os : List Out). are_within n os ≡ true) (sym e) (of_within n (outs ++ more) (within_both n outs more (within_of n outs w) m))

pub on_port_append : (port : ℕ) (outs more : List Out) → on_port port (outs ++ more) ≡ on_port port outs ++ on_port port more
on_port_append port [] more = refl
on_port_append port (o ∷ os) more = go (on_port_append port os more) (o.pad == port)
  where
    go : on_port port (os ++ more) ≡ on_port port os ++ on_port port more → (b : Bool) → (if b then o.item ∷ on_port port (os ++ more) else on_port port (os ++ more)) ≡ (if b then o.item ∷ on_port port os else on_port port os) ++ on_port port more
    go e true = ap (λ (xs : List Item). o.item ∷ xs) e
    go e false = e

-- what is told of a pad by all but what waits there
abbrev rest_shape : {O : Type 0} → Rest O → PadShape
rest_shape rest = record { number = (state_of rest.src).number; goes = goes rest.behind }

pub shape_of_rest : {O : Type 0} (p q : Pad O) → rest_of p ≡ rest_of q → pad_shape p ≡ pad_shape q
shape_of_rest p q e = ap rest_shape e

pub shapes_of_rests : {O : Type 0} (ps qs : List (Pad O)) → map rest_of ps ≡ map rest_of qs → map pad_shape ps ≡ map pad_shape qs
shapes_of_rests {O = O} ps qs e = map_over (rest_shape {O = O}) rest_of pad_shape (λ x. refl) ps ∙ ap (map rest_shape) e ∙ sym (map_over (rest_shape {O = O}) rest_of pad_shape (λ x. refl) qs)

pub fill_spread : {O : Type 0} (pads : List (Pad O)) (p p' : Pad O) (out out' : List Out) → length pads ≡ 1 → slice_get pads 0 ≡ Some p → rest_of p' ≡ rest_of p → waiting_of p' ++ on_port 0 out' ≡ waiting_of p ++ on_port 0 out
    → Spread out out' pads (slice_set pads 0 p')
fill_spread [] p p' out out' one at rest waits = absurd (omega (arith, one))
fill_spread {O = O} (q ∷ []) p p' out out' one at rest waits = λ place pad at'. go place pad at'
  where
    go : (place : ℕ) (pad : Pad O) → slice_get (p' ∷ []) place ≡ Some pad → SpreadAt (q ∷ []) out out' place pad
    go zero pad at' =
        let same : pad ≡ p' = sym (some_same at') in
        record { was = p; at = at; rest = ap (rest_of {O = O}) same ∙ rest; waiting = ap (λ (z : Pad O). waiting_of z ++ on_port 0 out') same ∙ waits }
    go (suc k) pad at' = absurd cc
fill_spread (q ∷ r ∷ s) p p' out out' one at rest waits = absurd (omega (arith, one))

pub nil_when : {A : Type 0} (xs : List A) → eqb (length xs) 0 ≡ true → xs ≡ []
nil_when [] e = refl
nil_when (x ∷ xs) e = go (eqb_tells (length (x ∷ xs)) 0)
  where
    go : ((eqb (length (x ∷ xs)) 0 ≡ true) × (length (x ∷ xs) ≡ 0)) ⊎ ((eqb (length (x ∷ xs)) 0 ≡ false) × (length (x ∷ xs) ≡ 0 → ⊥)) → x ∷ xs ≡ []
    go (inl t) = absurd (let w = t.1 in omega (arith, w))
    go (inr t) = absurd (let k : false ≡ true = sym t.0 ∙ e in cc)

-- nothing is to go to a pad
pub filled_none : {O : Type 0} (pads : List (Pad O)) (out : List Out) → out ≡ [] → AreFilled pads out
filled_none pads out none = λ port pad at idle. ap (on_port port) none

pub fill_all : {O : Type 0} (pads : List (Pad O)) (p p' : Pad O) (out out' : List Out) → length pads ≡ 1 → slice_get pads 0 ≡ Some p → (waiting_of p ≡ [] → out' ≡ []) → (waiting_of p ≢ [] → (out' ≡ out) × (waiting_of p' ≡ waiting_of p))
    → AreFilled (slice_set pads 0 p') out'
fill_all [] p p' out out' one at filled stays = absurd (omega (arith, one))
fill_all {O = O} (q ∷ []) p p' out out' one at filled stays = λ port pad here idle. go port pad here idle (waiting_of p) refl
  where
    go : (port : ℕ) (pad : Pad O) → slice_get (p' ∷ []) port ≡ Some pad → waiting_of pad ≡ [] → (w : List Item) → waiting_of p ≡ w → on_port port out' ≡ []
    go zero pad here idle [] e = ap (on_port 0) (filled e)
    go zero pad here idle (x ∷ xs) e =
        let none : waiting_of p' ≡ [] = ap (λ (z : Pad O). waiting_of z) (some_same here) ∙ idle in
        ap (on_port 0) (filled (sym ((stays (λ z. let k : x ∷ xs ≡ [] = sym e ∙ z in cc)).1) ∙ none))
    go (suc k) pad here idle w e = absurd cc
fill_all (q ∷ r ∷ s) p p' out out' one at filled stays = absurd (omega (arith, one))

pub eaten : (r : Result (Unit {0}) Refusal) (stood stands : Behavior → List (List Call) → Type 0) (n n' pad : ℕ) (item : Item) (outs outs' : List Out) → OnOk r (Takes stood stands n pad item outs outs') → OnErr r (outs' ≡ outs) → n' ≡ n
    → are_within n outs ≡ true → are_within n' outs' ≡ true
eaten (Ok u) stood stands n n' pad item outs outs' t o p w = subst (λ (k : ℕ). are_within k outs' ≡ true) (sym p) (within_append n outs t.more outs' t.appended w t.within)
eaten (Err x) stood stands n n' pad item outs outs' t o p w = subst (λ (k : ℕ). are_within k outs' ≡ true) (sym p) (subst (λ (os : List Out). are_within n os ≡ true) (sym o) w)

or_none : (a b : Bool) → a ≡ false → b ≡ false → (a || b) ≡ false
or_none true b e f = absurd cc
or_none false b e f = f

are_yes : {O : Type 0} (pads : List (Pad O)) (k : ℕ) (pad : Pad O) → slice_get pads k ≡ Some pad → leads_on (rest_of pad).behind ≡ true → are_linked pads ≡ true
are_yes [] k pad at w = absurd cc
are_yes {O = O} (p ∷ pads) zero pad at w = or_first (leads_on (rest_of p).behind) (are_linked pads) (ap (λ (q : Pad O). leads_on (rest_of q).behind) (some_same at) ∙ w)
are_yes (p ∷ pads) (suc k) pad at w = or_yes (leads_on (rest_of p).behind) (are_linked pads) (are_yes pads k pad at w)

are_no : {O : Type 0} (pads : List (Pad O)) → ((j : ℕ) (pad : Pad O) → slice_get pads j ≡ Some pad → leads_on (rest_of pad).behind ≡ false) → are_linked pads ≡ false
are_no [] f = refl
are_no (p ∷ pads) f = or_none (leads_on (rest_of p).behind) (are_linked pads) (f 0 p refl) (are_no pads (λ j pad at. f (suc j) pad at))

pub linked_yes : {O : Type 0} (pads : List (Pad O)) (port k : ℕ) (pad : Pad O) → slice_get pads k ≡ Some pad → (k ≡ port → ⊥) → leads_on (rest_of pad).behind ≡ true → linked_else port pads ≡ true
linked_yes [] port k pad at ne w = absurd cc
linked_yes (p ∷ pads) zero zero pad at ne w = absurd (ne refl)
linked_yes (p ∷ pads) zero (suc k) pad at ne w = are_yes pads k pad at w
linked_yes {O = O} (p ∷ pads) (suc port) zero pad at ne w = or_first (leads_on (rest_of p).behind) (linked_else port pads) (ap (λ (q : Pad O). leads_on (rest_of q).behind) (some_same at) ∙ w)
linked_yes (p ∷ pads) (suc port) (suc k) pad at ne w = or_yes (leads_on (rest_of p).behind) (linked_else port pads) (linked_yes pads port k pad at (λ i. ne (ap suc i)) w)

pub linked_no : {O : Type 0} (pads : List (Pad O)) (port : ℕ) → ((j : ℕ) (pad : Pad O) → (j ≡ port → ⊥) → slice_get pads j ≡ Some pad → leads_on (rest_of pad).behind ≡ false) → linked_else port pads ≡ false
linked_no [] port f = refl
linked_no (p ∷ pads) zero f = are_no pads (λ j pad at. f (suc j) pad (λ i. omega (arith, i)) at)
linked_no (p ∷ pads) (suc port) f = or_none (leads_on (rest_of p).behind) (linked_else port pads) (f 0 p (λ i. omega (arith, i)) refl) (linked_no pads port (λ j pad ne at. f (suc j) pad (λ i. ne (omega (arith, i))) at))

-- the first places of a list have a property that this one has too
pub all_next : {A : Type 0} (P : ℕ → A → Type 0) (xs : List A) (place : ℕ) (here : A) → slice_get xs place ≡ Some here → P place here → ((j : ℕ) (x : A) → j < place → slice_get xs j ≡ Some x → P j x)
    → (j : ℕ) (x : A) → j < place + 1 → slice_get xs j ≡ Some x → P j x
all_next {A = A} P xs place here at h before j x less at' = go (cases_eq j place)
  where
    go : ((j ≡ place) ⊎ (j ≡ place → ⊥)) → P j x
    go (inl i) = let same : here ≡ x = some_same (sym at ∙ ap (slice_get xs) (sym i) ∙ at') in subst (λ (k : ℕ). P k x) (sym i) (subst (P place) same h)
    go (inr ne) = before j x (omega (arith, ne, less)) at'

pub else_yes : (k port : ℕ) (b : Bool) → (not (eqb k port) && b) ≡ true → (k ≡ port → ⊥) × (b ≡ true)
else_yes k port b e = go (eqb_tells k port)
  where
    go : ((eqb k port ≡ true) × (k ≡ port)) ⊎ ((eqb k port ≡ false) × (k ≡ port → ⊥)) → (k ≡ port → ⊥) × (b ≡ true)
    go (inl z) = absurd (let k : false ≡ true = sym (ap (λ (t : Bool). not t && b) z.0) ∙ e in cc)
    go (inr z) = (z.1, sym (ap (λ (t : Bool). not t && b) z.0) ∙ e)

pub else_no : (k port : ℕ) (b : Bool) → (not (eqb k port) && b) ≡ false → (k ≡ port → ⊥) → b ≡ false
else_no k port b e ne = go (eqb_tells k port)
  where
    go : ((eqb k port ≡ true) × (k ≡ port)) ⊎ ((eqb k port ≡ false) × (k ≡ port → ⊥)) → b ≡ false
    go (inl z) = absurd (ne z.1)
    go (inr z) = sym (ap (λ (t : Bool). not t && b) z.0) ∙ e
