-- The section that is open behind a flush, and the order of feeding.
use Rattle.std.proofs.Common.{◌≡◌, ◌⊎◌, ◌≤◌, ◌<◌, ℕ, zero, suc, true, false, List, [], ◌∷◌, ◌++◌, Option, Some, None, refl, sym, ap, ◌∙◌, subst, inl, inr, arith}
use Rattle.std.proofs.lemmas.Bool.{cases_lt}
use Rattle.gst_value.specs.Description.{Description}
use Rattle.gst_value.specs.declared.one.One.{One}
use Rattle.flow_model.specs.Item.{Item, Ev, FlushStop, is_flush_stop, is_eos}
use Rattle.flow_model.specs.Prefix.{IsPrefix, nothing, next}
use Rattle.flow_model.specs.Section.{section, counted, before_section, to_eos, flush_stops}
use Rattle.flow_model.specs.Call.{Call, Feed, items}
use Rattle.flow_model.proofs.Prefixes.{prefix_append}
use Rattle.flow_model.proofs.Calls.{items_push}
use Rattle.flow_model.specs.SinkPads.{push_calls, flush_stops_given, InSection, push_each}
use Rattle.el_mix.specs.Reopened.{counted_section, reopened, reopenings}
use Rattle.el_mix.specs.Mixed.{has}
use Rattle.el_mix.specs.Agreed.{or_else, caps_in, pad_caps, is_there}
use Rattle.el_mix.specs.Mixes.{is_start, interleaved}
use Rattle.el_mix.specs.Order.{IsKnown, AnyStarted, InOrder, AllPast, FedInOrder}
use Rattle.el_mix.specs.Sections.{BelowKnown, FlushEnds, KeepsOrder}
use Rattle.el_mix.proofs.Reopening.{has_settled, starts_behind, section_none, goes_there}
use Rattle.el_mix.proofs.Owing.{not_started}
use Rattle.el_mix.proofs.Opening.{has_to, has_not, section_next, front_stays, past, still_in, next_in}
use Rattle.flow_model.proofs.Items.{section_closed as section_flushed, stops_of}
use Rattle.flow_model.specs.Inherited.{inherited}

-- a section without items has not started
pub fresh : (j : ℕ) (xs : List Item) → section j xs ≡ [] → has is_start (reopened j xs) ≡ false
fresh j xs e = starts_behind (counted (before_section j xs)) (counted_section j xs) ∙ ap (λ zs. has is_start (to_eos zs)) e

abbrev pub AllFresh : ℕ → List (List Call) → Type 0
AllFresh j [] = Unit {0}
AllFresh j (calls ∷ inputs) = (has is_start (reopened j (items calls)) ≡ false) × AllFresh j inputs

none_started : (j : ℕ) (inputs : List (List Call)) → AllFresh j inputs → AnyStarted (reopenings j inputs) → ⊥
none_started j [] f s = s
none_started j (calls ∷ inputs) f (inl s) = cc (s, f.0)
none_started j (calls ∷ inputs) f (inr s) = none_started j inputs f.1 s

pub fresh_in_order : (j : ℕ) (inputs : List (List Call)) → AllFresh j inputs → InOrder (reopenings j inputs)
fresh_in_order j [] f = tt
fresh_in_order j (calls ∷ inputs) f = (λ s. absurd (none_started j inputs f.1 s), fresh_in_order j inputs f.1)

fresh_behind : (n j : ℕ) (inputs : List (List Call)) → InSection n inputs → n < j → AllFresh j inputs
fresh_behind n j [] s h = tt
fresh_behind n j (calls ∷ inputs) s h =
    let is : flush_stops (items calls) ≡ n = sym (stops_of calls) ∙ s.0 in
    (fresh j (items calls) (section_none j (items calls) (has_not j (items calls) (omega (arith, is, h)))), fresh_behind n j inputs s.1 h)

fresh_flushed : (n j k : ℕ) (inputs : List (List Call)) → InSection n inputs → n < j → AllFresh j (push_each (Feed (Ev (FlushStop k)) ∷ []) inputs)
fresh_flushed n j k [] s h = tt
fresh_flushed n j k (calls ∷ inputs) s h =
    let is : flush_stops (items calls) ≡ n = sym (stops_of calls) ∙ s.0 in
    let stop : Item = Ev (FlushStop k) in (
      fresh j (items (calls ++ Feed stop ∷ [])) (ap (section j) (items_push calls stop) ∙ section_next j (items calls) k (omega (arith, is, h))),
      fresh_flushed n j k inputs s.1 h,
    )

nothing_fresh : (j : ℕ) (inputs : List (List Call)) → AllFresh j inputs → interleaved (reopenings j inputs) ≡ []
nothing_fresh j [] f = refl
nothing_fresh j (calls ∷ inputs) f = not_started (reopenings j (calls ∷ inputs)) (rw f.0 refl)

pub flushed_stays : (n j k : ℕ) (inputs : List (List Call)) → InSection n inputs → j ≤ n → reopenings j (push_each (Feed (Ev (FlushStop k)) ∷ []) inputs) ≡ reopenings j inputs
flushed_stays n j k [] s h = refl
flushed_stays n j k (calls ∷ inputs) s h =
    let is : flush_stops (items calls) ≡ n = sym (stops_of calls) ∙ s.0 in
    let within : j ≤ flush_stops (items calls) = omega (arith, is, h) in
    let stop : Item = Ev (FlushStop k) in
    let first : reopened j (items (calls ++ Feed stop ∷ [])) ≡ reopened j (items calls) =
    ap (reopened j) (items_push calls stop)
    ∙ ap (λ zs. zs ++ counted_section j (items calls ++ stop ∷ [])) (front_stays j (items calls) (stop ∷ []) within)
    ∙ ap (λ zs. inherited (counted (before_section j (items calls))) ++ to_eos zs) (section_flushed j (items calls) k within) in
    ap (λ zs. zs ∷ reopenings j (push_each (Feed (Ev (FlushStop k)) ∷ []) inputs)) first ∙ ap (λ zss. reopened j (items calls) ∷ zss) (flushed_stays n j k inputs s.1 h)

pub flush_ends : FlushEnds
flush_ends = record {
  over = λ inputs n j k port s h. ap interleaved (flushed_stays n j k inputs s (omega (arith, h)));
  nothing = λ inputs n k port s. nothing_fresh (suc n) (push_each (Feed (Ev (FlushStop k)) ∷ []) inputs) (fresh_flushed n (suc n) k inputs s (omega arith));
}

-- the order of feeding
caps_stay : {xs ys : List Item} → IsPrefix xs ys → is_there (pad_caps xs) ≡ true → is_there (pad_caps ys) ≡ true
caps_stay nothing h = cc
caps_stay (next {x = x} {xs = xs} {ys = ys} p) h = go (caps_in x) (caps_stay p) h
  where
    go : (o : Option (Description One)) → (is_there (pad_caps xs) ≡ true → is_there (pad_caps ys) ≡ true)
        → is_there (or_else o (pad_caps xs)) ≡ true → is_there (or_else o (pad_caps ys)) ≡ true
    go None r h = r h
    go (Some c) r h = refl

known_more : {xs ys : List Item} → IsPrefix xs ys → IsKnown xs → IsKnown ys
known_more p (inl c) = inl (caps_stay p c)
known_more p (inr e) = inr (has_settled is_eos p e)

reopened_more : (n : ℕ) (calls : List Call) (x : Item) → flush_stops_given calls ≡ n → IsPrefix (reopened n (items calls)) (reopened n (items (calls ++ Feed x ∷ [])))
reopened_more n calls x is =
    subst (λ zs. IsPrefix (reopened n (items calls)) (reopened n zs)) (sym (items_push calls x))
    (goes_there n (prefix_append (items calls) (x ∷ [])) (has_to n (items calls) (omega (arith, let e : flush_stops (items calls) ≡ n = sym (stops_of calls) ∙ is in e)))).begins

in_order_push : (n i : ℕ) (inputs : List (List Call)) (x : Item) → InSection n inputs → BelowKnown i (reopenings n inputs) → InOrder (reopenings n inputs)
    → InOrder (reopenings n (push_calls i (Feed x ∷ []) inputs))
in_order_push n i [] x s b o = tt
in_order_push n zero (calls ∷ inputs) x s b o = (λ a. known_more (reopened_more n calls x s.0) (o.0 a), o.1)
in_order_push n (suc i) (calls ∷ inputs) x s b o = (λ a. b.0, in_order_push n i inputs x s.1 b.1 o.1)

pub open_in_order : (n : ℕ) (inputs : List (List Call)) → InSection n inputs → AllPast n inputs ⊎ InOrder (reopenings n inputs) → InOrder (reopenings n inputs)
open_in_order n [] s o = tt
open_in_order n (calls ∷ inputs) s (inl p) = let is : flush_stops (items calls) ≡ n = sym (stops_of calls) ∙ s.0 in absurd (cc (p.0, has_not (suc n) (items calls) (omega (arith, is))))
open_in_order n (calls ∷ inputs) s (inr o) = o

pub keeps_order : KeepsOrder
keeps_order = record {
  fed = λ inputs i n x s plain b fed j. go inputs i n x s plain b fed j (cases_lt j n) (cases_lt n j);
  flushed = λ inputs n k s j. flush inputs n k s j (cases_lt j (suc n));
}
  where
    go : (inputs : List (List Call)) (i n : ℕ) (x : Item) → InSection n inputs → is_flush_stop x ≡ false → BelowKnown i (reopenings n inputs)
        → FedInOrder inputs → (j : ℕ) → ((j < n) ⊎ (n ≤ j)) → ((n < j) ⊎ (j ≤ n)) → AllPast j (push_calls i (Feed x ∷ []) inputs) ⊎ InOrder (reopenings j (push_calls i (Feed x ∷ []) inputs))
    go inputs i n x s plain b fed j (inl h) c = inl (past n j (push_calls i (Feed x ∷ []) inputs) (still_in n i inputs x plain s) h)
    go inputs i n x s plain b fed j (inr h) (inl c) =
        inr (fresh_in_order j (push_calls i (Feed x ∷ []) inputs) (fresh_behind n j (push_calls i (Feed x ∷ []) inputs) (still_in n i inputs x plain s) c))
    go inputs i n x s plain b fed j (inr h) (inr c) =
        let same : n ≡ j = omega arith in
        inr (subst (λ m. InOrder (reopenings m (push_calls i (Feed x ∷ []) inputs))) same (in_order_push n i inputs x s b (open_in_order n inputs s (fed n))))

    flush : (inputs : List (List Call)) (n k : ℕ) → InSection n inputs → (j : ℕ) → ((j < suc n) ⊎ (suc n ≤ j)) → AllPast j (push_each (Feed (Ev (FlushStop k)) ∷ []) inputs) ⊎ InOrder (reopenings j (push_each (Feed (Ev (FlushStop k)) ∷ []) inputs))
    flush inputs n k s j (inl h) = inl (past (suc n) j (push_each (Feed (Ev (FlushStop k)) ∷ []) inputs) (next_in n k inputs s) h)
    flush inputs n k s j (inr h) = inr (fresh_in_order j (push_each (Feed (Ev (FlushStop k)) ∷ []) inputs) (fresh_flushed n j k inputs s (omega (arith, h))))
