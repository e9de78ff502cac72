-- The section that is open, with one more item.
use Rattle.std.proofs.Common.{◌≡◌, ◌≤◌, ◌<◌, ℕ, zero, suc, Bool, true, false, if◌then◌else◌, List, [], ◌∷◌, ◌++◌, length, drop, refl, sym, ap, ◌∙◌, subst, append_assoc, arith}
use Rattle.flow_model.specs.Item.{Item, Ev, FlushStop, is_flush_stop, is_eos}
use Rattle.flow_model.specs.Sticky.{first_found, latest, has_flush_stop, since_flush_stop}
use Rattle.flow_model.specs.Prefix.{IsPrefix, nothing, next, ArePrefixes, none, pad}
use Rattle.flow_model.specs.Section.{section, counted, before_section, to_eos, flush_stops}
use Rattle.flow_model.specs.Call.{Call, Feed, items}
use Rattle.flow_model.specs.Feeding.{has_eos}
use Rattle.flow_model.proofs.Prefixes.{prefix_append, prefix_refl, are_prefixes_refl}
use Rattle.flow_model.proofs.Calls.{items_push}
use Rattle.flow_model.specs.SinkPads.{push_calls, flush_stops_given, InSection, push_each}
use Rattle.el_mix.specs.Reopened.{has_section, counted_section, reopened}
use Rattle.el_mix.specs.Mixed.{has}
use Rattle.el_mix.specs.Mixes.{interleaved}
use Rattle.el_mix.specs.Order.{AllPast}
use Rattle.el_mix.specs.Sections.{PadGoesOn, OwesMore}
use Rattle.el_mix.proofs.Reopening.{before_settled, reopenings_settled}
use Rattle.el_mix.proofs.Owing.{owes_in_order}
use Rattle.flow_model.proofs.Items.{first_is_all, no_stops, stops_flushed, stops_of, stops_plain}
use Rattle.flow_model.specs.Inherited.{inherited}
use Rattle.gst_item.specs.Item.{has_item}

-- by the number of FLUSH_STOPs
pub has_to : (j : ℕ) (xs : List Item) → j ≤ flush_stops xs → has_section j xs ≡ true
has_to zero xs h = refl
has_to (suc j) [] h = absurd (omega arith)
has_to (suc j) (x ∷ xs) h = go (is_flush_stop x) (has_to j xs) (has_to (suc j) xs) h
  where
    go : (b : Bool) → (j ≤ flush_stops xs → has_section j xs ≡ true) → (suc j ≤ flush_stops xs → has_section (suc j) xs ≡ true)
        → suc j ≤ (if b then suc (flush_stops xs) else flush_stops xs) → (if b then has_section j xs else has_section (suc j) xs) ≡ true
    go true f g h = f (omega (arith, h))
    go false f g h = g h

pub has_not : (j : ℕ) (xs : List Item) → flush_stops xs < j → has_section j xs ≡ false
has_not zero xs h = absurd (omega arith)
has_not (suc j) [] h = refl
has_not (suc j) (x ∷ xs) h = go (is_flush_stop x) (has_not j xs) (has_not (suc j) xs) h
  where
    go : (b : Bool) → (flush_stops xs < j → has_section j xs ≡ false) → (flush_stops xs < suc j → has_section (suc j) xs ≡ false)
        → (if b then suc (flush_stops xs) else flush_stops xs) < suc j → (if b then has_section j xs else has_section (suc j) xs) ≡ false
    go true f g h = f (omega (arith, h))
    go false f g h = g h

-- the last section with one more item
section_push : (j : ℕ) (w : List Item) (x : Item) → flush_stops w ≡ j → is_flush_stop x ≡ false → section j (w ++ x ∷ []) ≡ section j w ++ x ∷ []
section_push zero [] x e plain = rw plain refl
section_push (suc j) [] x e plain = absurd (omega arith)
section_push zero (y ∷ w) x e plain = go (is_flush_stop y) (section_push zero w x) e
  where
    go : (b : Bool) → (flush_stops w ≡ 0 → is_flush_stop x ≡ false → section 0 (w ++ x ∷ []) ≡ section 0 w ++ x ∷ []) → (if b then suc (flush_stops w) else flush_stops w) ≡ 0
        → (if b then [] else y ∷ section 0 (w ++ x ∷ [])) ≡ (if b then [] else y ∷ section 0 w) ++ x ∷ []
    go true r e = absurd (omega arith)
    go false r e = ap (λ zs. y ∷ zs) (r e plain)
section_push (suc j) (y ∷ w) x e plain = go (is_flush_stop y) (section_push j w x) (section_push (suc j) w x) e
  where
    go : (b : Bool) → (flush_stops w ≡ j → is_flush_stop x ≡ false → section j (w ++ x ∷ []) ≡ section j w ++ x ∷ [])
        → (flush_stops w ≡ suc j → is_flush_stop x ≡ false → section (suc j) (w ++ x ∷ []) ≡ section (suc j) w ++ x ∷ [])
        → (if b then suc (flush_stops w) else flush_stops w) ≡ suc j
        → (if b then section j (w ++ x ∷ []) else section (suc j) (w ++ x ∷ [])) ≡ (if b then section j w else section (suc j) w) ++ x ∷ []
    go true r q e = let same : flush_stops w ≡ j = omega arith in r same plain
    go false r q e = q e plain

pub section_next : (j : ℕ) (w : List Item) (k : ℕ) → flush_stops w < j → section j (w ++ Ev (FlushStop k) ∷ []) ≡ []
section_next zero w k h = absurd (omega arith)
section_next (suc zero) [] k h = refl
section_next (suc (suc j)) [] k h = refl
section_next (suc j) (y ∷ w) k h = go (is_flush_stop y) (section_next j w k) (section_next (suc j) w k) h
  where
    go : (b : Bool) → (flush_stops w < j → section j (w ++ Ev (FlushStop k) ∷ []) ≡ []) → (flush_stops w < suc j → section (suc j) (w ++ Ev (FlushStop k) ∷ []) ≡ [])
        → (if b then suc (flush_stops w) else flush_stops w) < suc j
        → (if b then section j (w ++ Ev (FlushStop k) ∷ []) else section (suc j) (w ++ Ev (FlushStop k) ∷ [])) ≡ []
    go true r q h = r (omega (arith, h))
    go false r q h = q h

some_stops : (h : List Item) → has_flush_stop h ≡ true → 0 < flush_stops h
some_stops [] e = cc
some_stops (x ∷ xs) e = go (is_flush_stop x) (some_stops xs) e
  where
    go : (b : Bool) → (has_flush_stop xs ≡ true → 0 < flush_stops xs) → (if b then true else has_flush_stop xs) ≡ true → 0 < (if b then suc (flush_stops xs) else flush_stops xs)
    go true r e = omega arith
    go false r e = r e

last_section : (h : List Item) → section (flush_stops h) h ≡ since_flush_stop h
last_section [] = refl
last_section (x ∷ xs) = go (last_section xs) (has_flush_stop xs) refl (is_flush_stop x) refl
  where
    deeper : (n : ℕ) → 0 < n → is_flush_stop x ≡ false → section n (x ∷ xs) ≡ section n xs
    deeper zero h plain = absurd (omega arith)
    deeper (suc n) h plain = rw plain refl

    go : section (flush_stops xs) xs ≡ since_flush_stop xs → (f : Bool) → has_flush_stop xs ≡ f → (b : Bool) → is_flush_stop x ≡ b
        → section (if is_flush_stop x then suc (flush_stops xs) else flush_stops xs) (x ∷ xs) ≡ (if has_flush_stop xs then since_flush_stop xs else (if is_flush_stop x then xs else x ∷ xs))
    go r true e true p = rw (e, p, p) r
    go r true e false p = rw (e, p) (deeper (flush_stops xs) (some_stops xs e) p ∙ r)
    go r false e true p = rw (e, p, no_stops xs e, p) (first_is_all xs e)
    go r false e false p = rw (e, p, no_stops xs e, p) (ap (λ zs. x ∷ zs) (first_is_all xs e))

eos_found : (h : List Item) → has_item (latest is_eos h) ≡ has is_eos h
eos_found [] = refl
eos_found (x ∷ xs) = go (latest is_eos xs) (eos_found xs) (is_eos x)
  where
    go : (found : List Item) → has_item found ≡ has is_eos xs → (b : Bool) → has_item (first_found found (if b then x ∷ [] else [])) ≡ (if b then true else has is_eos xs)
    go [] e true = refl
    go [] e false = e
    go (z ∷ zs) e true = refl
    go (z ∷ zs) e false = e

pub open_eos : (calls : List Call) → has_eos calls ≡ has is_eos (section (flush_stops (items calls)) (items calls))
open_eos calls = eos_found (since_flush_stop (items calls)) ∙ ap (has is_eos) (sym (last_section (items calls)))

-- up to EOS
to_eos_taken : (xs : List Item) (x : Item) → has is_eos xs ≡ false → to_eos (xs ++ x ∷ []) ≡ to_eos xs ++ x ∷ []
to_eos_taken [] x h = go (is_eos x)
  where
    go : (b : Bool) → x ∷ (if b then [] else []) ≡ x ∷ []
    go true = refl
    go false = refl
to_eos_taken (y ∷ ys) x h = ap (λ zs. y ∷ zs) (go (is_eos y) (to_eos_taken ys x) h)
  where
    go : (b : Bool) → (has is_eos ys ≡ false → to_eos (ys ++ x ∷ []) ≡ to_eos ys ++ x ∷ []) → (if b then true else has is_eos ys) ≡ false
        → (if b then [] else to_eos (ys ++ x ∷ [])) ≡ (if b then [] else to_eos ys) ++ x ∷ []
    go true r h = cc
    go false r h = r h

to_eos_behind : (xs : List Item) (x : Item) → has is_eos xs ≡ true → to_eos (xs ++ x ∷ []) ≡ to_eos xs
to_eos_behind [] x h = cc
to_eos_behind (y ∷ ys) x h = ap (λ zs. y ∷ zs) (go (is_eos y) (to_eos_behind ys x) h)
  where
    go : (b : Bool) → (has is_eos ys ≡ true → to_eos (ys ++ x ∷ []) ≡ to_eos ys) → (if b then true else has is_eos ys) ≡ true
        → (if b then [] else to_eos (ys ++ x ∷ [])) ≡ (if b then [] else to_eos ys)
    go true r h = refl
    go false r h = r h

-- the pad's list with one more item
pub front_stays : (n : ℕ) (h more : List Item) → n ≤ flush_stops h → inherited (counted (before_section n (h ++ more))) ≡ inherited (counted (before_section n h))
front_stays n h more le = ap (λ zs. inherited (counted zs)) (sym (before_settled n (prefix_append h more) (has_to n h le)))

pub pad_goes_on : PadGoesOn
pad_goes_on = record {
  taken = λ calls x plain none.
      let h : List Item = items calls in
      subst (λ n. reopened n (items (calls ++ Feed x ∷ [])) ≡ reopened n h ++ x ∷ []) (sym (stops_of calls)) (
      let more : counted_section (flush_stops h) (h ++ x ∷ []) ≡ counted_section (flush_stops h) h ++ x ∷ [] =
      ap to_eos (section_push (flush_stops h) h x refl plain) ∙ to_eos_taken (section (flush_stops h) h) x (sym (open_eos calls) ∙ none) in
      ap (reopened (flush_stops h)) (items_push calls x)
      ∙ ap (λ zs. zs ++ counted_section (flush_stops h) (h ++ x ∷ [])) (front_stays (flush_stops h) h (x ∷ []) (omega arith))
      ∙ ap (λ zs. inherited (counted (before_section (flush_stops h) h)) ++ zs) more
      ∙ sym (append_assoc (inherited (counted (before_section (flush_stops h) h))) (counted_section (flush_stops h) h) (x ∷ [])));
  behind = λ calls x plain some.
      let h : List Item = items calls in
      subst (λ n. reopened n (items (calls ++ Feed x ∷ [])) ≡ reopened n h) (sym (stops_of calls)) (
      let more : counted_section (flush_stops h) (h ++ x ∷ []) ≡ counted_section (flush_stops h) h =
      ap to_eos (section_push (flush_stops h) h x refl plain) ∙ to_eos_behind (section (flush_stops h) h) x (sym (open_eos calls) ∙ some) in
      ap (reopened (flush_stops h)) (items_push calls x)
      ∙ ap (λ zs. zs ++ counted_section (flush_stops h) (h ++ x ∷ [])) (front_stays (flush_stops h) h (x ∷ []) (omega arith))
      ∙ ap (λ zs. inherited (counted (before_section (flush_stops h) h)) ++ zs) more);
}

-- all pads
pub push_begins : (i : ℕ) (calls : List Call) (inputs : List (List Call)) → ArePrefixes inputs (push_calls i calls inputs)
push_begins i calls [] = none
push_begins zero calls (ds ∷ dss) = pad (prefix_append ds calls) (are_prefixes_refl dss)
push_begins (suc i) calls (ds ∷ dss) = pad (prefix_refl ds) (push_begins i calls dss)

pub past : (n j : ℕ) (inputs : List (List Call)) → InSection n inputs → j < n → AllPast j inputs
past n j [] s h = tt
past n j (calls ∷ inputs) s h = let is : flush_stops (items calls) ≡ n = sym (stops_of calls) ∙ s.0 in (has_to (suc j) (items calls) (omega (arith, is, h)), past n j inputs s.1 h)

pub still_in : (n i : ℕ) (inputs : List (List Call)) (x : Item) → is_flush_stop x ≡ false → InSection n inputs → InSection n (push_calls i (Feed x ∷ []) inputs)
still_in n i [] x plain s = tt
still_in n zero (calls ∷ inputs) x plain s =
    (stops_of (calls ++ Feed x ∷ []) ∙ ap flush_stops (items_push calls x) ∙ stops_plain (items calls) x plain ∙ sym (stops_of calls) ∙ s.0, s.1)
still_in n (suc i) (calls ∷ inputs) x plain s = (s.0, still_in n i inputs x plain s.1)

pub next_in : (n k : ℕ) (inputs : List (List Call)) → InSection n inputs → InSection (suc n) (push_each (Feed (Ev (FlushStop k)) ∷ []) inputs)
next_in n k [] s = tt
next_in n k (calls ∷ inputs) s =
    let stop : Item = Ev (FlushStop k) in
    let more : flush_stops_given (calls ++ Feed stop ∷ []) ≡ suc n =
    stops_of (calls ++ Feed stop ∷ []) ∙ ap flush_stops (items_push calls stop) ∙ stops_flushed (items calls) k ∙ ap suc (sym (stops_of calls) ∙ s.0) in
    (more, next_in n k inputs s.1)

more_behind : {xs ys : List Item} → IsPrefix xs ys → ys ≡ xs ++ drop (length xs) ys
more_behind nothing = refl
more_behind (next {x = x} p) = ap (λ zs. x ∷ zs) (more_behind p)

pub owes_more : OwesMore
owes_more = record {
  over = λ inputs i n j port x s plain h. sym (ap interleaved (reopenings_settled j (push_begins i (Feed x ∷ []) inputs) (past n j inputs s h)));
  more = λ inputs i j port x fed. more_behind (owes_in_order inputs fed (push_calls i (Feed x ∷ []) inputs) (push_begins i (Feed x ∷ []) inputs) port j);
}
