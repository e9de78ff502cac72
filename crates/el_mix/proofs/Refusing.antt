-- What is refused owes nothing.
use Rattle.std.proofs.Common.{◌≡◌, ◌⊎◌, ◌<◌, ℕ, zero, suc, ◌+◌, ◌-◌, Bool, true, false, if◌then◌else◌, List, [], ◌∷◌, ◌++◌, length, Option, Some, None, Ok, Err, refl, sym, ap, ◌∙◌, subst, inl, inr, arith}
use Rattle.gst_value.specs.Description.{Description}
use Rattle.gst_value.specs.declared.one.One.{One}
use Rattle.gst_time.specs.declared.time.TheConstants.{LIMIT}
use Rattle.flow_model.specs.declared.fault.StreamKind.TheVariants.{SplitFrame}
use Rattle.flow_model.specs.Item.{Item, Buf, Ev, StreamStart, NewCaps, NewSegment, Tag, Gap, FlushStop, Eos, is_flush_stop, is_eos}
use Rattle.flow_model.specs.Call.{Call, Feed, items}
use Rattle.flow_model.specs.Feeding.{has_eos}
use Rattle.flow_model.specs.Looking.{bytes_of}
use Rattle.flow_model.specs.Rule.{Fault, TooLong, BadStream}
use Rattle.flow_model.specs.Section.{section, counted, before_section, to_eos}
use Rattle.flow_model.proofs.Prefixes.{prefix_append}
use Rattle.flow_model.specs.SinkPads.{push_calls, calls_at, flush_stops_given, InSection}
use Rattle.el_mix.specs.Reopened.{counted_section, reopened, reopenings}
use Rattle.el_mix.specs.Mixed.{has}
use Rattle.el_mix.specs.Agreed.{or_else, caps_in, pad_caps, lowest_caps, buffer_refusal, refusal, is_there, agreed, all_agreed, first_refusal}
use Rattle.el_mix.specs.Mixes.{is_start, all_have, begun, interleaved, mixes}
use Rattle.el_mix.specs.Order.{IsKnown, InOrder}
use Rattle.el_mix.specs.Answer.{reached, more_or, answer_in}
use Rattle.el_mix.specs.Sections.{RefusedOwes}
use Rattle.el_mix.proofs.Reopening.{ends_behind}
use Rattle.el_mix.proofs.Owing.{not_started, any_started, not_there, caps_known}
use Rattle.el_mix.proofs.Opening.{pad_goes_on, open_eos}
use Rattle.el_mix.proofs.Ordering.{open_in_order}
use Rattle.el_mix.proofs.Answering.{section_at}
use Rattle.flow_model.proofs.Items.{stops_of}

-- one more item on a pad
abbrev pub push_item : ℕ → Item → List (List Item) → List (List Item)
push_item i x [] = []
push_item zero x (xs ∷ xss) = (xs ++ x ∷ []) ∷ xss
push_item (suc i) x (xs ∷ xss) = xs ∷ push_item i x xss

abbrev pub item_at : ℕ → List (List Item) → List Item
item_at i [] = []
item_at zero (xs ∷ xss) = xs
item_at (suc i) (xs ∷ xss) = item_at i xss

-- whether an item is refused does not hang on the time that was reached
buffer_there : (r : ℕ) (o : Option (Description One)) (got n : ℕ) → is_there (buffer_refusal r o got n) ≡ is_there (buffer_refusal 0 o got n)
buffer_there r None got n = refl
buffer_there r (Some caps) got n = go _ _
  where
    go : (a b : Bool) → is_there (if a then (if b then None else Some (TooLong r (LIMIT - r))) else Some (BadStream (got + n) SplitFrame))
        ≡ is_there (if a then (if b then None else Some (TooLong 0 (LIMIT - 0))) else Some (BadStream (got + n) SplitFrame))
    go true true = refl
    go true false = refl
    go false b = refl

pub refusal_there : (r : ℕ) (lowest : Option (Description One)) (h : List Item) (x : Item) → is_there (refusal r lowest h x) ≡ is_there (refusal 0 lowest h x)
refusal_there r lowest h (Buf b) = buffer_there r (pad_caps h) (length (bytes_of h)) (length b.body)
refusal_there r lowest h (Ev (StreamStart id)) = refl
refusal_there r lowest h (Ev (NewCaps caps)) = refl
refusal_there r lowest h (Ev (NewSegment s)) = refl
refusal_there r lowest h (Ev (Tag title)) = refl
refusal_there r lowest h (Ev (Gap pts duration)) = refl
refusal_there r lowest h (Ev (FlushStop number)) = refl
refusal_there r lowest h (Ev Eos) = refl

there_alone : (o : Option Fault) → is_there (or_else o None) ≡ true → is_there o ≡ true
there_alone None h = h
there_alone (Some f) h = refl

there_behind : (o p : Option Fault) → is_there o ≡ false → is_there (or_else o p) ≡ true → is_there p ≡ true
there_behind None p e h = h
there_behind (Some f) p e h = cc

-- where something is refused, what counts of a list is as without its last item
cut_same : (r : ℕ) (lowest : Option (Description One)) (h xs : List Item) (x : Item) → is_there (first_refusal r lowest h (xs ++ x ∷ [])) ≡ true
    → agreed lowest h (xs ++ x ∷ []) ≡ agreed lowest h xs
cut_same r lowest h [] x e =
    let there : is_there (refusal 0 lowest h x) ≡ true = sym (refusal_there r lowest h x) ∙ there_alone (refusal r lowest h x) e in rw there refl
cut_same r lowest h (y ∷ ys) x e = go (is_there (refusal 0 lowest h y)) refl (cut_same r lowest (h ++ y ∷ []) ys x)
  where
    go : (b : Bool) → is_there (refusal 0 lowest h y) ≡ b
        → (is_there (first_refusal r lowest (h ++ y ∷ []) (ys ++ x ∷ [])) ≡ true → agreed lowest (h ++ y ∷ []) (ys ++ x ∷ []) ≡ agreed lowest (h ++ y ∷ []) ys)
        → (if is_there (refusal 0 lowest h y) then [] else y ∷ agreed lowest (h ++ y ∷ []) (ys ++ x ∷ []))
        ≡ (if is_there (refusal 0 lowest h y) then [] else y ∷ agreed lowest (h ++ y ∷ []) ys)
    go true is rest = rw is refl
    go false is rest =
        rw is (ap (λ zs. y ∷ zs)
        (rest (there_behind (refusal r lowest h y) (first_refusal r lowest (h ++ y ∷ []) (ys ++ x ∷ [])) (refusal_there r lowest h y ∙ is) e)))

-- CAPS alone are judged by those of the lowest pad
plain_refusal : (o p : Option (Description One)) (h : List Item) (x : Item) → caps_in x ≡ None → refusal 0 o h x ≡ refusal 0 p h x
plain_refusal o p h (Buf b) e = refl
plain_refusal o p h (Ev (StreamStart id)) e = refl
plain_refusal o p h (Ev (NewCaps caps)) e = cc
plain_refusal o p h (Ev (NewSegment s)) e = refl
plain_refusal o p h (Ev (Tag title)) e = refl
plain_refusal o p h (Ev (Gap pts duration)) e = refl
plain_refusal o p h (Ev (FlushStop number)) e = refl
plain_refusal o p h (Ev Eos) e = refl

neither_caps : (o p : Option (Description One)) → or_else o p ≡ None → (o ≡ None) × (p ≡ None)
neither_caps None p e = (refl, e)
neither_caps (Some c) p e = cc

pub agreed_plain : (o p : Option (Description One)) (h xs : List Item) → pad_caps xs ≡ None → agreed o h xs ≡ agreed p h xs
agreed_plain o p h [] e = refl
agreed_plain o p h (y ∷ ys) e =
    let both = neither_caps (caps_in y) (pad_caps ys) e in
    rw (plain_refusal o p h y both.0, agreed_plain o p (h ++ y ∷ []) ys both.1) refl

-- the pads up to this one have no CAPS
abbrev NoCapsTo : ℕ → List (List Item) → Type 0
NoCapsTo i [] = Unit {0}
NoCapsTo zero (xs ∷ xss) = pad_caps xs ≡ None
NoCapsTo (suc i) (xs ∷ xss) = (pad_caps xs ≡ None) × NoCapsTo i xss

lowest_push : (i : ℕ) (x : Item) (xss : List (List Item)) → (lowest_caps (push_item i x xss) ≡ lowest_caps xss) ⊎ NoCapsTo i xss
lowest_push i x [] = inl refl
lowest_push zero x (xs ∷ xss) = go (pad_caps xs) refl
  where
    go : (o : Option (Description One)) → pad_caps xs ≡ o → (or_else (pad_caps (xs ++ x ∷ [])) (lowest_caps xss) ≡ or_else (pad_caps xs) (lowest_caps xss)) ⊎ (pad_caps xs ≡ None)
    go None e = inr e
    go (Some c) e = inl (rw (e, caps_known (prefix_append xs (x ∷ [])) e) refl)
lowest_push (suc i) x (xs ∷ xss) = go (pad_caps xs) refl (lowest_push i x xss)
  where
    go : (o : Option (Description One)) → pad_caps xs ≡ o → (lowest_caps (push_item i x xss) ≡ lowest_caps xss) ⊎ NoCapsTo i xss
        → (or_else (pad_caps xs) (lowest_caps (push_item i x xss)) ≡ or_else (pad_caps xs) (lowest_caps xss)) ⊎ ((pad_caps xs ≡ None) × NoCapsTo i xss)
    go (Some c) e r = inl (rw e refl)
    go None e (inl r) = inl (ap (or_else (pad_caps xs)) r)
    go None e (inr r) = inr (e, r)

-- no pad is above this one
abbrev IsLast : ℕ → List (List Item) → Type 0
IsLast i [] = Unit {0}
IsLast zero (xs ∷ xss) = xss ≡ []
IsLast (suc i) (xs ∷ xss) = IsLast i xss

if_closed : (b c : Bool) → c ≡ false → (if b then c else false) ≡ false
if_closed true c e = e
if_closed false c e = refl

-- below a pad that has neither CAPS nor EOS no pad has started
rest_waits : (i : ℕ) (x : Item) (xss : List (List Item)) → InOrder xss → NoCapsTo i xss → has is_eos (item_at i xss) ≡ false
    → IsLast i xss ⊎ ((all_have is_start xss ≡ false) × (all_have is_start (push_item i x xss) ≡ false))
rest_waits i x [] o n e = inl tt
rest_waits zero x (xs ∷ []) o n e = inl refl
rest_waits zero x (xs ∷ zs ∷ zss) o n e =
    let closed = go (all_have is_start (zs ∷ zss)) refl in
    inr (if_closed (has is_start xs) (all_have is_start (zs ∷ zss)) closed, if_closed (has is_start (xs ++ x ∷ [])) (all_have is_start (zs ∷ zss)) closed)
  where
    unknown : IsKnown xs → ⊥
    unknown (inl c) = not_there (pad_caps xs) n c
    unknown (inr f) = cc (e, f)

    go : (b : Bool) → all_have is_start (zs ∷ zss) ≡ b → all_have is_start (zs ∷ zss) ≡ false
    go true s = absurd (unknown (o.0 (any_started zs zss s)))
    go false s = s
rest_waits (suc i) x (xs ∷ xss) o n e = go (rest_waits i x xss o.1 n.1 e)
  where
    go : IsLast i xss ⊎ ((all_have is_start xss ≡ false) × (all_have is_start (push_item i x xss) ≡ false))
        → IsLast i xss ⊎ (((if has is_start xs then all_have is_start xss else false) ≡ false) × ((if has is_start xs then all_have is_start (push_item i x xss) else false) ≡ false))
    go (inl l) = inl l
    go (inr r) = inr (if_closed (has is_start xs) (all_have is_start xss) r.0, if_closed (has is_start xs) (all_have is_start (push_item i x xss)) r.1)

-- what counts of all pads is as without the item
push_same : (i : ℕ) (x : Item) (xss : List (List Item)) (o : Option (Description One)) → agreed o [] (item_at i xss ++ x ∷ []) ≡ agreed o [] (item_at i xss)
    → all_agreed o (push_item i x xss) ≡ all_agreed o xss
push_same i x [] o e = refl
push_same zero x (xs ∷ xss) o e = ap (λ zs. zs ∷ all_agreed o xss) e
push_same (suc i) x (xs ∷ xss) o e = ap (λ zss. agreed o [] xs ∷ zss) (push_same i x xss o e)

last_same : (i : ℕ) (x : Item) (xss : List (List Item)) (o p : Option (Description One)) → IsLast i xss → NoCapsTo i xss
    → agreed o [] (item_at i xss ++ x ∷ []) ≡ agreed o [] (item_at i xss) → all_agreed o (push_item i x xss) ≡ all_agreed p xss
last_same i x [] o p l n e = refl
last_same zero x (xs ∷ xss) o p l n e = rw l (ap (λ zs. zs ∷ []) (e ∙ agreed_plain o p [] xs n))
last_same (suc i) x (xs ∷ xss) o p l n e =
    ap (λ zs. zs ∷ all_agreed o (push_item i x xss)) (agreed_plain o p [] xs n.0) ∙ ap (λ zss. agreed p [] xs ∷ zss) (last_same i x xss o p l n.1 e)

pub some_pads : (xss : List (List Item)) → 0 < length xss → interleaved xss ≡ begun (all_agreed (lowest_caps xss) xss)
some_pads [] h = absurd (omega arith)
some_pads (xs ∷ xss) h = refl

pub push_length : (i : ℕ) (x : Item) (xss : List (List Item)) → length (push_item i x xss) ≡ length xss
push_length i x [] = refl
push_length zero x (xs ∷ xss) = refl
push_length (suc i) x (xs ∷ xss) = ap suc (push_length i x xss)

refused_same : (i r : ℕ) (x : Item) (xss : List (List Item)) → 0 < length xss → InOrder xss → has is_eos (item_at i xss) ≡ false
    → is_there (first_refusal r (lowest_caps (push_item i x xss)) [] (item_at i xss ++ x ∷ [])) ≡ true → interleaved (push_item i x xss) ≡ interleaved xss
refused_same i r x xss some o e there = go (lowest_push i x xss)
  where
    cut : agreed (lowest_caps (push_item i x xss)) [] (item_at i xss ++ x ∷ []) ≡ agreed (lowest_caps (push_item i x xss)) [] (item_at i xss)
    cut = cut_same r (lowest_caps (push_item i x xss)) [] (item_at i xss) x there

    pushed : interleaved (push_item i x xss) ≡ begun (all_agreed (lowest_caps (push_item i x xss)) (push_item i x xss))
    pushed = some_pads (push_item i x xss) (subst (λ n. 0 < n) (sym (push_length i x xss)) some)

    by : IsLast i xss ⊎ ((all_have is_start xss ≡ false) × (all_have is_start (push_item i x xss) ≡ false)) → NoCapsTo i xss → interleaved (push_item i x xss) ≡ interleaved xss
    by (inl l) n = pushed ∙ ap begun (last_same i x xss (lowest_caps (push_item i x xss)) (lowest_caps xss) l n cut) ∙ sym (some_pads xss some)
    by (inr w) n = not_started (push_item i x xss) w.1 ∙ sym (not_started xss w.0)

    go : (lowest_caps (push_item i x xss) ≡ lowest_caps xss) ⊎ NoCapsTo i xss → interleaved (push_item i x xss) ≡ interleaved xss
    go (inl same) =
        pushed ∙ ap begun (push_same i x xss (lowest_caps (push_item i x xss)) cut) ∙ ap (λ o. begun (all_agreed o xss)) same ∙ sym (some_pads xss some)
    go (inr n) = by (rest_waits i x xss o n e) n

-- the lists of a section
pub push_lists : (n i : ℕ) (inputs : List (List Call)) (x : Item) → InSection n inputs → is_flush_stop x ≡ false → has_eos (calls_at i inputs) ≡ false
    → reopenings n (push_calls i (Feed x ∷ []) inputs) ≡ push_item i x (reopenings n inputs)
push_lists n i [] x s plain e = refl
push_lists n zero (calls ∷ inputs) x s plain e =
    ap (λ zs. zs ∷ reopenings n inputs)
    (ap (λ m. reopened m (items (calls ++ Feed x ∷ []))) (sym s.0) ∙ pad_goes_on.taken calls x plain e ∙ ap (λ m. reopened m (items calls) ++ x ∷ []) s.0)
push_lists n (suc i) (calls ∷ inputs) x s plain e = ap (λ zss. reopened n (items calls) ∷ zss) (push_lists n i inputs x s.1 plain e)

pub list_at : (n i : ℕ) (inputs : List (List Call)) → i < length inputs → item_at i (reopenings n inputs) ≡ reopened n (items (calls_at i inputs))
list_at n i [] l = absurd (omega arith)
list_at n zero (calls ∷ inputs) l = refl
list_at n (suc i) (calls ∷ inputs) l = list_at n i inputs (omega (arith, l))

pub push_at : (i : ℕ) (inputs : List (List Call)) (more : List Call) → i < length inputs → calls_at i (push_calls i more inputs) ≡ calls_at i inputs ++ more
push_at i [] more l = absurd (omega arith)
push_at zero (calls ∷ inputs) more l = refl
push_at (suc i) (calls ∷ inputs) more l = push_at i inputs more (omega (arith, l))

pub some_lists : (n : ℕ) (inputs : List (List Call)) → 0 < length inputs → 0 < length (reopenings n inputs)
some_lists n [] l = l
some_lists n (calls ∷ inputs) l = omega arith

to_eos_has : (xs : List Item) → has is_eos (to_eos xs) ≡ has is_eos xs
to_eos_has [] = refl
to_eos_has (y ∷ ys) = go (is_eos y) (to_eos_has ys)
  where
    go : (b : Bool) → has is_eos (to_eos ys) ≡ has is_eos ys → (if b then true else has is_eos (if b then [] else to_eos ys)) ≡ (if b then true else has is_eos ys)
    go true r = refl
    go false r = r

pub open_list : (n : ℕ) (calls : List Call) → flush_stops_given calls ≡ n → has_eos calls ≡ false → has is_eos (reopened n (items calls)) ≡ false
open_list n calls is e =
    ends_behind (counted (before_section n (items calls))) (counted_section n (items calls))
    ∙ to_eos_has (section n (items calls))
    ∙ ap (λ m. has is_eos (section m (items calls))) (sym is ∙ stops_of calls)
    ∙ sym (open_eos calls)
    ∙ e

pub refused_owes : RefusedOwes
refused_owes inputs i n port x fault s plain l fed answer = go (has_eos (calls_at i inputs)) refl answer
  where
    found : (o : Option Fault) (ys zs : List Item) → more_or o ys zs ≡ Err fault → is_there o ≡ true
    found None ys zs e = cc
    found (Some f) ys zs e = refl

    by : has_eos (calls_at i inputs) ≡ false → (r m : ℕ) → m ≡ n
        → is_there (first_refusal r (lowest_caps (reopenings m (push_calls i (Feed x ∷ []) inputs))) [] (reopened m (items (calls_at i (push_calls i (Feed x ∷ []) inputs))))) ≡ true
        → mixes (push_calls i (Feed x ∷ []) inputs) port n ≡ mixes inputs port n
    by e r m is there =
        let lists : reopenings n (push_calls i (Feed x ∷ []) inputs) ≡ push_item i x (reopenings n inputs) = push_lists n i inputs x s plain e in
        let at_n : is_there (first_refusal r (lowest_caps (reopenings n (push_calls i (Feed x ∷ []) inputs))) []
        (reopened n (items (calls_at i (push_calls i (Feed x ∷ []) inputs))))) ≡ true =
        subst (λ k. is_there (first_refusal r (lowest_caps (reopenings k (push_calls i (Feed x ∷ []) inputs))) []
        (reopened k (items (calls_at i (push_calls i (Feed x ∷ []) inputs))))) ≡ true) is there in
        let last : reopened n (items (calls_at i (push_calls i (Feed x ∷ []) inputs))) ≡ item_at i (reopenings n inputs) ++ x ∷ [] =
        ap (λ cs. reopened n (items cs)) (push_at i inputs (Feed x ∷ []) l)
        ∙ ap (λ k. reopened k (items (calls_at i inputs ++ Feed x ∷ []))) (sym (section_at n i inputs s l))
        ∙ pad_goes_on.taken (calls_at i inputs) x plain e
        ∙ ap (λ k. reopened k (items (calls_at i inputs)) ++ x ∷ []) (section_at n i inputs s l)
        ∙ ap (λ zs. zs ++ x ∷ []) (sym (list_at n i inputs l)) in
        let in_lists : is_there (first_refusal r (lowest_caps (push_item i x (reopenings n inputs))) [] (item_at i (reopenings n inputs) ++ x ∷ [])) ≡ true =
        sym (ap (λ zss. is_there (first_refusal r (lowest_caps zss) [] (item_at i (reopenings n inputs) ++ x ∷ []))) lists)
        ∙ sym (ap (λ zs. is_there (first_refusal r (lowest_caps (reopenings n (push_calls i (Feed x ∷ []) inputs))) [] zs)) last)
        ∙ at_n in
        ap interleaved lists
        ∙ refused_same i r x (reopenings n inputs) (some_lists n inputs (omega (arith, l))) (open_in_order n inputs s (fed n))
        (ap (has is_eos) (list_at n i inputs l) ∙ open_list n (calls_at i inputs) (section_at n i inputs s l) e) in_lists

    go : (b : Bool) → has_eos (calls_at i inputs) ≡ b
        → (if b then Ok [] else answer_in (flush_stops_given (calls_at i inputs)) inputs (push_calls i (Feed x ∷ []) inputs) i) ≡ Err fault
        → mixes (push_calls i (Feed x ∷ []) inputs) port n ≡ mixes inputs port n
    go true h e = cc
    go false h e =
        by h (reached (mixes inputs 0 (flush_stops_given (calls_at i inputs)))) (flush_stops_given (calls_at i inputs)) (section_at n i inputs s l)
        (found (first_refusal (reached (mixes inputs 0 (flush_stops_given (calls_at i inputs))))
        (lowest_caps (reopenings (flush_stops_given (calls_at i inputs)) (push_calls i (Feed x ∷ []) inputs))) []
        (reopened (flush_stops_given (calls_at i inputs)) (items (calls_at i (push_calls i (Feed x ∷ []) inputs)))))
        (mixes inputs 0 (flush_stops_given (calls_at i inputs))) (mixes (push_calls i (Feed x ∷ []) inputs) 0 (flush_stops_given (calls_at i inputs))) e)
