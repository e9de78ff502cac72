-- The plain evaluation, item by item.
use Rattle.std.proofs.Common.{◌≡◌, ℕ, ◌+◌, ◌<◌, ◌≤◌, Bool, true, false, List, [], ◌∷◌, ◌++◌, length, map, replicate, take, drop, get_or, refl, sym, ap, ◌∙◌, Option, None, Some, Result, Ok, Err, arith, add-one, drop-cons}
use Rattle.std.proofs.lemmas.List.{take_more, take_all, take-append-drop}
use Rattle.gst_caps.specs.declared.caps.Caps.{Caps}
use Rattle.gst_item.specs.declared.out.Out.{Out}
use Rattle.flow_model.specs.declared.fault.ElementFault.{ElementFault}
use Rattle.flow_model.specs.declared.fault.ElementFault.TheVariants.{NotNegotiated as Refused, BadStream as Broken, TooLong as Passing, OutOfMemory as Wanting}
use Rattle.flow_model.specs.Item.{Item, Ev, FlushStop, is_flush_stop}
use Rattle.flow_model.specs.Call.{Call, Feed, feeds}
use Rattle.flow_model.specs.Rule.{Response, Fault, Fed, unfed, fed_item, all_called}
use Rattle.flow_model.specs.Feeding.{on_pad, next_owed, IsFaultOf}
use Rattle.el_set.specs.declared.filter.FilterElement.{FilterElement}
use Rattle.el_settings.specs.declared.settings.Settings.{Settings}
use Rattle.el_settings.specs.Values.{or_else}
use Rattle.el_settings.specs.Asked.{source_pads, with_allowed}
use Rattle.el_set.specs.Denoted.{response_of}
use Rattle.el_denote.specs.Denoted.{fault_at, first_fault_from, first_fault, next_fault, answered, only_input, IsOwed, IsDenoted}
use Rattle.el_set.specs.Stands.{Stands, PutsOut}
use Rattle.el_denote.specs.Stepping.{TookAll}
use Rattle.el_settings.proofs.Allowing.{sources_set}
use Rattle.el_set.proofs.Elements.{elements_owe}
use Rattle.el_settings.proofs.Given.{or_else-or_else}
use Rattle.flow_model.proofs.Calls.{feeds_push}

pub on_pad_append : (pad : ℕ) (xs ys : List Item) → on_pad pad (xs ++ ys) ≡ on_pad pad xs ++ on_pad pad ys
on_pad_append pad [] ys = refl
on_pad_append pad (x ∷ xs) ys = ap (λ os. record { pad = pad; item = x } ∷ os) (on_pad_append pad xs ys)

pub items_on_pad : (pad : ℕ) (xs : List Item) → map (λ (o : Out). o.item) (on_pad pad xs) ≡ xs
items_on_pad pad [] = refl
items_on_pad pad (x ∷ xs) = ap (λ ys. x ∷ ys) (items_on_pad pad xs)

-- the first fault of a list, by one of its items
first_split : (respond : Response) (s : Fed) (xs : List Item) (x : Item) (rest : List Item)
    → first_fault_from respond s (xs ++ x ∷ rest)
    ≡ or_else (first_fault_from respond s xs)
    (or_else (fault_at respond (all_called respond s (feeds xs)) x) (first_fault_from respond (fed_item respond (all_called respond s (feeds xs)) x) rest))
first_split respond s [] x rest = refl
first_split respond s (y ∷ ys) x rest =
    ap (λ o. or_else (fault_at respond s y) o) (first_split respond (fed_item respond s y) ys x rest)
    ∙ sym (or_else-or_else (fault_at respond s y) (first_fault_from respond (fed_item respond s y) ys) _)

none_behind : (respond : Response) (items : List Item) (x : Item) → first_fault respond items ≡ None → next_fault respond items x ≡ None
    → first_fault respond (items ++ x ∷ []) ≡ None
none_behind respond items x before at = first_split respond unfed items x [] ∙ rw (before, at) refl

-- an item that was taken had no fault
no_fault : (respond : Response) (calls : List Call) (x : Item) (more : List Item) → is_flush_stop x ≡ false → next_owed respond calls x ≡ Ok more
    → fault_at respond (all_called respond unfed calls) x ≡ None
no_fault respond calls x more plain owed = go (all_called respond unfed calls).over refl (respond (all_called respond unfed calls) x) refl
  where
    go : (over : Bool) → (all_called respond unfed calls).over ≡ over → (r : Result (List Item) Fault) → respond (all_called respond unfed calls) x ≡ r
        → fault_at respond (all_called respond unfed calls) x ≡ None
    go true e r a = rw (plain, e) refl
    go false e (Ok ys) a = rw (plain, e, a) refl
    go false e (Err f) a = let none : Err f ≡ Ok more = rw (e, a) at owed in absurd (cc)

pub took_first : (respond : Response) (element : FilterElement) (out : List Out) → out ≡ [] → Stands respond element [] [] → TookAll respond element [] out
took_first respond element out is s = record { put = []; stands = s; outs = is; whole = refl }

pub took_fed : (old new : FilterElement) (x copy : Item) (before after : List Out) → copy ≡ x → is_flush_stop x ≡ false → PutsOut old new (Feed copy) before after
    → (respond : Response) (items : List Item) → TookAll respond old items before → TookAll respond new (items ++ x ∷ []) after
took_fed old new x copy before after same plain puts respond items p =
    let m : PutsOut old new (Feed x) before after = rw same at puts in
    record {
      put = p.put ++ m.more;
      stands = rw (feeds_push items x) (m.stands respond (feeds items) p.put p.stands);
      outs = m.outs ∙ ap (λ os. os ++ on_pad 0 m.more) p.outs ∙ sym (on_pad_append 0 p.put m.more);
      whole = none_behind respond items x p.whole (no_fault respond (feeds items) x m.more plain (m.owed respond (feeds items) p.put p.stands));
    }

flush_is : (x : Item) → is_flush_stop x ≡ true → (number : ℕ) × (x ≡ Ev (FlushStop number))
flush_is (Ev (FlushStop number)) e = (number, refl)
flush_is _ e = absurd (cc)

pub took_flush : (old new : FilterElement) (x copy : Item) (before after : List Out) → copy ≡ x → is_flush_stop x ≡ true
    → after ≡ before ++ (record { pad = 0; item = copy }) ∷ []
    → ((respond : Response) (calls : List Call) (put : List Item) (number : ℕ) → Stands respond old calls put
    → Stands respond new (calls ++ Feed (Ev (FlushStop number)) ∷ []) (put ++ Ev (FlushStop number) ∷ []))
    → (respond : Response) (items : List Item) → TookAll respond old items before → TookAll respond new (items ++ x ∷ []) after
took_flush old new x copy before after same stop outs flushed_by respond items p =
    let calls = feeds items in
    let n = flush_is x stop in
    let stood : Stands respond new (calls ++ Feed x ∷ []) (p.put ++ x ∷ []) = rw n.1 (flushed_by respond calls p.put n.0 p.stands) in
    let put_out : after ≡ before ++ on_pad 0 (x ∷ []) = rw same at outs in
    record {
      put = p.put ++ x ∷ [];
      stands = rw (feeds_push items x) stood;
      outs = put_out ∙ ap (λ os. os ++ on_pad 0 (x ∷ [])) p.outs ∙ sym (on_pad_append 0 p.put (x ∷ []));
      whole = none_behind respond items x p.whole (rw stop refl);
    }

-- the fault of the element is that of its next item
answered_next : (respond : Response) (calls : List Call) (x : Item) (f : Fault) → is_flush_stop x ≡ false → next_owed respond calls x ≡ Err f
    → answered (fault_at respond (all_called respond unfed calls) x) ≡ Err f
answered_next respond calls x f plain owed = go (all_called respond unfed calls).over refl (respond (all_called respond unfed calls) x) refl
  where
    go : (over : Bool) → (all_called respond unfed calls).over ≡ over → (r : Result (List Item) Fault) → respond (all_called respond unfed calls) x ≡ r
        → answered (fault_at respond (all_called respond unfed calls) x) ≡ Err f
    go true e r a = let none : Ok [] ≡ Err f = rw e at owed in absurd (cc)
    go false e (Ok ys) a = let some : Ok ys ≡ Err f = rw (e, a) at owed in absurd (cc)
    go false e (Err g) a = let same : Err g ≡ Err f = rw (e, a) at owed in rw (plain, e, a) same

pub next_of : (respond : Response) (items : List Item) (x copy : Item) (fault : ElementFault) → copy ≡ x → is_flush_stop x ≡ false
    → IsFaultOf (next_owed respond (feeds items) copy) fault → IsFaultOf (answered (next_fault respond items x)) fault
next_of respond items x copy (Refused offered wanted) same plain p = answered_next respond (feeds items) x _ plain (rw same at p)
next_of respond items x copy (Broken place kind) same plain p = answered_next respond (feeds items) x _ plain (rw same at p)
next_of respond items x copy (Passing a b) same plain p = answered_next respond (feeds items) x _ plain (rw same at p)
next_of respond items x copy Wanting same plain p = tt

pub moved : (o later : Option Fault) (fault : ElementFault) → IsFaultOf (answered o) fault → IsFaultOf (answered (or_else o later)) fault
moved (Some f) later fault p = p
moved None later (Refused offered wanted) p = absurd (cc)
moved None later (Broken place kind) p = absurd (cc)
moved None later (Passing a b) p = absurd (cc)
moved None later Wanting p = tt

split_at : (items : List Item) (i : ℕ) (x : Item) → i < length items → x ≡ get_or items i x → items ≡ take i items ++ x ∷ drop (i + 1) items
split_at items i x within is =
    sym (take-append-drop i items) ∙ ap (λ xs. take i items ++ xs) (drop-cons items i x within ∙ rw (← is, add-one i) refl)

pub owed_fault : (respond : Response) (items : List Item) (i : ℕ) (x : Item) (fault : ElementFault) → i < length items → x ≡ get_or items i x
    → first_fault respond (take i items) ≡ None → IsFaultOf (answered (next_fault respond (take i items) x)) fault
    → IsOwed respond items (Err fault)
owed_fault respond items i x fault within is before p =
    let later = first_fault_from respond (fed_item respond (all_called respond unfed (feeds (take i items))) x) (drop (i + 1) items) in
    let whole : first_fault respond items ≡ or_else (next_fault respond (take i items) x) later =
    ap (first_fault respond) (split_at items i x within is) ∙ first_split respond unfed (take i items) x (drop (i + 1) items) ∙ rw before refl
    in rw whole (moved (next_fault respond (take i items) x) later fault p)

pub took_more : (respond : Response) (element : FilterElement) (items : List Item) (i : ℕ) (x : Item) (out : List Out) → i < length items → x ≡ get_or items i x
    → TookAll respond element (take i items ++ x ∷ []) out → TookAll respond element (take (i + 1) items) out
took_more respond element items i x out within is p = rw (take_more items i x within, ← is) p

pub took_whole : (respond : Response) (element : FilterElement) (items : List Item) (i : ℕ) (out : List Out) → length items ≤ i
    → TookAll respond element (take i items) out → TookAll respond element items out
took_whole respond element items i out end p = rw (take_all i items end) at p

pub owed_all : (respond : Response) (element : FilterElement) (items : List Item) (out : List Out) (made : List Item) → TookAll respond element items out
    → made ≡ map (λ (o : Out). o.item) out → IsOwed respond items (Ok made)
owed_all respond element items out made p e =
    (p.whole, e ∙ ap (λ (os : List Out). map (λ (o : Out). o.item) os) p.outs ∙ items_on_pad 0 p.put ∙ elements_owe respond element (feeds items) p.put p.stands)

pub denoted_ok : (settings : Settings) (caps : Caps) (inputs : List (List Item)) (items : List Item) (r : Result (List Item) ElementFault) (owed : List Item) (outputs : List (List Item)) → r ≡ Ok owed
    → only_input inputs ≡ items → IsOwed (response_of (with_allowed caps settings)) items r → outputs ≡ replicate (source_pads settings) owed
    → IsDenoted (with_allowed caps settings) inputs (Ok outputs)
denoted_ok settings caps inputs items r owed outputs is only p made =
    let q : IsOwed (response_of (with_allowed caps settings)) items (Ok owed) = rw is at p in
    rw (only, sources_set caps settings) (q.0, made ∙ ap (replicate (source_pads settings)) q.1)

pub denoted_err : (settings : Settings) (caps : Caps) (inputs : List (List Item)) (items : List Item) (r : Result (List Item) ElementFault) (fault : ElementFault) → r ≡ Err fault
    → only_input inputs ≡ items → IsOwed (response_of (with_allowed caps settings)) items r → IsDenoted (with_allowed caps settings) inputs (Err fault)
denoted_err settings caps inputs items r fault is only p =
    let q : IsOwed (response_of (with_allowed caps settings)) items (Err fault) = rw is at p in
    rw only q

pub first_is : (inputs slice : List (List Item)) (input list : List Item) → slice ≡ inputs → 0 < length slice → input ≡ get_or slice 0 input → list ≡ input
    → only_input inputs ≡ list
first_is inputs slice input list same within is copied = rw (← same) (go slice within is ∙ sym copied)
  where
    go : (xs : List (List Item)) → 0 < length xs → input ≡ get_or xs 0 input → only_input xs ≡ input
    go [] w e = absurd (omega (arith, w))
    go (x ∷ xs) w e = sym e
