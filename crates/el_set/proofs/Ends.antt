-- EOS through an element that passes each item or refuses it.
use Rattle.std.proofs.Common.{◌≡◌, ◌≢◌, ◌⊎◌, ℕ, zero, suc, Bool, true, false, ◌||◌, if◌then◌else◌, List, [], ◌∷◌, ◌++◌, length, refl, sym, ap, ◌∙◌, inl, inr, append_assoc, append-nil, length-append, arith, All, Result, Ok, Err}
use Rattle.std.specs.List.{fold}
use Rattle.gst_caps.specs.declared.caps.Caps.{Caps}
use Rattle.gst_value.specs.Description.{Description}
use Rattle.gst_value.specs.declared.one.One.{One}
use Rattle.gst_caps.specs.Accepts.{accepts}
use Rattle.std.specs.Prelude.{Option}
use Rattle.flow_model.specs.Item.{Item, Buf, Ev, StreamStart, NewCaps, NewSegment, Tag, Gap, FlushStop, Eos, is_flush_stop, is_eos, eos_among}
use Rattle.flow_model.specs.Sticky.{first_found, latest, has_flush_stop, since_flush_stop, in_force}
use Rattle.flow_model.specs.Prefix.{IsPrefix, nothing, next}
use Rattle.flow_model.specs.Section.{section, counted_after, counted, IsPlain}
use Rattle.flow_model.specs.Call.{items, feeds}
use Rattle.flow_model.specs.Rule.{Response, Fault, Fed, unfed, responded, flushed, fed_item, all_called, owed_for, passes}
use Rattle.el_basic.specs.Filters.{takes_buffer, filter_in, filter_answer, filters}
use Rattle.flow_model.specs.CapsInForce.{caps_in_force}
use Rattle.el_set.specs.Ends.{MeetsNoFault, EndsWithEos, owed_along, MeetNoFaults, RowEndsWithEos}
use Rattle.flow_model.proofs.Counted.{since_all}
use Rattle.flow_model.proofs.Items.{none_first, stop_no_eos as flush_is_no_eos}
use Rattle.gst_item.specs.Item.{has_item}

-- whether a list has EOS, item by item
eos_from : (b : Bool) (xs : List Item) → fold (λ eos x. eos || is_eos x) b xs ≡ (b || eos_among xs)
eos_from true [] = refl
eos_from false xs = refl
eos_from true (x ∷ xs) = eos_from true xs

pub eos_first : (x : Item) (xs : List Item) → eos_among (x ∷ xs) ≡ (is_eos x || eos_among xs)
eos_first x xs = eos_from (is_eos x) xs

pub eos_latest : (xs : List Item) → has_item (latest is_eos xs) ≡ eos_among xs
eos_latest [] = refl
eos_latest (x ∷ xs) = go (is_eos x) (latest is_eos xs) (eos_among xs) (eos_latest xs) ∙ sym (eos_first x xs)
  where
    go : (e : Bool) (found : List Item) (h : Bool) → has_item found ≡ h → has_item (first_found found (if e then x ∷ [] else [])) ≡ (e || h)
    go true [] h is = refl
    go true (z ∷ zs) h is = refl
    go false [] h is = is
    go false (z ∷ zs) h is = is

pub plain_no_flush : (xs : List Item) → IsPlain xs → has_flush_stop xs ≡ false
plain_no_flush [] h = refl
plain_no_flush (x ∷ xs) h = rw h.0 (plain_no_flush xs h.2)

-- what counts of a list has EOS where the list has it
pub counted_eos : (xs : List Item) → eos_among (counted xs) ≡ eos_among xs
counted_eos [] = refl
counted_eos (x ∷ xs) = eos_first x (counted_after (is_eos x) xs) ∙ go (is_eos x) (counted_eos xs) ∙ sym (eos_first x xs)
  where
    go : (e : Bool) → eos_among (counted xs) ≡ eos_among xs → (e || eos_among (counted_after e xs)) ≡ (e || eos_among xs)
    go true same = refl
    go false same = same

-- nothing counts behind EOS, up to a FLUSH_STOP
none_counts : (xs : List Item) → has_flush_stop xs ≡ false → counted_after true xs ≡ []
none_counts [] h = refl
none_counts (x ∷ xs) h = let t = none_first x xs h in rw t.0 (none_counts xs t.1)

section_ended : (xs : List Item) → section 0 (counted_after true xs) ≡ []
section_ended [] = refl
section_ended (x ∷ xs) = go (is_flush_stop x) refl (section_ended xs)
  where
    go : (f : Bool) → is_flush_stop x ≡ f → section 0 (counted_after true xs) ≡ [] → section 0 (if f then x ∷ counted_after false xs else counted_after true xs) ≡ []
    go true e none = rw e refl
    go false e none = none

section_plain : (j : ℕ) (b : Bool) (xs : List Item) → IsPlain (section j (counted_after b xs))
section_plain j b [] = tt
section_plain zero false (x ∷ xs) = go (is_flush_stop x) refl (section_plain zero (is_eos x) xs)
  where
    behind : (e : Bool) → e ≡ true → section 0 (counted_after e xs) ≡ []
    behind true h = section_ended xs
    behind false h = absurd (cc)

    go : (f : Bool) → is_flush_stop x ≡ f → IsPlain (section 0 (counted_after (is_eos x) xs)) → IsPlain (if f then [] else x ∷ section 0 (counted_after (is_eos x) xs))
    go true e rest = tt
    go false e rest = (e, behind (is_eos x), rest)
section_plain (suc j) false (x ∷ xs) = go (is_flush_stop x) (section_plain j (is_eos x) xs) (section_plain (suc j) (is_eos x) xs)
  where
    go : (f : Bool) → IsPlain (section j (counted_after (is_eos x) xs)) → IsPlain (section (suc j) (counted_after (is_eos x) xs))
        → IsPlain (if f then section j (counted_after (is_eos x) xs) else section (suc j) (counted_after (is_eos x) xs))
    go true past same = past
    go false past same = same
section_plain zero true (x ∷ xs) = rw (section_ended (x ∷ xs)) tt
section_plain (suc j) true (x ∷ xs) = go (is_flush_stop x) refl (section_plain j false xs) (section_plain (suc j) true xs)
  where
    go : (f : Bool) → is_flush_stop x ≡ f → IsPlain (section j (counted_after false xs)) → IsPlain (section (suc j) (counted_after true xs))
        → IsPlain (section (suc j) (if f then x ∷ counted_after false xs else counted_after true xs))
    go true e past same = rw e past
    go false e past same = same

pub sections_plain : (j : ℕ) (xs : List Item) → IsPlain (section j (counted xs))
sections_plain j xs = section_plain j false xs

-- EOS since the last FLUSH_STOP
keeps_flush : (b : Bool) (xs : List Item) → has_flush_stop (counted_after b xs) ≡ has_flush_stop xs
keeps_flush b [] = refl
keeps_flush false (x ∷ xs) = rw (keeps_flush (is_eos x) xs) refl
keeps_flush true (x ∷ xs) = go (is_flush_stop x) refl (keeps_flush true xs)
  where
    go : (f : Bool) → is_flush_stop x ≡ f → has_flush_stop (counted_after true xs) ≡ has_flush_stop xs
        → has_flush_stop (if f then x ∷ counted_after false xs else counted_after true xs) ≡ (if f then true else has_flush_stop xs)
    go true e same = rw e refl
    go false e same = same

-- by what counts behind the first item
eos_next : (x : Item) (c xs : List Item) → has_flush_stop c ≡ has_flush_stop xs
    → (has_flush_stop xs ≡ true → has_item (latest is_eos (since_flush_stop c)) ≡ has_item (latest is_eos (since_flush_stop xs)))
    → (is_flush_stop x ≡ true → has_item (latest is_eos c) ≡ has_item (latest is_eos xs))
    → has_flush_stop (x ∷ xs) ≡ true
    → has_item (latest is_eos (since_flush_stop (x ∷ c))) ≡ has_item (latest is_eos (since_flush_stop (x ∷ xs)))
eos_next x c xs same more first some = go (has_flush_stop xs) (is_flush_stop x) refl refl some
  where
    go : (h f : Bool) → has_flush_stop xs ≡ h → is_flush_stop x ≡ f → (if f then true else h) ≡ true
        → has_item (latest is_eos (since_flush_stop (x ∷ c))) ≡ has_item (latest is_eos (since_flush_stop (x ∷ xs)))
    go true f e e' some = rw (same ∙ e, e) (more e)
    go false true e e' some = rw (same ∙ e, e, e') (first e')
    go false false e e' some = absurd (cc)

eos_all : (xs : List Item) → has_item (latest is_eos (counted xs)) ≡ has_item (latest is_eos xs)
eos_all xs = eos_latest (counted xs) ∙ counted_eos xs ∙ sym (eos_latest xs)

-- where there is a FLUSH_STOP, by the state at the beginning
eos_since : (b : Bool) (xs : List Item) → has_flush_stop xs ≡ true
    → has_item (latest is_eos (since_flush_stop (counted_after b xs))) ≡ has_item (latest is_eos (since_flush_stop xs))
eos_since b [] h = absurd (cc)
eos_since false (x ∷ xs) h =
    eos_next x (counted_after (is_eos x) xs) xs (keeps_flush (is_eos x) xs) (eos_since (is_eos x) xs) (λ e. rw (flush_is_no_eos x e) (eos_all xs)) h
eos_since true (x ∷ xs) h = go (is_flush_stop x) refl h (eos_since false xs) (eos_since true xs)
  where
    go : (f : Bool) → is_flush_stop x ≡ f → (if f then true else has_flush_stop xs) ≡ true
        → (has_flush_stop xs ≡ true → has_item (latest is_eos (since_flush_stop (counted xs))) ≡ has_item (latest is_eos (since_flush_stop xs)))
        → (has_flush_stop xs ≡ true → has_item (latest is_eos (since_flush_stop (counted_after true xs))) ≡ has_item (latest is_eos (since_flush_stop xs)))
        → has_item (latest is_eos (since_flush_stop (if f then x ∷ counted_after false xs else counted_after true xs))) ≡ has_item (latest is_eos (since_flush_stop (x ∷ xs)))
    go true e some begun ended = eos_next x (counted xs) xs (keeps_flush false xs) begun (λ e. eos_all xs) h
    go false e some begun ended = ended some ∙ sym (rw some refl)

pub counted_eos_since : (xs : List Item) → has_item (in_force (counted xs)).eos ≡ has_item (in_force xs).eos
counted_eos_since xs = go (has_flush_stop xs) refl
  where
    go : (h : Bool) → has_flush_stop xs ≡ h → has_item (latest is_eos (since_flush_stop (counted xs))) ≡ has_item (latest is_eos (since_flush_stop xs))
    go true e = eos_since false xs e
    go false e = rw (since_all (counted xs) (keeps_flush false xs ∙ e), since_all xs e) (eos_all xs)

-- Rules that owe an item for itself, or meet a fault at it.
abbrev pub IsPassing : Response → Type 0
IsPassing respond = (s : Fed) (x : Item) → (respond s x ≡ Ok (x ∷ [])) ⊎ ((fault : Fault) × (respond s x ≡ Err fault))

pub passes_is_passing : IsPassing passes
passes_is_passing s x = inl refl

by_test : (b : Bool) (x : Item) (fault : Fault)
    → ((if b then Ok (x ∷ []) else Err fault) ≡ Ok (x ∷ [])) ⊎ ((fault' : Fault) × ((if b then Ok (x ∷ []) else Err fault) ≡ Err fault'))
by_test true x fault = inl refl
by_test false x fault = inr (fault, refl)

filter_passes : (filter : Caps) (caps : Option (Description One)) (x : Item)
    → (filter_answer filter caps x ≡ Ok (x ∷ [])) ⊎ ((fault : Fault) × (filter_answer filter caps x ≡ Err fault))
filter_passes filter caps (Buf buffer) = by_test (takes_buffer filter caps) (Buf buffer) _
filter_passes filter caps (Ev (NewCaps new)) = by_test (accepts filter new) (Ev (NewCaps new)) _
filter_passes filter caps (Ev (StreamStart id)) = inl refl
filter_passes filter caps (Ev (NewSegment segment)) = inl refl
filter_passes filter caps (Ev (Tag title)) = inl refl
filter_passes filter caps (Ev (Gap pts duration)) = inl refl
filter_passes filter caps (Ev (FlushStop number)) = inl refl
filter_passes filter caps (Ev Eos) = inl refl

pub filters_is_passing : (first : Caps) → IsPassing (filters first)
filters_is_passing first s x = filter_passes (filter_in first s.given) (caps_in_force (items s.given)) x

-- a section that is over
over_stays : (respond : Response) (s : Fed) (xs : List Item) → has_flush_stop xs ≡ false → s.over ≡ true → all_called respond s (feeds xs) ≡ s
over_stays respond s [] h over = refl
over_stays respond s (x ∷ xs) h over =
    let t = none_first x xs h in
    ap (λ (z : Fed). all_called respond z (feeds xs)) (go (is_flush_stop x) s.over t.0 over) ∙ over_stays respond s xs t.1 over
  where
    go : (f o : Bool) → f ≡ false → o ≡ true → (if f then flushed s x else (if o then s else responded s x (respond s x))) ≡ s
    go true o e e' = absurd (cc)
    go false true e e' = refl
    go false false e e' = absurd (cc)

-- one item in a section that is not over
fed_by : (respond : Response) (s : Fed) (x : Item) (r : Result (List Item) Fault) → is_flush_stop x ≡ false → s.over ≡ false → respond s x ≡ r
    → fed_item respond s x ≡ responded s x r
fed_by respond s x r none begun e = go (is_flush_stop x) s.over none begun
  where
    go : (f o : Bool) → f ≡ false → o ≡ false → (if f then flushed s x else (if o then s else responded s x (respond s x))) ≡ responded s x r
    go true o e e' = absurd (cc)
    go false true e e' = absurd (cc)
    go false false e' e'' = ap (responded s x) e

all_by : (respond : Response) (s : Fed) (x : Item) (xs : List Item) (r : Result (List Item) Fault) → is_flush_stop x ≡ false → s.over ≡ false → respond s x ≡ r
    → all_called respond s (feeds (x ∷ xs)) ≡ all_called respond (responded s x r) (feeds xs)
all_by respond s x xs r none begun e = ap (λ (z : Fed). all_called respond z (feeds xs)) (fed_by respond s x r none begun e)

-- what is owed more for a list
record More (respond : Response) (s : Fed) (xs : List Item) : Type 0 where
  more : List Item
  out : (all_called respond s (feeds xs)).out ≡ s.out ++ more
  plain : IsPlain more

more_from : (respond : Response) → IsPassing respond → (s : Fed) (xs : List Item) → has_flush_stop xs ≡ false → s.over ≡ false → More respond s xs
more_from respond passing s [] h begun = record { more = []; out = sym (append-nil s.out); plain = tt }
more_from respond passing s (x ∷ xs) h begun = go (passing s x) (λ i. more_from respond passing (responded s x (Ok (x ∷ []))) xs (none_first x xs h).1 i)
  where
    none : is_flush_stop x ≡ false
    none = (none_first x xs h).0

    rest : has_flush_stop xs ≡ false
    rest = (none_first x xs h).1

    taken : respond s x ≡ Ok (x ∷ []) → (b : Bool) → is_eos x ≡ b → (is_eos x ≡ false → More respond (responded s x (Ok (x ∷ []))) xs) → More respond s (x ∷ xs)
    taken e true i m =
        record {
          more = x ∷ [];
          out = ap (λ (z : Fed). z.out) (all_by respond s x xs (Ok (x ∷ [])) none begun e ∙ over_stays respond (responded s x (Ok (x ∷ []))) xs rest i);
          plain = (none, (λ e. refl), tt);
        }
    taken e false i m =
        let n = m i in
        record {
          more = x ∷ n.more;
          out = ap (λ (z : Fed). z.out) (all_by respond s x xs (Ok (x ∷ [])) none begun e) ∙ n.out ∙ append_assoc s.out (x ∷ []) n.more;
          plain = (none, (λ e. absurd (cc)), n.plain);
        }

    go : (respond s x ≡ Ok (x ∷ [])) ⊎ ((fault : Fault) × (respond s x ≡ Err fault)) → (is_eos x ≡ false → More respond (responded s x (Ok (x ∷ []))) xs) → More respond s (x ∷ xs)
    go (inl e) m = taken e (is_eos x) refl m
    go (inr f) m =
        record {
          more = [];
          out = ap (λ (z : Fed). z.out) (all_by respond s x xs (Err f.0) none begun f.1 ∙ over_stays respond (responded s x (Err f.0)) xs rest refl) ∙ sym (append-nil s.out);
          plain = tt;
        }

owed_plain : (respond : Response) → IsPassing respond → (xs : List Item) → has_flush_stop xs ≡ false → IsPlain (owed_for respond (feeds xs))
owed_plain respond passing xs h = let m = more_from respond passing unfed xs h refl in rw m.out m.plain

-- what is owed for an item behind a list, from a state on
abbrev next_from : Response → Fed → List Item → Item → Result (List Item) Fault
next_from respond s front x = if (all_called respond s (feeds front)).over then Ok [] else respond (all_called respond s (feeds front)) x

abbrev NoFaultFrom : Response → Fed → List Item → Type 0
NoFaultFrom respond s list = (front : List Item) (x : Item) (fault : Fault) → IsPrefix (front ++ x ∷ []) list → next_from respond s front x ≢ Err fault

next_begun : (respond : Response) (s : Fed) (x : Item) → s.over ≡ false → next_from respond s [] x ≡ respond s x
next_begun respond s x begun = go s.over begun
  where
    go : (o : Bool) → o ≡ false → (if o then Ok [] else respond s x) ≡ respond s x
    go true e = absurd (cc)
    go false e = refl

next_over : (respond : Response) (s : Fed) (front : List Item) (x : Item) → has_flush_stop front ≡ false → s.over ≡ true → next_from respond s front x ≡ Ok []
next_over respond s front x h over = ap (λ (z : Fed). if z.over then Ok [] else respond z x) (over_stays respond s front h over) ∙ go s.over over
  where
    go : (o : Bool) → o ≡ true → (if o then Ok [] else respond s x) ≡ Ok []
    go true e = refl
    go false e = absurd (cc)

-- without a fault all that counts is owed
all_from : (respond : Response) → IsPassing respond → (s : Fed) (xs : List Item) → has_flush_stop xs ≡ false → s.over ≡ false → NoFaultFrom respond s xs
    → (all_called respond s (feeds xs)).out ≡ s.out ++ counted xs
all_from respond passing s [] h begun no_fault = sym (append-nil s.out)
all_from respond passing s (x ∷ xs) h begun no_fault =
    go (passing s x) (λ i no_fault'. all_from respond passing (responded s x (Ok (x ∷ []))) xs (none_first x xs h).1 i no_fault')
  where
    none : is_flush_stop x ≡ false
    none = (none_first x xs h).0

    rest : has_flush_stop xs ≡ false
    rest = (none_first x xs h).1

    later : respond s x ≡ Ok (x ∷ []) → NoFaultFrom respond (responded s x (Ok (x ∷ []))) xs
    later e = λ front y fault p same.
        no_fault (x ∷ front) y fault (next p) (ap (λ (z : Fed). next_from respond z front y) (fed_by respond s x (Ok (x ∷ [])) none begun e) ∙ same)

    taken : respond s x ≡ Ok (x ∷ []) → (b : Bool) → is_eos x ≡ b
        → (is_eos x ≡ false → (all_called respond (responded s x (Ok (x ∷ []))) (feeds xs)).out ≡ (s.out ++ x ∷ []) ++ counted xs)
        → (all_called respond s (feeds (x ∷ xs))).out ≡ s.out ++ x ∷ counted_after b xs
    taken e true i more =
        ap (λ (z : Fed). z.out) (all_by respond s x xs (Ok (x ∷ [])) none begun e ∙ over_stays respond (responded s x (Ok (x ∷ []))) xs rest i)
        ∙ ap (λ ys. s.out ++ x ∷ ys) (sym (none_counts xs rest))
    taken e false i more = ap (λ (z : Fed). z.out) (all_by respond s x xs (Ok (x ∷ [])) none begun e) ∙ more i ∙ append_assoc s.out (x ∷ []) (counted xs)

    go : (respond s x ≡ Ok (x ∷ [])) ⊎ ((fault : Fault) × (respond s x ≡ Err fault))
        → (is_eos x ≡ false → NoFaultFrom respond (responded s x (Ok (x ∷ []))) xs → (all_called respond (responded s x (Ok (x ∷ []))) (feeds xs)).out ≡ (s.out ++ x ∷ []) ++ counted xs)
        → (all_called respond s (feeds (x ∷ xs))).out ≡ s.out ++ x ∷ counted_after (is_eos x) xs
    go (inl e) more = taken e (is_eos x) refl (λ i. more i (later e))
    go (inr f) more = absurd (no_fault [] x f.0 (next nothing) (next_begun respond s x begun ∙ f.1))

pub passing_ends : (respond : Response) → IsPassing respond → EndsWithEos respond
passing_ends respond passing =
    record {
      plain = owed_plain respond passing;
      eos = λ list h no_fault. ap eos_among (all_from respond passing unfed list h refl no_fault) ∙ counted_eos list;
    }

-- along a row of rules
all_first : (respond : Response) (more : List Response) → All EndsWithEos (respond ∷ more) → EndsWithEos respond
all_first respond more each = each 0 respond (omega arith)

all_behind : (respond : Response) (more : List Response) → All EndsWithEos (respond ∷ more) → All EndsWithEos more
all_behind respond more each = λ k d within. each (suc k) d (omega (arith, within))

row_plain : (rules : List Response) (list : List Item) → All EndsWithEos rules → IsPlain list → IsPlain (owed_along rules list)
row_plain [] list each h = h
row_plain (respond ∷ more) list each h =
    row_plain more (owed_for respond (feeds list)) (all_behind respond more each) ((all_first respond more each).plain list (plain_no_flush list h))

row_eos : (rules : List Response) (list : List Item) → All EndsWithEos rules → IsPlain list → MeetNoFaults rules list → eos_among (owed_along rules list) ≡ eos_among list
row_eos [] list each h met = refl
row_eos (respond ∷ more) list each h met =
    let none = plain_no_flush list h in
    let first = all_first respond more each in
    row_eos more (owed_for respond (feeds list)) (all_behind respond more each) (first.plain list none) met.1 ∙ first.eos list none met.0

pub rows_end_with_eos : (rules : List Response) → All EndsWithEos rules → RowEndsWithEos rules
rows_end_with_eos rules each = record { plain = λ list h. row_plain rules list each h; eos = λ list h met. row_eos rules list each h met }

pub passes_ends : EndsWithEos passes
passes_ends = passing_ends passes passes_is_passing

pub filters_ends : (first : Caps) → EndsWithEos (filters first)
filters_ends first = passing_ends (filters first) (filters_is_passing first)

-- The other way about: where all that counts is owed no fault is met.
prefix_first : {x y : Item} {xs ys : List Item} → IsPrefix (y ∷ ys) (x ∷ xs) → (y ≡ x) × IsPrefix ys xs
prefix_first (next p) = (refl, p)

prefix_none : {y : Item} {ys : List Item} → IsPrefix (y ∷ ys) [] → ⊥
prefix_none p = elim p [ ]

none_before : (front : List Item) (y : Item) (xs : List Item) → IsPrefix (front ++ y ∷ []) xs → has_flush_stop xs ≡ false → has_flush_stop front ≡ false
none_before [] y xs p h = refl
none_before (z ∷ front) y [] p h = absurd (prefix_none p)
none_before (z ∷ front) y (x ∷ xs) p h =
    let q = prefix_first p in let t = none_first x xs h in
    rw (q.0, t.0) (none_before front y xs q.1 t.1)

ok_is_no_fault : (ys : List Item) (fault : Fault) → Ok ys ≢ Err fault
ok_is_no_fault ys fault e = cc

no_fault_from : (respond : Response) → IsPassing respond → (s : Fed) (xs : List Item) → has_flush_stop xs ≡ false → s.over ≡ false
    → (all_called respond s (feeds xs)).out ≡ s.out ++ counted xs → NoFaultFrom respond s xs
no_fault_from respond passing s [] h begun all = λ front y fault p same. none_of front y p
  where
    none_of : (front : List Item) (y : Item) → IsPrefix (front ++ y ∷ []) [] → ⊥
    none_of [] y p = prefix_none p
    none_of (z ∷ front) y p = prefix_none p
no_fault_from respond passing s (x ∷ xs) h begun all =
    go (passing s x) (λ i all'. no_fault_from respond passing (responded s x (Ok (x ∷ []))) xs (none_first x xs h).1 i all')
  where
    none : is_flush_stop x ≡ false
    none = (none_first x xs h).0

    rest : has_flush_stop xs ≡ false
    rest = (none_first x xs h).1

    longer : (ys zs : List Item) → ys ≡ ys ++ x ∷ zs → ⊥
    longer ys zs e = let n = length-append ys (x ∷ zs) in let m = ap (λ (us : List Item). length us) e in omega (arith, n, m)

    at_first : respond s x ≡ Ok (x ∷ []) → (y : Item) (fault : Fault) → y ≡ x → next_from respond s [] y ≢ Err fault
    at_first e y fault is same = ok_is_no_fault (x ∷ []) fault (sym e ∙ ap (respond s) (sym is) ∙ sym (next_begun respond s y begun) ∙ same)

    behind : respond s x ≡ Ok (x ∷ []) → NoFaultFrom respond (responded s x (Ok (x ∷ []))) xs → NoFaultFrom respond s (x ∷ xs)
    behind e later [] y fault p same = at_first e y fault (prefix_first p).0 same
    behind e later (z ∷ front) y fault p same =
        let q = prefix_first p in
        later front y fault q.1
        (sym (ap (λ (u : Fed). next_from respond u front y) (ap (fed_item respond s) q.0 ∙ fed_by respond s x (Ok (x ∷ [])) none begun e)) ∙ same)

    over : (s' : Fed) → s'.over ≡ true → NoFaultFrom respond s' xs
    over s' ended front y fault p same = ok_is_no_fault [] fault (sym (next_over respond s' front y (none_before front y xs p rest) ended) ∙ same)

    taken : respond s x ≡ Ok (x ∷ []) → (b : Bool) → is_eos x ≡ b
        → (is_eos x ≡ false → (all_called respond (responded s x (Ok (x ∷ []))) (feeds xs)).out ≡ (s.out ++ x ∷ []) ++ counted xs → NoFaultFrom respond (responded s x (Ok (x ∷ []))) xs)
        → (all_called respond s (feeds (x ∷ xs))).out ≡ s.out ++ x ∷ counted_after b xs
        → NoFaultFrom respond s (x ∷ xs)
    taken e true i more all = behind e (over (responded s x (Ok (x ∷ []))) i)
    taken e false i more all =
        behind e
        (more i
        (sym (ap (λ (z : Fed). z.out) (all_by respond s x xs (Ok (x ∷ [])) none begun e)) ∙ all ∙ sym (append_assoc s.out (x ∷ []) (counted xs))))

    go : (respond s x ≡ Ok (x ∷ [])) ⊎ ((fault : Fault) × (respond s x ≡ Err fault))
        → (is_eos x ≡ false → (all_called respond (responded s x (Ok (x ∷ []))) (feeds xs)).out ≡ (s.out ++ x ∷ []) ++ counted xs → NoFaultFrom respond (responded s x (Ok (x ∷ []))) xs)
        → NoFaultFrom respond s (x ∷ xs)
    go (inl e) more = taken e (is_eos x) refl more all
    go (inr f) more =
        absurd
        (longer s.out (counted_after (is_eos x) xs)
        (sym (ap (λ (z : Fed). z.out) (all_by respond s x xs (Err f.0) none begun f.1 ∙ over_stays respond (responded s x (Err f.0)) xs rest refl)) ∙ all))

pub passing_meets_no_fault : (respond : Response) → IsPassing respond → (xs : List Item) → has_flush_stop xs ≡ false → owed_for respond (feeds xs) ≡ counted xs → MeetsNoFault respond xs
passing_meets_no_fault respond passing xs h all = no_fault_from respond passing unfed xs h refl all
