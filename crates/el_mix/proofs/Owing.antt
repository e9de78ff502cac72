-- What is owed for beginnings of lists that were fed in order begins what is owed for the lists.
use Rattle.std.proofs.Common.{◌≡◌, ◌⊎◌, ℕ, suc, Bool, true, false, if◌then◌else◌, List, [], ◌∷◌, ◌++◌, Option, Some, None, length, refl, sym, ap, ◌∙◌, subst, inl, inr, append-nil}
use Rattle.gst_value.specs.Description.{Description}
use Rattle.gst_value.specs.declared.one.One.{One}
use Rattle.flow_model.specs.Item.{Item, is_eos}
use Rattle.flow_model.specs.Prefix.{IsPrefix, nothing, next}
use Rattle.flow_model.proofs.Prefixes.{prefix_refl, prefix_trans, prefix_append, prefix_if}
use Rattle.el_mix.specs.Reopened.{reopenings}
use Rattle.el_mix.specs.Mono.{mono_of}
use Rattle.el_mix.specs.Mixed.{has, mixed, limit}
use Rattle.el_mix.specs.Agreed.{or_else, caps_in, pad_caps, lowest_caps, refusal, is_there, agreed, all_agreed}
use Rattle.el_mix.specs.Mixes.{is_start, all_have, id_in, pad_id, least_id, eos_if, started, begun, interleaved}
use Rattle.el_mix.specs.Order.{IsKnown, AnyStarted, InOrder, AllPast}
use Rattle.el_mix.specs.Law.{OwesBeginnings, OwesInOrder}
use Rattle.el_mix.specs.Pieces.{Goes, AllGo, no_pads, one_pad}
use Rattle.el_mix.proofs.Reopening.{has_settled, all_of, reopenings_go, reopenings_settled}
use Rattle.el_mix.proofs.Mixing.{mixed_prefix}

pub all_settled : (test : Item → Bool) {xss yss : List (List Item)} → AllGo xss yss → all_have test xss ≡ true → all_have test yss ≡ true
all_settled test no_pads h = refl
all_settled test (one_pad {xs = xs} {xss = xss} g gs) h =
    let both = all_of test xs xss h in
    rw (has_settled test g.begins both.0) (all_settled test gs both.1)

-- the first id is settled once a pad has started
id_settled : {xs ys : List Item} → IsPrefix xs ys → has is_start xs ≡ true → pad_id xs ≡ pad_id ys
id_settled nothing h = cc
id_settled (next {x = x} {xs = xs} {ys = ys} p) h = go (is_start x) (id_settled p) h
  where
    go : (b : Bool) → (has is_start xs ≡ true → pad_id xs ≡ pad_id ys) → (if b then true else has is_start xs) ≡ true
        → (if b then None else or_else (id_in x) (pad_id xs)) ≡ (if b then None else or_else (id_in x) (pad_id ys))
    go true r h = refl
    go false r h = ap (or_else (id_in x)) (r h)

pub least_id_settled : {xss yss : List (List Item)} → AllGo xss yss → all_have is_start xss ≡ true → least_id xss ≡ least_id yss
least_id_settled no_pads h = refl
least_id_settled (one_pad {xs = xs} {xss = xss} g gs) h =
    let both = all_of is_start xs xss h in
    rw (id_settled g.begins both.0, least_id_settled gs both.1) refl

pub length_same : {xss yss : List (List Item)} → AllGo xss yss → length xss ≡ length yss
length_same no_pads = refl
length_same (one_pad g gs) = ap suc (length_same gs)

ended_same : {xss yss : List (List Item)} → AllGo xss yss → all_have is_eos xss ≡ true → xss ≡ yss
ended_same no_pads h = refl
ended_same (one_pad {xs = xs} {xss = xss} g gs) h =
    let both = all_of is_eos xs xss h in
    rw (g.ends both.0, ended_same gs both.1) refl

-- where all pads ended nothing changes any more, and else the buffers go on
started_prefix : (lowest : Option (Description One)) {xss yss : List (List Item)} → AllGo xss yss → all_have is_start xss ≡ true → IsPrefix (started lowest xss) (started lowest yss)
started_prefix lowest {xss} {yss} g h = go (all_have is_eos xss) refl
  where
    open_so : (o : Option (Description One)) → all_have is_eos xss ≡ false → IsPrefix (started o xss) (started o yss)
    open_so None e = rw e nothing
    open_so (Some caps) e =
        rw (e, least_id_settled g h, length_same g, append-nil)
        (next (next (next (prefix_trans (mixed_prefix (mono_of caps) g) (prefix_append (mixed (mono_of caps) yss 0 0 (limit (mono_of caps) yss)) (eos_if (all_have is_eos yss)))))))

    go : (b : Bool) → all_have is_eos xss ≡ b → IsPrefix (started lowest xss) (started lowest yss)
    go true e = subst (λ zss. IsPrefix (started lowest xss) (started lowest zss)) (ended_same g e) (prefix_refl (started lowest xss))
    go false e = open_so lowest e

-- The CAPS of the lowest pad are settled, or no pad has CAPS and one has not ended.
abbrev pub Settled : Option (Description One) → Option (Description One) → List (List Item) → Type 0
Settled o o' xss = (o ≡ o') ⊎ ((o ≡ None) × (all_have is_eos xss ≡ false))

begun_prefix : {xss yss : List (List Item)} → AllGo xss yss → (all_have is_start xss ≡ true → Settled (lowest_caps xss) (lowest_caps yss) xss) → IsPrefix (begun xss) (begun yss)
begun_prefix {xss} {yss} g s = go (all_have is_start xss) refl
  where
    by : all_have is_start xss ≡ true → (lowest_caps xss ≡ lowest_caps yss) ⊎ ((lowest_caps xss ≡ None) × (all_have is_eos xss ≡ false))
        → IsPrefix (started (lowest_caps xss) xss) (begun yss)
    by e (inl o) = rw (all_settled is_start g e, ← o) (started_prefix (lowest_caps xss) g e)
    by e (inr o) = rw (o.0, o.1) nothing

    go : (b : Bool) → all_have is_start xss ≡ b → IsPrefix (if b then started (lowest_caps xss) xss else []) (begun yss)
    go true e = by e (s e)
    go false e = nothing

-- what is refused, and what stands behind it
agreed_prefix : (lowest : Option (Description One)) (h : List Item) {xs ys : List Item} → IsPrefix xs ys → IsPrefix (agreed lowest h xs) (agreed lowest h ys)
agreed_prefix lowest h nothing = nothing
agreed_prefix lowest h (next {x = x} p) = prefix_if (is_there (refusal 0 lowest h x)) nothing (next (agreed_prefix lowest (h ++ x ∷ []) p))

agreed_below : (lowest : Option (Description One)) (h xs : List Item) → IsPrefix (agreed lowest h xs) xs
agreed_below lowest h [] = nothing
agreed_below lowest h (x ∷ xs) = go (is_there (refusal 0 lowest h x)) (agreed_below lowest (h ++ x ∷ []) xs)
  where
    go : (b : Bool) → IsPrefix (agreed lowest (h ++ x ∷ []) xs) xs → IsPrefix (if b then [] else x ∷ agreed lowest (h ++ x ∷ []) xs) (x ∷ xs)
    go true p = nothing
    go false p = next p

agreed_goes : (lowest : Option (Description One)) {xs ys : List Item} → Goes xs ys → Goes (agreed lowest [] xs) (agreed lowest [] ys)
agreed_goes lowest {xs} g = record {
  begins = agreed_prefix lowest [] g.begins;
  ends = λ e. ap (agreed lowest []) (g.ends (has_settled is_eos (agreed_below lowest [] xs) e));
}

all_agreed_go : (lowest : Option (Description One)) {xss yss : List (List Item)} → AllGo xss yss → AllGo (all_agreed lowest xss) (all_agreed lowest yss)
all_agreed_go lowest no_pads = no_pads
all_agreed_go lowest (one_pad g gs) = one_pad (agreed_goes lowest g) (all_agreed_go lowest gs)

-- a pad that has started without what it refuses has started
agreed_start : (lowest : Option (Description One)) (xss : List (List Item)) → all_have is_start (all_agreed lowest xss) ≡ true → all_have is_start xss ≡ true
agreed_start lowest [] h = refl
agreed_start lowest (xs ∷ xss) h =
    let both = all_of is_start (agreed lowest [] xs) (all_agreed lowest xss) h in
    rw (has_settled is_start (agreed_below lowest [] xs) both.0) (agreed_start lowest xss both.1)

-- the CAPS of the lowest pad
pub caps_known : {xs ys : List Item} {c : Description One} → IsPrefix xs ys → pad_caps xs ≡ Some c → pad_caps ys ≡ Some c
caps_known nothing h = cc
caps_known {c} (next {x = x} {xs = xs} {ys = ys} p) h = go (caps_in x) (caps_known p) h
  where
    go : (o : Option (Description One)) → (pad_caps xs ≡ Some c → pad_caps ys ≡ Some c) → or_else o (pad_caps xs) ≡ Some c → or_else o (pad_caps ys) ≡ Some c
    go None r h = r h
    go (Some d) r h = h

pub any_started : (xs : List Item) (xss : List (List Item)) → all_have is_start (xs ∷ xss) ≡ true → AnyStarted (xs ∷ xss)
any_started xs xss h = inl (all_of is_start xs xss h).0

pub not_there : (o : Option (Description One)) → o ≡ None → is_there o ≡ true → ⊥
not_there None k h = cc
not_there (Some c) k h = cc

-- Below each pad that has started a pad is known, or it does not go on.
abbrev pub Waits : List (List Item) → List (List Item) → Type 0
Waits [] yss = Unit {0}
Waits (xs ∷ xss) [] = Unit {0}
Waits (xs ∷ xss) (ys ∷ yss) = (AnyStarted xss → IsKnown xs ⊎ (xs ≡ ys)) × Waits xss yss

pub lowest_settled : {xss yss : List (List Item)} → AllGo xss yss → all_have is_start xss ≡ true → Waits xss yss → Settled (lowest_caps xss) (lowest_caps yss) xss
lowest_settled no_pads h o = inl refl
lowest_settled (one_pad {xs = xs} {ys = ys} {xss = xss} {yss = yss} g gs) h o =
    go (pad_caps xs) refl (has is_eos xs) refl xss refl (lowest_settled gs (all_of is_start xs xss h).1 o.1)
  where
    go : (k : Option (Description One)) → pad_caps xs ≡ k → (e : Bool) → has is_eos xs ≡ e → (zss : List (List Item)) → xss ≡ zss
        → ((lowest_caps xss ≡ lowest_caps yss) ⊎ ((lowest_caps xss ≡ None) × (all_have is_eos xss ≡ false)))
        → (or_else (pad_caps xs) (lowest_caps xss) ≡ or_else (pad_caps ys) (lowest_caps yss)) ⊎ ((or_else (pad_caps xs) (lowest_caps xss) ≡ None) × ((if has is_eos xs then all_have is_eos xss else false) ≡ false))
    go (Some c) k e is_e zss z r = inl (rw (k, caps_known g.begins k) refl)
    go None k true is_e zss z (inl r) = inl (rw (← g.ends is_e, k) r)
    go None k true is_e zss z (inr r) = inr (rw (k, is_e) r)
    go None k false is_e [] z r = inr (rw (k, z, is_e) (refl, refl))
    go None k false is_e (zs ∷ zss) z r = waits r (o.0 (subst AnyStarted (sym z) (any_started zs zss (subst (λ l. all_have is_start l ≡ true) z (all_of is_start xs xss h).1))))
      where
        waits : ((lowest_caps xss ≡ lowest_caps yss) ⊎ ((lowest_caps xss ≡ None) × (all_have is_eos xss ≡ false))) → IsKnown xs ⊎ (xs ≡ ys)
            → (or_else (pad_caps xs) (lowest_caps xss) ≡ or_else (pad_caps ys) (lowest_caps yss)) ⊎ ((or_else (pad_caps xs) (lowest_caps xss) ≡ None) × ((if has is_eos xs then all_have is_eos xss else false) ≡ false))
        waits r (inl (inl c)) = absurd (not_there (pad_caps xs) k c)
        waits r (inl (inr e)) = absurd (cc (e, is_e))
        waits (inl r) (inr same) = inl (rw (← same, k) r)
        waits (inr r) (inr same) = inr (rw (k, is_e) (r.0, refl))

-- A pad's list counts whole, or what counts of it does not go on.
agreed_whole : (lowest : Option (Description One)) (h : List Item) {xs ys : List Item} → IsPrefix xs ys → (agreed lowest h xs ≡ xs) ⊎ (agreed lowest h xs ≡ agreed lowest h ys)
agreed_whole lowest h nothing = inl refl
agreed_whole lowest h (next {x = x} {xs = xs} {ys = ys} p) = go (is_there (refusal 0 lowest h x)) (agreed_whole lowest (h ++ x ∷ []) p)
  where
    go : (b : Bool) → (agreed lowest (h ++ x ∷ []) xs ≡ xs) ⊎ (agreed lowest (h ++ x ∷ []) xs ≡ agreed lowest (h ++ x ∷ []) ys)
        → ((if b then [] else x ∷ agreed lowest (h ++ x ∷ []) xs) ≡ x ∷ xs)
        ⊎ ((if b then [] else x ∷ agreed lowest (h ++ x ∷ []) xs) ≡ (if b then [] else x ∷ agreed lowest (h ++ x ∷ []) ys))
    go true r = inr refl
    go false (inl e) = inl (ap (λ zs. x ∷ zs) e)
    go false (inr e) = inr (ap (λ zs. x ∷ zs) e)

agreed_any : (lowest : Option (Description One)) (xss : List (List Item)) → AnyStarted (all_agreed lowest xss) → AnyStarted xss
agreed_any lowest [] s = s
agreed_any lowest (xs ∷ xss) (inl s) = inl (has_settled is_start (agreed_below lowest [] xs) s)
agreed_any lowest (xs ∷ xss) (inr s) = inr (agreed_any lowest xss s)

agreed_waits : (lowest : Option (Description One)) {xss yss : List (List Item)} → AllGo xss yss → InOrder xss → Waits (all_agreed lowest xss) (all_agreed lowest yss)
agreed_waits lowest no_pads o = tt
agreed_waits lowest (one_pad {xs = xs} {ys = ys} {xss = xss} {yss = yss} g gs) o =
    (λ s. go (agreed_whole lowest [] g.begins) (o.0 (agreed_any lowest xss s)), agreed_waits lowest gs o.1)
  where
    go : (agreed lowest [] xs ≡ xs) ⊎ (agreed lowest [] xs ≡ agreed lowest [] ys) → IsKnown xs → IsKnown (agreed lowest [] xs) ⊎ (agreed lowest [] xs ≡ agreed lowest [] ys)
    go (inl e) k = inl (subst IsKnown (sym e) k)
    go (inr e) k = inr e

pub in_order_waits : {xss yss : List (List Item)} → AllGo xss yss → InOrder xss → Waits xss yss
in_order_waits no_pads o = tt
in_order_waits (one_pad g gs) o = (λ s. inl (o.0 s), in_order_waits gs o.1)

ended_too : (lowest : Option (Description One)) (zss : List (List Item)) → all_have is_eos (all_agreed lowest zss) ≡ true → all_have is_eos zss ≡ true
ended_too lowest [] h = refl
ended_too lowest (zs ∷ zss) h =
    let both = all_of is_eos (agreed lowest [] zs) (all_agreed lowest zss) h in
    rw (has_settled is_eos (agreed_below lowest [] zs) both.0) (ended_too lowest zss both.1)

-- without CAPS there are none in what counts
no_caps_below : {xs ys : List Item} → IsPrefix xs ys → pad_caps ys ≡ None → pad_caps xs ≡ None
no_caps_below {xs} {ys} p h = go (pad_caps xs) refl
  where
    go : (o : Option (Description One)) → pad_caps xs ≡ o → pad_caps xs ≡ None
    go None e = e
    go (Some c) e = absurd (some_none (caps_known p e))
      where
        some_none : pad_caps ys ≡ Some c → ⊥
        some_none e = cc (e, h)

no_caps_agreed : (lowest : Option (Description One)) (xss : List (List Item)) → lowest_caps xss ≡ None → lowest_caps (all_agreed lowest xss) ≡ None
no_caps_agreed lowest [] h = refl
no_caps_agreed lowest (xs ∷ xss) h = go (pad_caps xs) refl (no_caps_agreed lowest xss) h
  where
    go : (o : Option (Description One)) → pad_caps xs ≡ o → (lowest_caps xss ≡ None → lowest_caps (all_agreed lowest xss) ≡ None)
        → or_else o (lowest_caps xss) ≡ None → or_else (pad_caps (agreed lowest [] xs)) (lowest_caps (all_agreed lowest xss)) ≡ None
    go (Some c) e r n = cc
    go None e r n = rw (no_caps_below (agreed_below lowest [] xs) e) (r n)

not_ended : (lowest : Option (Description One)) (xss : List (List Item)) → all_have is_eos xss ≡ false → all_have is_eos (all_agreed lowest xss) ≡ false
not_ended lowest xss h = go (all_have is_eos (all_agreed lowest xss)) refl
  where
    go : (b : Bool) → all_have is_eos (all_agreed lowest xss) ≡ b → all_have is_eos (all_agreed lowest xss) ≡ false
    go true e = absurd (cc (ended_too lowest xss e, h))
    go false e = e

begun_if_settled : (o o' : Option (Description One)) {xss yss : List (List Item)} → AllGo xss yss → lowest_caps xss ≡ o → Settled o o' xss → InOrder xss
    → IsPrefix (begun (all_agreed o xss)) (begun (all_agreed o' yss))
begun_if_settled o o' {xss} {yss} g is (inl e) order =
    subst (λ z. IsPrefix (begun (all_agreed o xss)) (begun (all_agreed z yss))) e
    (begun_prefix (all_agreed_go o g) (λ h. lowest_settled (all_agreed_go o g) h (agreed_waits o g order)))
begun_if_settled o o' {xss} {yss} g is (inr e) order =
    rw (no_caps_agreed o xss (is ∙ e.0), not_ended o xss e.1) (closed (all_have is_start (all_agreed o xss)))
  where
    closed : (b : Bool) → IsPrefix (if b then [] else []) (begun (all_agreed o' yss))
    closed true = nothing
    closed false = nothing

interleaved_prefix : {xss yss : List (List Item)} → AllGo xss yss → all_have is_start xss ≡ true → InOrder xss → IsPrefix (interleaved xss) (interleaved yss)
interleaved_prefix no_pads h o = nothing
interleaved_prefix (one_pad {xs = xs} {ys = ys} {xss = xss} {yss = yss} g gs) h o =
    begun_if_settled (lowest_caps (xs ∷ xss)) (lowest_caps (ys ∷ yss)) (one_pad g gs) refl (lowest_settled (one_pad g gs) h (in_order_waits (one_pad g gs) o)) o

-- before all pads have started nothing is owed
pub not_started : (xss : List (List Item)) → all_have is_start xss ≡ false → interleaved xss ≡ []
not_started [] h = refl
not_started (xs ∷ xss) h = go (all_have is_start (all_agreed (lowest_caps (xs ∷ xss)) (xs ∷ xss))) refl
  where
    go : (b : Bool) → all_have is_start (all_agreed (lowest_caps (xs ∷ xss)) (xs ∷ xss)) ≡ b → begun (all_agreed (lowest_caps (xs ∷ xss)) (xs ∷ xss)) ≡ []
    go true e = absurd (cc (agreed_start (lowest_caps (xs ∷ xss)) (xs ∷ xss) e, h))
    go false e = rw e refl

pub owes_beginnings : OwesBeginnings
owes_beginnings inputs whole p order port j = go (all_have is_start (reopenings j inputs)) refl (order j)
  where
    go : (b : Bool) → all_have is_start (reopenings j inputs) ≡ b → ((reopenings j inputs ≡ reopenings j whole) ⊎ InOrder (reopenings j inputs))
        → IsPrefix (interleaved (reopenings j inputs)) (interleaved (reopenings j whole))
    go b h (inl e) = subst (λ zss. IsPrefix (interleaved (reopenings j inputs)) (interleaved zss)) e (prefix_refl (interleaved (reopenings j inputs)))
    go true h (inr o) = interleaved_prefix (reopenings_go j p h) h o
    go false h (inr o) = rw (not_started (reopenings j inputs) h) nothing

pub owes_in_order : OwesInOrder
owes_in_order inputs fed whole p = owes_beginnings inputs whole p (λ j. go j (fed j))
  where
    go : (j : ℕ) → AllPast j inputs ⊎ InOrder (reopenings j inputs) → (reopenings j inputs ≡ reopenings j whole) ⊎ InOrder (reopenings j inputs)
    go j (inl past) = inl (reopenings_settled j p past)
    go j (inr o) = inr o
