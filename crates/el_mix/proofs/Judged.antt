-- What refuses an item, by what a channel knows.
use Rattle.std.proofs.Common.{◌≡◌, ◌<◌, ℕ, zero, suc, Bool, true, false, if◌then◌else◌, List, [], ◌∷◌, ◌++◌, Option, Some, None, length, map, refl, sym, ap, ◌∙◌, subst, append-nil, append_assoc, arith}
use Rattle.std.specs.Prelude.{slice_get}
use Rattle.std.proofs.lemmas.Option.{same_Some as some_is}
use Rattle.gst_caps.specs.Accepts.{accepts}
use Rattle.gst_value.specs.Description.{Description}
use Rattle.gst_value.specs.declared.one.One.{One}
use Rattle.gst_caps.specs.Same.{same_caps}
use Rattle.gst_caps.proofs.Same.{caps_decide}
use Rattle.flow_model.specs.Item.{Item, Buf, Ev, StreamStart, NewCaps, NewSegment, Tag, Gap, FlushStop, Eos}
use Rattle.flow_model.specs.Looking.{bytes_of}
use Rattle.el_mix.specs.declared.channel.Channel.{Channel}
use Rattle.el_mix.specs.Mono.{mono_template}
use Rattle.el_mix.specs.Agreed.{or_else, caps_in, pad_caps, lowest_caps, caps_refusal, buffer_refusal, refusal, is_there, agreed, all_agreed, first_refusal}
use Rattle.el_mix.specs.Judging.{lowest_to, inherited_refusal, own_refusal, verdict}
use Rattle.el_mix.specs.Taking.{hears}
use Rattle.el_mix.specs.Standing.{Counts, CountEach, AgreeEach}
use Rattle.el_mix.proofs.Growing.{or_none, or_or, caps_push}
use Rattle.el_mix.proofs.Refusing.{push_item, item_at, refusal_there, agreed_plain}

pub neither : {A : Type 0} (o p : Option A) → or_else o p ≡ None → (o ≡ None) × (p ≡ None)
neither None p e = (refl, e)
neither (Some x) p e = absurd (cc)

pub no_there : {A : Type 0} (o : Option A) → is_there o ≡ false → o ≡ None
no_there None e = refl
no_there (Some x) e = absurd (cc)

-- one more item behind others
first_push : (r : ℕ) (lowest : Option (Description One)) (h xs : List Item) (x : Item)
    → first_refusal r lowest h (xs ++ x ∷ []) ≡ or_else (first_refusal r lowest h xs) (refusal r lowest (h ++ xs) x)
first_push r lowest h [] x = or_none (refusal r lowest h x) ∙ ap (λ g. refusal r lowest g x) (sym (append-nil h))
first_push r lowest h (y ∷ ys) x =
    ap (or_else (refusal r lowest h y)) (first_push r lowest (h ++ y ∷ []) ys x)
    ∙ ap (λ g. or_else (refusal r lowest h y) (or_else (first_refusal r lowest (h ++ y ∷ []) ys) (refusal r lowest g x))) (append_assoc h (y ∷ []) ys)
    ∙ or_or (refusal r lowest h y) (first_refusal r lowest (h ++ y ∷ []) ys) (refusal r lowest (h ++ y ∷ ys) x)

-- whether something is refused does not hang on the time
none_time : (r : ℕ) (lowest : Option (Description One)) (h xs : List Item) → first_refusal 0 lowest h xs ≡ None → first_refusal r lowest h xs ≡ None
none_time r lowest h [] e = refl
none_time r lowest h (y ∷ ys) e =
    let both = neither (refusal 0 lowest h y) (first_refusal 0 lowest (h ++ y ∷ []) ys) e in
    let here : refusal r lowest h y ≡ None = no_there (refusal r lowest h y) (refusal_there r lowest h y ∙ ap is_there both.0) in
    rw here (none_time r lowest (h ++ y ∷ []) ys both.1)

pub none_start : (r : ℕ) (lowest : Option (Description One)) (h xs : List Item) → first_refusal r lowest h xs ≡ None → first_refusal 0 lowest h xs ≡ None
none_start r lowest h [] e = refl
none_start r lowest h (y ∷ ys) e =
    let both = neither (refusal r lowest h y) (first_refusal r lowest (h ++ y ∷ []) ys) e in
    let here : refusal 0 lowest h y ≡ None = no_there (refusal 0 lowest h y) (sym (refusal_there r lowest h y) ∙ ap is_there both.0) in
    rw here (none_start r lowest (h ++ y ∷ []) ys both.1)

-- CAPS alone are judged by the lowest
plain_at : (r : ℕ) (o p : Option (Description One)) (h : List Item) (x : Item) → caps_in x ≡ None → refusal r o h x ≡ refusal r p h x
plain_at r o p h (Buf b) e = refl
plain_at r o p h (Ev (StreamStart id)) e = refl
plain_at r o p h (Ev (NewCaps caps)) e = absurd (cc)
plain_at r o p h (Ev (NewSegment s)) e = refl
plain_at r o p h (Ev (Tag title)) e = refl
plain_at r o p h (Ev (Gap pts duration)) e = refl
plain_at r o p h (Ev (FlushStop number)) e = refl
plain_at r o p h (Ev Eos) e = refl

plain_first : (r : ℕ) (o p : Option (Description One)) (h xs : List Item) → pad_caps xs ≡ None → first_refusal r o h xs ≡ first_refusal r p h xs
plain_first r o p h [] e = refl
plain_first r o p h (y ∷ ys) e =
    let both = neither (caps_in y) (pad_caps ys) e in
    rw (plain_at r o p h y both.0, plain_first r o p (h ++ y ∷ []) ys both.1) refl

-- what is not refused counts
agreed_first : (lowest : Option (Description One)) (h xs : List Item) → first_refusal 0 lowest h xs ≡ None → agreed lowest h xs ≡ xs
agreed_first lowest h [] e = refl
agreed_first lowest h (y ∷ ys) e =
    let both = neither (refusal 0 lowest h y) (first_refusal 0 lowest (h ++ y ∷ []) ys) e in
    rw both.0 (ap (λ zs. y ∷ zs) (agreed_first lowest (h ++ y ∷ []) ys both.1))

-- CAPS by themselves
pub same_self : (x : Description One) → same_caps x x ≡ true
same_self x = (caps_decide x x).1 refl

-- CAPS that are not refused are the lowest, and within the template
pub caps_agree : (lowest caps : Description One) → caps_refusal (Some lowest) caps ≡ None → (lowest ≡ caps) × (accepts mono_template caps ≡ true)
caps_agree lowest caps e = go (same_caps lowest caps) refl (accepts mono_template caps) refl e
  where
    go : (b : Bool) → same_caps lowest caps ≡ b → (c : Bool) → accepts mono_template caps ≡ c → caps_refusal (Some lowest) caps ≡ None → (lowest ≡ caps) × (accepts mono_template caps ≡ true)
    go true s true a e = ((caps_decide lowest caps).0 s, a)
    go true s false a e = let e' = rw (s, a) at e in absurd (cc)
    go false s c a e = let e' = rw s at e in absurd (cc)

pub first_agrees : (r : ℕ) (lowest caps : Description One) (h xs : List Item) → first_refusal r (Some lowest) h xs ≡ None → pad_caps xs ≡ Some caps
    → (lowest ≡ caps) × (accepts mono_template caps ≡ true)
first_agrees r lowest caps h [] e is = absurd (cc)
first_agrees r lowest caps h (y ∷ ys) e is =
    go y (neither (refusal r (Some lowest) h y) (first_refusal r (Some lowest) (h ++ y ∷ []) ys) e) is (λ e is. first_agrees r lowest caps (h ++ y ∷ []) ys e is)
  where
    go : (z : Item) → (refusal r (Some lowest) h z ≡ None) × (first_refusal r (Some lowest) (h ++ y ∷ []) ys ≡ None) → or_else (caps_in z) (pad_caps ys) ≡ Some caps
        → (first_refusal r (Some lowest) (h ++ y ∷ []) ys ≡ None → pad_caps ys ≡ Some caps → (lowest ≡ caps) × (accepts mono_template caps ≡ true))
        → (lowest ≡ caps) × (accepts mono_template caps ≡ true)
    go (Buf b) both is later = later both.1 is
    go (Ev (StreamStart id)) both is later = later both.1 is
    go (Ev (NewCaps found)) both is later = subst (λ d. (lowest ≡ d) × (accepts mono_template d ≡ true)) (some_is found caps is) (caps_agree lowest found both.0)
    go (Ev (NewSegment s)) both is later = later both.1 is
    go (Ev (Tag title)) both is later = later both.1 is
    go (Ev (Gap pts duration)) both is later = later both.1 is
    go (Ev (FlushStop number)) both is later = later both.1 is
    go (Ev Eos) both is later = later both.1 is

-- the lowest CAPS with one item more: those before, and else those of the item
pub record Follows (all lowest : Option (Description One)) (x : Item) : Type 0 where
  pub stays : (l : Description One) → lowest ≡ Some l → all ≡ Some l
  pub comes : (c : Description One) → lowest ≡ None → caps_in x ≡ Some c → all ≡ Some c

-- so what is refused with the item is what the channel knows of
pub verdict_is : (r : ℕ) (all lowest : Option (Description One)) (c : Channel) (xs : List Item) (x : Item) → Counts c xs
    → (c.progress.begun ≡ true → first_refusal 0 lowest [] xs ≡ None) → (lowest ≡ None → hears c ≡ None) → Follows all lowest x
    → first_refusal r all [] (xs ++ x ∷ []) ≡ verdict r lowest c x
verdict_is r all lowest c xs x k agrees own f =
    first_push r all [] xs x
    ∙ ap (λ o. or_else o (refusal r all xs x)) (before lowest refl c.progress.begun refl)
    ∙ ap (or_else (if c.progress.begun then None else inherited_refusal lowest (hears c))) (this x f lowest refl)
  where
    before : (low : Option (Description One)) → lowest ≡ low → (b : Bool) → c.progress.begun ≡ b → first_refusal r all [] xs ≡ (if c.progress.begun then None else inherited_refusal lowest (hears c))
    before (Some l) is true b =
        rw b (ap (λ o. first_refusal r o [] xs) (f.stays l is) ∙ ap (λ o. first_refusal r o [] xs) (sym is) ∙ none_time r lowest [] xs (agrees b))
    before (Some l) is false b =
        rw b (ap (λ o. first_refusal r o [] xs) (f.stays l is ∙ sym is) ∙ (k.fresh b).judged r lowest ∙ ap (inherited_refusal lowest) (sym k.caps))
    before None is true b = rw b (plain_first r all lowest [] xs (sym k.caps ∙ own is) ∙ none_time r lowest [] xs (agrees b))
    before None is false b =
        let isnt : pad_caps xs ≡ None = sym k.caps ∙ own is in
        rw b ((k.fresh b).judged r all ∙ ap (inherited_refusal all) isnt ∙ sym (ap (inherited_refusal lowest) (own is)))

    this : (y : Item) → Follows all lowest y → (low : Option (Description One)) → lowest ≡ low → refusal r all xs y ≡ own_refusal r lowest (hears c) c.progress.got y
    this (Buf b) g low is = ap (λ o. buffer_refusal r o (length (bytes_of xs)) (length b.body)) (sym k.caps) ∙ ap (λ n. buffer_refusal r (hears c) n (length b.body)) (sym k.got)
    this (Ev (StreamStart id)) g low is = refl
    this (Ev (NewCaps caps)) g (Some l) is = ap (λ o. caps_refusal o caps) (g.stays l is ∙ sym is)
    this (Ev (NewCaps caps)) g None is =
        let same : same_caps caps caps ≡ true = same_self caps in
        let first : caps_refusal (Some caps) caps ≡ caps_refusal None caps = rw same refl in
        ap (λ o. caps_refusal o caps) (g.comes caps is refl) ∙ first ∙ ap (λ o. caps_refusal o caps) (sym is)
    this (Ev (NewSegment s)) g low is = refl
    this (Ev (Tag title)) g low is = refl
    this (Ev (Gap pts duration)) g low is = refl
    this (Ev (FlushStop number)) g low is = refl
    this (Ev Eos) g low is = refl

-- the lowest CAPS up to a pad
heard_each : (cs : List Channel) (xss : List (List Item)) → CountEach cs xss → map hears cs ≡ map pad_caps xss
heard_each [] [] k = refl
heard_each [] (xs ∷ xss) k = absurd k
heard_each (c ∷ cs) [] k = absurd k
heard_each (c ∷ cs) (xs ∷ xss) k = rw (k.0.caps, heard_each cs xss k.1) refl

lowest_stays : (i : ℕ) (x : Item) (xss : List (List Item)) (l : Description One) → lowest_to i (map pad_caps xss) ≡ Some l → lowest_caps (push_item i x xss) ≡ Some l
lowest_stays i x [] l e = absurd (cc)
lowest_stays zero x (xs ∷ xss) l e = ap (λ o. or_else o (lowest_caps xss)) (caps_push xs x ∙ ap (λ o. or_else o (caps_in x)) e)
lowest_stays (suc i) x (xs ∷ xss) l e = go (pad_caps xs) e (λ e. lowest_stays i x xss l e)
  where
    go : (o : Option (Description One)) → or_else o (lowest_to i (map pad_caps xss)) ≡ Some l
        → (lowest_to i (map pad_caps xss) ≡ Some l → lowest_caps (push_item i x xss) ≡ Some l) → or_else o (lowest_caps (push_item i x xss)) ≡ Some l
    go None e later = later e
    go (Some c) e later = e

lowest_comes : (i : ℕ) (x : Item) (xss : List (List Item)) (c : Description One) → i < length xss → lowest_to i (map pad_caps xss) ≡ None → caps_in x ≡ Some c
    → lowest_caps (push_item i x xss) ≡ Some c
lowest_comes i x [] c lt e is = absurd (omega (arith, lt))
lowest_comes zero x (xs ∷ xss) c lt e is = ap (λ o. or_else o (lowest_caps xss)) (caps_push xs x ∙ ap (λ o. or_else o (caps_in x)) e ∙ is)
lowest_comes (suc i) x (xs ∷ xss) c lt e is =
    let both = neither (pad_caps xs) (lowest_to i (map pad_caps xss)) e in
    rw both.0 (lowest_comes i x xss c (omega (arith, lt)) both.1 is)

pub follows_push : (i : ℕ) (x : Item) (cs : List Channel) (xss : List (List Item)) → CountEach cs xss → i < length xss
    → Follows (lowest_caps (push_item i x xss)) (lowest_to i (map hears cs)) x
follows_push i x cs xss k lt =
    let same = heard_each cs xss k in
    record {
      stays = λ l e. lowest_stays i x xss l (ap (lowest_to i) (sym same) ∙ e);
      comes = λ c e is. lowest_comes i x xss c lt (ap (lowest_to i) (sym same) ∙ e) is;
    }

-- What is known of the channel of a place.
pub agreed_at : (low : Option (Description One)) (i : ℕ) (cs : List Channel) (xss : List (List Item)) (c : Channel) → slice_get cs i ≡ Some c → CountEach cs xss → AgreeEach low cs xss
    → Counts c (item_at i xss) × (c.progress.begun ≡ true → first_refusal 0 (or_else low (lowest_to i (map hears cs))) [] (item_at i xss) ≡ None)
agreed_at low i [] [] c at k a = absurd (cc)
agreed_at low i [] (xs ∷ xss) c at k a = absurd k
agreed_at low i (d ∷ cs) [] c at k a = absurd k
agreed_at low zero (d ∷ cs) (xs ∷ xss) c at k a =
    let same : d ≡ c = some_is d c at in (
      subst (λ e. Counts e xs) same k.0,
      λ b. subst (λ (o : Option (Description One)). first_refusal 0 (or_else low o) [] xs ≡ None) (sym k.0.caps) (a.0 (subst (λ (e : Channel). e.progress.begun ≡ true) (sym same) b)),
    )
agreed_at low (suc i) (d ∷ cs) (xs ∷ xss) c at k a =
    let rest = agreed_at (or_else low (pad_caps xs)) i cs xss c at k.1 a.1 in
    (rest.0, λ b. ap (λ o. first_refusal 0 o [] (item_at i xss)) (ap (λ o. or_else low (or_else o (lowest_to i (map hears cs)))) k.0.caps ∙ or_or low (pad_caps xs) (lowest_to i (map hears cs))) ∙ rest.1 b)

pub own_below : (i : ℕ) (cs : List Channel) (c : Channel) → slice_get cs i ≡ Some c → lowest_to i (map hears cs) ≡ None → hears c ≡ None
own_below i [] c at e = absurd (cc)
own_below zero (d ∷ cs) c at e = ap hears (sym (some_is d c at)) ∙ e
own_below (suc i) (d ∷ cs) c at e = own_below i cs c at (neither (hears d) (lowest_to i (map hears cs)) e).1

-- Where all have begun, all counts.
abbrev pub AllBegun : List Channel → Type 0
AllBegun [] = Unit {0}
AllBegun (c ∷ cs) = (c.progress.begun ≡ true) × AllBegun cs

pub all_agree : (low : Option (Description One)) (cs : List Channel) (xss : List (List Item)) → AgreeEach low cs xss → AllBegun cs → all_agreed (or_else low (lowest_caps xss)) xss ≡ xss
all_agree low [] [] a b = refl
all_agree low [] (xs ∷ xss) a b = absurd a
all_agree low (c ∷ cs) [] a b = absurd a
all_agree low (c ∷ cs) (xs ∷ xss) a b =
    ap (λ zs. zs ∷ all_agreed (or_else low (or_else (pad_caps xs) (lowest_caps xss))) xss) (here low (pad_caps xs) refl (a.0 b.0))
    ∙ ap (λ o. xs ∷ all_agreed o xss) (or_or low (pad_caps xs) (lowest_caps xss))
    ∙ ap (λ zss. xs ∷ zss) (all_agree (or_else low (pad_caps xs)) cs xss a.1 b.1)
  where
    here : (o p : Option (Description One)) → pad_caps xs ≡ p → first_refusal 0 (or_else o (pad_caps xs)) [] xs ≡ None → agreed (or_else o (or_else (pad_caps xs) (lowest_caps xss))) [] xs ≡ xs
    here (Some l) p is e = agreed_first (Some l) [] xs e
    here None (Some l) is e = rw is (agreed_first (Some l) [] xs (rw is at e))
    here None None is e = agreed_plain (or_else (pad_caps xs) (lowest_caps xss)) (pad_caps xs) [] xs is ∙ agreed_first (pad_caps xs) [] xs e

-- The CAPS of a channel that has begun are the lowest, and within the template.
pub record Agreeing (c : Channel) (lowest : Option (Description One)) : Type 0 where
  pub same : (caps : Description One) → hears c ≡ Some caps → lowest ≡ Some caps
  pub heard : (caps : Description One) → hears c ≡ Some caps → accepts mono_template caps ≡ true

pub agreeing : (low : Option (Description One)) (c : Channel) (xs : List Item) → Counts c xs → first_refusal 0 (or_else low (pad_caps xs)) [] xs ≡ None
    → Agreeing c (or_else low (pad_caps xs))
agreeing low c xs k e = record { same = λ caps is. (both caps is (or_else low (pad_caps xs)) refl).0; heard = λ caps is. (both caps is (or_else low (pad_caps xs)) refl).1 }
  where
    there : (o p : Option (Description One)) (caps : Description One) → p ≡ Some caps → or_else o p ≡ None → ⊥
    there None p caps is e = absurd (cc)
    there (Some l) p caps is e = absurd (cc)

    both : (caps : Description One) → hears c ≡ Some caps → (o : Option (Description One)) → or_else low (pad_caps xs) ≡ o
        → (or_else low (pad_caps xs) ≡ Some caps) × (accepts mono_template caps ≡ true)
    both caps is None o = absurd (there low (pad_caps xs) caps (sym k.caps ∙ is) o)
    both caps is (Some l) o =
        let a = first_agrees 0 l caps [] xs (ap (λ z. first_refusal 0 z [] xs) (sym o) ∙ e) (sym k.caps ∙ is) in
        (o ∙ ap (λ d. Some d) a.0, a.1)
