-- The channels of all pads, with one item more on one of them.
use Rattle.std.proofs.Common.{◌≡◌, ◌<◌, ℕ, zero, suc, ◌+◌, ◌^◌, Bool, true, false, if◌then◌else◌, List, [], ◌∷◌, ◌++◌, Option, Some, None, length, map, set, refl, sym, ap, ◌∙◌, subst, inl, inr}
use Rattle.std.specs.Prelude.{slice_get}
use Rattle.std.proofs.lemmas.Option.{same_Some as some_is}
use Rattle.gst_value.specs.Description.{Description}
use Rattle.gst_value.specs.declared.one.One.{One}
use Rattle.flow_model.specs.Item.{Item, is_eos, body_of}
use Rattle.flow_model.specs.Looking.{bytes_of}
use Rattle.flow_model.proofs.Prefixes.{prefix_append, prefix_refl}
use Rattle.el_mix.specs.declared.channel.Channel.{Channel}
use Rattle.el_mix.specs.Mixed.{has}
use Rattle.el_mix.specs.Agreed.{or_else, caps_in, pad_caps, is_there, first_refusal}
use Rattle.el_mix.specs.Mixes.{is_start, all_have}
use Rattle.el_mix.specs.Pieces.{AllGo, no_pads, one_pad}
use Rattle.el_mix.specs.Taking.{hears, settled, Took}
use Rattle.el_mix.specs.Judging.{lowest_to}
use Rattle.el_mix.specs.Standing.{Counts, CountEach, AgreeEach, known, lower_known, AnyBegun, BegunInOrder, Waits, WaitEach, Each}
use Rattle.el_mix.proofs.Growing.{caps_push, or_or}
use Rattle.el_mix.proofs.Refusing.{push_item, item_at}
use Rattle.el_mix.proofs.Judged.{Follows, AllBegun, neither}
use Rattle.el_mix.proofs.Coming.{took_counts, took_settled}

differ : true ≡ false → ⊥
differ e = absurd (cc)

pub push_goes : (i : ℕ) (x : Item) (xss : List (List Item)) → has is_eos (item_at i xss) ≡ false → AllGo xss (push_item i x xss)
push_goes i x [] e = no_pads
push_goes zero x (xs ∷ xss) e = one_pad (record { begins = prefix_append xs (x ∷ []); ends = λ s. absurd (differ (sym s ∙ e)) }) (all_stay xss)
  where
    all_stay : (yss : List (List Item)) → AllGo yss yss
    all_stay [] = no_pads
    all_stay (ys ∷ yss) = one_pad (record { begins = prefix_refl ys; ends = λ s. refl }) (all_stay yss)
push_goes (suc i) x (xs ∷ xss) e = one_pad (record { begins = prefix_refl xs; ends = λ s. refl }) (push_goes i x xss e)

-- what each counts
pub push_counts : (i : ℕ) (x : Item) (cs : List Channel) (xss : List (List Item)) (c d : Channel) → slice_get cs i ≡ Some c
    → (Counts c (item_at i xss) → Counts d (item_at i xss ++ x ∷ [])) → CountEach cs xss → CountEach (set cs i d) (push_item i x xss)
push_counts i x [] xss c d at more k = absurd (cc)
push_counts i x (b ∷ cs) [] c d at more k = absurd k
push_counts zero x (b ∷ cs) (xs ∷ xss) c d at more k = (more (subst (λ e. Counts e xs) (some_is b c at) k.0), k.1)
push_counts (suc i) x (b ∷ cs) (xs ∷ xss) c d at more k = (k.0, push_counts i x cs xss c d at more k.1)

pub push_waits : (next i : ℕ) (x : Item) (cs : List Channel) (xss : List (List Item)) (c d : Channel) → slice_get cs i ≡ Some c
    → (Waits next c (item_at i xss) → Waits next d (item_at i xss ++ x ∷ [])) → WaitEach next cs xss → WaitEach next (set cs i d) (push_item i x xss)
push_waits next i x [] xss c d at more k = absurd (cc)
push_waits next i x (b ∷ cs) [] c d at more k = absurd k
push_waits next zero x (b ∷ cs) (xs ∷ xss) c d at more k = (more (subst (λ e. Waits next e xs) (some_is b c at) k.0), k.1)
push_waits next (suc i) x (b ∷ cs) (xs ∷ xss) c d at more k = (k.0, push_waits next i x cs xss c d at more k.1)

pub wait_at : (next i : ℕ) (cs : List Channel) (xss : List (List Item)) (c : Channel) → slice_get cs i ≡ Some c → WaitEach next cs xss → Waits next c (item_at i xss)
wait_at next i [] xss c at k = absurd (cc)
wait_at next i (b ∷ cs) [] c at k = absurd k
wait_at next zero (b ∷ cs) (xs ∷ xss) c at k = subst (λ e. Waits next e xs) (some_is b c at) k.0
wait_at next (suc i) (b ∷ cs) (xs ∷ xss) c at k = wait_at next i cs xss c at k.1

pub count_at : (i : ℕ) (cs : List Channel) (xss : List (List Item)) (c : Channel) → slice_get cs i ≡ Some c → CountEach cs xss → Counts c (item_at i xss)
count_at i [] xss c at k = absurd (cc)
count_at i (b ∷ cs) [] c at k = absurd k
count_at zero (b ∷ cs) (xs ∷ xss) c at k = subst (λ e. Counts e xs) (some_is b c at) k.0
count_at (suc i) (b ∷ cs) (xs ∷ xss) c at k = count_at i cs xss c at k.1

-- where none has begun, nothing is judged
none_agree : (low other : Option (Description One)) (cs : List Channel) (xss : List (List Item)) → (AnyBegun cs → ⊥) → AgreeEach low cs xss → AgreeEach other cs xss
none_agree low other [] [] isnt a = tt
none_agree low other [] (xs ∷ xss) isnt a = absurd a
none_agree low other (c ∷ cs) [] isnt a = absurd a
none_agree low other (c ∷ cs) (xs ∷ xss) isnt a =
    (λ b. absurd (isnt (inl b)), none_agree (or_else low (pad_caps xs)) (or_else other (pad_caps xs)) cs xss (λ b. isnt (inr b)) a.1)

unknown : (c : Channel) → c.progress.ended ≡ false → hears c ≡ None → known c ≡ true → ⊥
unknown c unended none e = differ (sym e ∙ ap (λ b. if b then true else is_there (hears c)) unended ∙ ap is_there none)

pub push_agrees : (low : Option (Description One)) (i : ℕ) (x : Item) (cs : List Channel) (xss : List (List Item)) (c d : Channel) → slice_get cs i ≡ Some c
    → c.progress.ended ≡ false → CountEach cs xss → BegunInOrder cs
    → ((all : Option (Description One)) → Follows all (or_else low (lowest_to i (map hears cs))) x → first_refusal 0 all [] (item_at i xss ++ x ∷ []) ≡ None)
    → AgreeEach low cs xss → AgreeEach low (set cs i d) (push_item i x xss)
push_agrees low i x [] xss c d at unended k order new a = absurd (cc)
push_agrees low i x (b ∷ cs) [] c d at unended k order new a = absurd k
push_agrees low zero x (b ∷ cs) (xs ∷ xss) c d at unended k order new a = (λ begun. new (or_else low (pad_caps (xs ++ x ∷ []))) follows, rest (or_else low (pad_caps xs)) refl)
  where
    pushed : or_else low (pad_caps (xs ++ x ∷ [])) ≡ or_else (or_else low (pad_caps xs)) (caps_in x)
    pushed = ap (or_else low) (caps_push xs x) ∙ or_or low (pad_caps xs) (caps_in x)

    below : or_else low (hears b) ≡ or_else low (pad_caps xs)
    below = ap (or_else low) k.0.caps

    follows : Follows (or_else low (pad_caps (xs ++ x ∷ []))) (or_else low (hears b)) x
    follows = record {
      stays = λ l e. pushed ∙ ap (λ o. or_else o (caps_in x)) (sym below ∙ e);
      comes = λ f e is. pushed ∙ ap (λ o. or_else o (caps_in x)) (sym below ∙ e) ∙ is;
    }

    rest : (o : Option (Description One)) → or_else low (pad_caps xs) ≡ o → AgreeEach (or_else low (pad_caps (xs ++ x ∷ []))) cs xss
    rest (Some l) e = subst (λ o. AgreeEach o cs xss) (e ∙ sym (pushed ∙ ap (λ o. or_else o (caps_in x)) e)) a.1
    rest None e =
        let own = neither low (pad_caps xs) e in
        let isnt : AnyBegun cs → ⊥ = λ begun. unknown c unended (ap hears (sym (some_is b c at)) ∙ k.0.caps ∙ own.1) (subst (λ f. known f ≡ true) (some_is b c at) (order.0 begun)) in
        none_agree (or_else low (pad_caps xs)) (or_else low (pad_caps (xs ++ x ∷ []))) cs xss isnt a.1
push_agrees low (suc i) x (b ∷ cs) (xs ∷ xss) c d at unended k order new a =
    (a.0, push_agrees (or_else low (pad_caps xs)) i x cs xss c d at unended k.1 order.1 (λ all f. new all (moved all f)) a.1)
  where
    same : or_else (or_else low (pad_caps xs)) (lowest_to i (map hears cs)) ≡ or_else low (or_else (hears b) (lowest_to i (map hears cs)))
    same = sym (or_or low (pad_caps xs) (lowest_to i (map hears cs))) ∙ ap (λ o. or_else low (or_else o (lowest_to i (map hears cs)))) (sym k.0.caps)

    moved : (all : Option (Description One)) → Follows all (or_else (or_else low (pad_caps xs)) (lowest_to i (map hears cs))) x
        → Follows all (or_else low (or_else (hears b) (lowest_to i (map hears cs)))) x
    moved all f = subst (λ o. Follows all o x) same f

-- the order in which they began
known_stays : (c d : Channel) (x : Item) → c.progress.ended ≡ false → Took c x d → known c ≡ true → known d ≡ true
known_stays c d x unended t e = go d.progress.ended (hears c) refl
  where
    there : (o p : Option (Description One)) → is_there o ≡ true → is_there (or_else o p) ≡ true
    there None p h = absurd (cc)
    there (Some l) p h = refl

    go : (b : Bool) (o : Option (Description One)) → hears c ≡ o → (if b then true else is_there (hears d)) ≡ true
    go true o is = refl
    go false (Some l) is = ap is_there t.caps ∙ there (hears c) (caps_in x) (ap is_there is)
    go false None is = absurd (unknown c unended is e)

set_begun : (i : ℕ) (cs : List Channel) (c d : Channel) → slice_get cs i ≡ Some c → lower_known i cs ≡ true → (known c ≡ true → known d ≡ true) → BegunInOrder cs
    → BegunInOrder (set cs i d)
set_begun i [] c d at low stays o = absurd (cc)
set_begun zero (b ∷ cs) c d at low stays o = (λ begun. stays (subst (λ e. known e ≡ true) (some_is b c at) (o.0 begun)), o.1)
set_begun (suc i) (b ∷ cs) c d at low stays o = go (known b) refl low (λ l. set_begun i cs c d at l stays o.1)
  where
    go : (e : Bool) → known b ≡ e → (if e then lower_known i cs else false) ≡ true → (lower_known i cs ≡ true → BegunInOrder (set cs i d)) → BegunInOrder (b ∷ set cs i d)
    go true is l later = (λ begun. is, later l)
    go false is l later = absurd (differ (sym l))

settled_at : (i : ℕ) (cs : List Channel) (c : Channel) → slice_get cs i ≡ Some c → map settled cs ≡ cs → settled c ≡ c
settled_at i [] c at e = absurd (cc)
settled_at zero (b ∷ cs) c at e = subst (λ z. settled z ≡ z) (some_is b c at) (head (settled b) b (map settled cs) cs e)
  where
    head : (a b : Channel) (ps qs : List Channel) → a ∷ ps ≡ b ∷ qs → a ≡ b
    head a b ps qs e = cc
settled_at (suc i) (b ∷ cs) c at e = settled_at i cs c at (tail (settled b) b (map settled cs) cs e)
  where
    tail : (a b : Channel) (ps qs : List Channel) → a ∷ ps ≡ b ∷ qs → ps ≡ qs
    tail a b ps qs e = cc

set_settled : (i : ℕ) (cs : List Channel) (d : Channel) → settled d ≡ d → map settled cs ≡ cs → map settled (set cs i d) ≡ set cs i d
set_settled i [] d s e = e
set_settled zero (b ∷ cs) d s e = ap (λ z. z ∷ map settled cs) s ∙ ap (λ zs. d ∷ zs) (tail (settled b) b (map settled cs) cs e)
  where
    tail : (a b : Channel) (ps qs : List Channel) → a ∷ ps ≡ b ∷ qs → ps ≡ qs
    tail a b ps qs e = cc
set_settled (suc i) (b ∷ cs) d s e =
    ap (λ z. z ∷ map settled (set cs i d)) (head (settled b) b (map settled cs) cs e) ∙ ap (λ zs. b ∷ zs) (set_settled i cs d s (tail (settled b) b (map settled cs) cs e))
  where
    head : (a b : Channel) (ps qs : List Channel) → a ∷ ps ≡ b ∷ qs → a ≡ b
    head a b ps qs e = cc

    tail : (a b : Channel) (ps qs : List Channel) → a ∷ ps ≡ b ∷ qs → ps ≡ qs
    tail a b ps qs e = cc

-- all of that
pub each_took : (i : ℕ) (x : Item) (cs : List Channel) (xss : List (List Item)) (c d : Channel) → slice_get cs i ≡ Some c → c.progress.ended ≡ false
    → length (bytes_of (item_at i xss)) + length (body_of x) < 2 ^ 62 → lower_known i cs ≡ true
    → ((all : Option (Description One)) → Follows all (lowest_to i (map hears cs)) x → first_refusal 0 all [] (item_at i xss ++ x ∷ []) ≡ None)
    → Took c x d → Each cs xss → Each (set cs i d) (push_item i x xss)
each_took i x cs xss c d at unended few low new t e =
    let k = count_at i cs xss c at e.counts in
    record {
      counts = push_counts i x cs xss c d at (λ k. took_counts c d (item_at i xss) x (sym k.ended ∙ unended) few k t) e.counts;
      agrees = push_agrees None i x cs xss c d at unended e.counts e.order new e.agrees;
      order = set_begun i cs c d at low (known_stays c d x unended t) e.order;
      settled_is = set_settled i cs d (took_settled c d x (settled_at i cs c at e.settled_is) t) e.settled_is;
    }

-- all have begun where all have started
pub begun_of_started : (cs : List Channel) (xss : List (List Item)) → CountEach cs xss → all_have is_start xss ≡ true → AllBegun cs
begun_of_started [] [] k s = tt
begun_of_started [] (xs ∷ xss) k s = absurd k
begun_of_started (c ∷ cs) [] k s = absurd k
begun_of_started (c ∷ cs) (xs ∷ xss) k s = go (has is_start xs) refl s (λ r. begun_of_started cs xss k.1 r)
  where
    begun : (b : Bool) → c.progress.begun ≡ b → has is_start xs ≡ true → c.progress.begun ≡ true
    begun true e s = e
    begun false e s = absurd (differ (sym s ∙ (k.0.fresh e).unstarted))

    go : (b : Bool) → has is_start xs ≡ b → (if b then all_have is_start xss else false) ≡ true → (all_have is_start xss ≡ true → AllBegun cs)
        → (c.progress.begun ≡ true) × AllBegun cs
    go true e r later = (begun c.progress.begun refl e, later r)
    go false e r later = absurd (differ (sym r))
