-- What goes out, with more on the sink pads and with a selection more.
use Rattle.std.proofs.Common.{◌≡◌, ◌≤◌, ◌<◌, ◌+◌, ◌-◌, ℕ, zero, suc, Bool, true, false, if◌then◌else◌, List, [], ◌∷◌, ◌++◌, map, length, take, drop, sym, ap, ◌∙◌, subst, append-nil, append_assoc, arith}
use Rattle.std.specs.Prelude.{slice_index}
use Rattle.std.proofs.lemmas.List.{take-append-drop, take-append-le, drop-append-le, take-take, drop-take, length-drop}
use Rattle.std.proofs.Math.Seq.{take-length, drop-length, take_all}
use Rattle.flow_model.specs.Item.{Item, is_flush_stop}
use Rattle.flow_model.specs.Call.{Call}
use Rattle.flow_model.specs.Sticky.{stickies}
use Rattle.flow_model.specs.Section.{counted, flush_stops}
use Rattle.flow_model.specs.Link.{between}
use Rattle.flow_model.specs.SinkPads.{InSection}
use Rattle.flow_model.specs.Prefix.{IsPrefix, nothing, ArePrefixes, none as no_pads, pad as one_pad}
use Rattle.flow_model.proofs.Prefixes.{take_prefix, prefix_of_drop}
use Rattle.flow_model.proofs.Items.{items_prefix, stops_of}
use Rattle.el_join.specs.Sections.{open_section}
use Rattle.el_select.specs.Selections.{Selection, active_behind, list_of, in_force_at, shown, lengths_of, IsMade, AreMade, AreSelections}
use Rattle.el_select.proofs.Sticking.{stickies_stops}
use Rattle.el_select.proofs.Placing.{within_at, behind_at, section_at, zeros_at, lengths_at, made_within, none_made, now_selected}

pub list_prefix : (k : ℕ) {took more : List (List Call)} → ArePrefixes took more → IsPrefix (list_of k took) (list_of k more)
list_prefix k no_pads = nothing
list_prefix zero (one_pad p ps) = items_prefix p
list_prefix (suc k) (one_pad p ps) = list_prefix k ps

between_prefix : (from to : ℕ) {xs ys : List Item} → IsPrefix xs ys → to ≤ length xs → between from to xs ≡ between from to ys
between_prefix from to {xs} {ys} p h =
    let rest = length-drop from xs in take_prefix (to - from) (prefix_of_drop from p) (omega (arith, h, rest))

-- Where the pads are given more, what goes out has more behind it: what the active pad is given more.
shown_more : {took more : List (List Call)} → ArePrefixes took more → (rest : List Item) (pad : ℕ) (earlier : List ℕ) (ss : List Selection)
    → AreMade earlier ss took
    → list_of (active_behind pad ss) more ≡ list_of (active_behind pad ss) took ++ rest
    → shown pad (slice_index earlier pad) ss more ≡ shown pad (slice_index earlier pad) ss took ++ rest
shown_more {took = took} {more = more} p rest pad earlier [] m e =
    let from = slice_index earlier pad in
    let xs = list_of pad took in
    let h = within_at earlier took m pad in
    ap (λ (ys : List Item). in_force_at from ys ++ drop from ys) e
    ∙ ap (λ (ys : List Item). stickies (counted ys) ++ drop from (xs ++ rest)) (take-append-le from xs rest h)
    ∙ ap (λ (ys : List Item). in_force_at from xs ++ ys) (drop-append-le from xs rest h)
    ∙ sym (append_assoc (in_force_at from xs) (drop from xs) rest)
shown_more {took = took} {more = more} p rest pad earlier (s ∷ ss) m e =
    let i : IsMade earlier s took = m.0 in
    let from = slice_index earlier pad in
    let to = slice_index s.places pad in
    let xs = list_of pad took in
    let q = list_prefix pad p in
    let most = within_at s.places took (made_within s.places ss took m.1) pad in
    let less = behind_at earlier s.places i.behind pad in
    let front = in_force_at from xs in
    let back = shown s.pad (slice_index s.places s.pad) ss took in
    ap (λ (ys : List Item). stickies (counted ys) ++ (between from to (list_of pad more) ++ shown s.pad (slice_index s.places s.pad) ss more))
    (sym (take_prefix from q (omega (arith, less, most))))
    ∙ ap (λ (ys : List Item). front ++ (ys ++ shown s.pad (slice_index s.places s.pad) ss more)) (sym (between_prefix from to q most))
    ∙ ap (λ (ys : List Item). front ++ (between from to xs ++ ys)) (shown_more p rest s.pad s.places ss m.1 e)
    ∙ ap (λ (ys : List Item). front ++ ys) (sym (append_assoc (between from to xs) back rest))
    ∙ sym (append_assoc front (between from to xs ++ back) rest)

pub shows_more : {took more : List (List Call)} → ArePrefixes took more → (ss : List Selection) (rest : List Item) → AreSelections ss took
    → list_of (active_behind 0 ss) more ≡ list_of (active_behind 0 ss) took ++ rest → shown 0 0 ss more ≡ shown 0 0 ss took ++ rest
shows_more {took = took} {more = more} p ss rest m e =
    subst (λ (n : ℕ). shown 0 n ss more ≡ shown 0 n ss took ++ rest) (zeros_at took 0)
    (shown_more p rest 0 (map (λ (cs : List Call). 0) took) ss m e)

-- a selection that is made now
shown_now : (k : ℕ) (took : List (List Call)) (pad from : ℕ) (ss : List Selection)
    → shown pad from (ss ++ now_selected k took ∷ []) took ≡ shown pad from ss took ++ stickies (counted (list_of k took))
shown_now k took pad from [] =
    let xs = list_of pad took in
    let ys = list_of k took in
    ap (λ (n : ℕ). in_force_at from xs ++ (take (n - from) (drop from xs) ++ shown k (slice_index (lengths_of took) k) [] took)) (lengths_at took pad)
    ∙ ap (λ (zs : List Item). in_force_at from xs ++ (zs ++ shown k (slice_index (lengths_of took) k) [] took))
    (let rest = length-drop from xs in take_all (length xs - from) (drop from xs) (omega (arith, rest)))
    ∙ ap (λ (n : ℕ). in_force_at from xs ++ (drop from xs ++ (in_force_at n ys ++ drop n ys))) (lengths_at took k)
    ∙ ap (λ (zs : List Item). in_force_at from xs ++ (drop from xs ++ (stickies (counted zs) ++ drop (length ys) ys))) (take-length ys)
    ∙ ap (λ (zs : List Item). in_force_at from xs ++ (drop from xs ++ (stickies (counted ys) ++ zs))) (drop-length ys)
    ∙ ap (λ (zs : List Item). in_force_at from xs ++ (drop from xs ++ zs)) (append-nil (stickies (counted ys)))
    ∙ sym (append_assoc (in_force_at from xs) (drop from xs) (stickies (counted ys)))
shown_now k took pad from (s ∷ ss) =
    let xs = list_of pad took in
    let to = slice_index s.places pad in
    let back = shown s.pad (slice_index s.places s.pad) ss took in
    ap (λ (zs : List Item). in_force_at from xs ++ (between from to xs ++ zs)) (shown_now k took s.pad (slice_index s.places s.pad) ss)
    ∙ ap (λ (zs : List Item). in_force_at from xs ++ zs) (sym (append_assoc (between from to xs) back (stickies (counted (list_of k took)))))
    ∙ sym (append_assoc (in_force_at from xs) (between from to xs ++ back) (stickies (counted (list_of k took))))

pub shows_now : (k : ℕ) (took : List (List Call)) (ss : List Selection)
    → shown 0 0 (ss ++ now_selected k took ∷ []) took ≡ shown 0 0 ss took ++ stickies (counted (list_of k took))
shows_now k took ss = shown_now k took 0 0 ss

-- The section that is open is the same in what goes out.
stops_append : (xs ys : List Item) → flush_stops (xs ++ ys) ≡ flush_stops xs + flush_stops ys
stops_append [] ys = omega arith
stops_append (x ∷ xs) ys = go (is_flush_stop x) (stops_append xs ys)
  where
    go : (b : Bool) → flush_stops (xs ++ ys) ≡ flush_stops xs + flush_stops ys
        → (if b then suc (flush_stops (xs ++ ys)) else flush_stops (xs ++ ys)) ≡ (if b then suc (flush_stops xs) else flush_stops xs) + flush_stops ys
    go true e = omega (arith, e)
    go false e = e

take_between : (from to : ℕ) (xs : List Item) → from ≤ to → take from xs ++ between from to xs ≡ take to xs
take_between from to xs less =
    let n = from + (to - from) in
    let whole : n ≡ to = omega (arith, less) in
    ap (λ (ys : List Item). take from xs ++ ys) (sym (drop-take from (to - from) xs))
    ∙ ap (λ (ys : List Item). ys ++ drop from (take n xs)) (sym (take-take from n xs (omega arith)))
    ∙ take-append-drop from (take n xs)
    ∙ ap (λ (m : ℕ). take m xs) whole

behind_sticky : (h ys : List Item) → flush_stops (stickies h ++ ys) ≡ flush_stops ys
behind_sticky h ys = let e = stops_append (stickies h) ys in let free = stickies_stops h in omega (arith, e, free)

stops_at : (n : ℕ) (took : List (List Call)) → InSection n took → (k : ℕ) → k < length took → flush_stops (list_of k took) ≡ n
stops_at n [] ls k less = absurd (omega (arith, less))
stops_at n (cs ∷ took) ls zero less = sym (stops_of cs) ∙ ls.0
stops_at n (cs ∷ took) ls (suc k) less = stops_at n took ls.1 k (omega (arith, less))

shown_stops : (n : ℕ) (took : List (List Call)) → InSection n took → (pad : ℕ) (earlier : List ℕ) (ss : List Selection) → pad < length took
    → AreMade earlier ss took
    → flush_stops (take (slice_index earlier pad) (list_of pad took)) + flush_stops (shown pad (slice_index earlier pad) ss took) ≡ n
shown_stops n took ls pad earlier [] less m =
    let from = slice_index earlier pad in
    let xs = list_of pad took in
    let sticky = behind_sticky (counted (take from xs)) (drop from xs) in
    let both = stops_append (take from xs) (drop from xs) in
    let whole = ap flush_stops (take-append-drop from xs) in
    let all = stops_at n took ls pad less in
    omega (arith, sticky, both, whole, all)
shown_stops n took ls pad earlier (s ∷ ss) less m =
    let i : IsMade earlier s took = m.0 in
    let from = slice_index earlier pad in
    let to = slice_index s.places pad in
    let xs = list_of pad took in
    let back = shown s.pad (slice_index s.places s.pad) ss took in
    let within = made_within s.places ss took m.1 in
    let sticky = behind_sticky (counted (take from xs)) (between from to xs ++ back) in
    let apart = stops_append (between from to xs) back in
    let both = stops_append (take from xs) (between from to xs) in
    let front = ap flush_stops (take_between from to xs (behind_at earlier s.places i.behind pad)) in
    let here = section_at i.number s.places took within i.section pad less in
    let there = section_at i.number s.places took within i.section s.pad i.pad in
    let rest = shown_stops n took ls s.pad s.places ss i.pad m.1 in
    omega (arith, sticky, apart, both, front, here, there, rest)

pub shows_section : (took : List (List Call)) (ss : List Selection) → InSection (open_section took) took → AreSelections ss took
    → flush_stops (shown 0 0 ss took) ≡ open_section took
shows_section [] ss ls m = ap (λ (qs : List Selection). flush_stops (shown 0 0 qs [])) (none_made ss m) ∙ behind_sticky [] []
shows_section (cs ∷ took) ss ls m =
    let e = shown_stops (open_section (cs ∷ took)) (cs ∷ took) ls 0 (0 ∷ map (λ (ds : List Call). 0) took) ss (omega arith) m in
    omega (arith, e)
