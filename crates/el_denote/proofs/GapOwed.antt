-- What such an interleave owes in truth.
use Rattle.std.proofs.Common.{◌≡◌, ◌<◌, ℕ, suc, Bool, true, false, if◌then◌else◌, List, [], ◌∷◌, ◌++◌, length, take, Option, None, Some, refl, sym, ap, ◌∙◌, subst, arith}
use Rattle.std.proofs.lemmas.Bool.{le-leb}
use Rattle.std.proofs.lemmas.List.{take_all}
use Rattle.gst_value.specs.Description.{Description}
use Rattle.gst_value.specs.declared.one.One.{One}
use Rattle.flow_model.specs.Item.{Item, Ev, StreamStart, NewSegment, Eos, is_eos}
use Rattle.flow_model.specs.Call.{Call}
use Rattle.el_mix.specs.declared.channel.Channel.{Channel}
use Rattle.el_mix.specs.declared.mix.Mix.{Mix}
use Rattle.el_mix.specs.Mono.{mono_of}
use Rattle.el_mix.specs.Mixed.{longest, limit, limit_by, mixed}
use Rattle.el_mix.specs.Agreed.{lowest_caps, all_agreed}
use Rattle.el_mix.specs.Reopened.{reopenings}
use Rattle.el_mix.specs.Mixes.{is_start, all_have, stream_start, joined_caps, from_zero, eos_if, started, begun as begun_by, interleaved, mixes}
use Rattle.el_mix.specs.Answer.{reached}
use Rattle.el_mix.specs.Standing.{Each}
use Rattle.el_mix.specs.Relation.{Mixes, section_of}
use Rattle.el_mix.proofs.Judged.{all_agree}
use Rattle.el_mix.proofs.Owed.{whole_owed}
use Rattle.el_mix.proofs.Owing.{not_started}
use Rattle.el_mix.proofs.Refusing.{some_pads, some_lists}
use Rattle.el_mix.proofs.Together.{begun_of_started}
use Rattle.el_denote.specs.Near.{Mark, NearEach, gaps_of, owed_count}
use Rattle.el_denote.proofs.Nearing.{each_in}
use Rattle.el_denote.proofs.GapLists.{ListsNear, none_same, lists_near, caps_near, ids_near, length_near, agreed_near, starts_up, fine, starts_same, gap_unstarted, open_none, unended}
use Rattle.el_set.proofs.JoinRules.{mix_open as section_is}

-- what stands before the buffers
abbrev opening_by : Option (Description One) → List (List Item) → List Item
opening_by None xss = []
opening_by (Some caps) xss = stream_start xss ∷ joined_caps caps (length xss) ∷ Ev (NewSegment from_zero) ∷ []

abbrev opening : List (List Item) → List Item
opening xss = if all_have is_start xss then opening_by (lowest_caps xss) xss else []

pub opening_owed : (cs : List Channel) {marks : List Mark} {xss' xss : List (List Item)} (b : Bool) → ListsNear marks xss' xss → gaps_of marks ≡ Some b → Each cs xss' → 0 < length xss'
    → interleaved xss ≡ opening xss
opening_owed cs {marks} {xss'} {xss} b near gap each some = go (all_have is_start xss) refl
  where
    started_is : (o : Option (Description One)) → started o xss ≡ opening_by o xss
    started_is None = rw (unended b near gap) refl
    started_is (Some caps) =
        let none : limit (mono_of caps) xss ≡ 0 = ap (limit_by (longest (mono_of caps) xss)) (open_none (mono_of caps) b near gap) in
        rw (none, unended b near gap) refl

    go : (s : Bool) → all_have is_start xss ≡ s → interleaved xss ≡ opening xss
    go true s =
        let whole : all_agreed (lowest_caps xss') xss' ≡ xss' = all_agree None cs xss' each.agrees (begun_of_started cs xss' each.counts (starts_up near s)) in
        let counts : all_agreed (lowest_caps xss) xss ≡ xss = agreed_near (lowest_caps xss) near (subst (λ o. all_agreed o xss' ≡ xss') (caps_near near) whole) in
        some_pads xss (subst (λ n. 0 < n) (length_near near) some) ∙ ap begun_by counts ∙ rw s (started_is (lowest_caps xss))
    go false s = not_started xss s ∙ rw s refl

three : (n : ℕ) → owed_count (suc (suc (suc n))) (Some true) ≡ 3
three n = ap (λ (b : Bool). if b then 3 else 0) (le-leb 3 (suc (suc (suc n))) (omega arith))

start_near : {marks : List Mark} {xss' xss : List (List Item)} → ListsNear marks xss' xss → stream_start xss' ≡ stream_start xss
start_near near = ap (λ o. Ev (StreamStart (limit_by 0 o))) (ids_near near)

opening_taken : (cs : List Channel) {marks : List Mark} {xss' xss : List (List Item)} (b : Bool) → ListsNear marks xss' xss → gaps_of marks ≡ Some b → Each cs xss' → 0 < length xss'
    → take (owed_count (length (interleaved xss')) (Some b)) (interleaved xss') ≡ opening xss
opening_taken cs {marks} {xss'} {xss} false near gap each some = rw (gap_unstarted near (ap fine gap)) refl
opening_taken cs {marks} {xss'} {xss} true near gap each some = go (all_have is_start xss') refl
  where
    front : (o : Option (Description One)) → take (owed_count (length (started o xss')) (Some true)) (started o xss') ≡ opening_by o xss
    front None = few (all_have is_eos xss')
      where
        few : (e : Bool) → take (owed_count (length (if e then stream_start xss' ∷ Ev Eos ∷ [] else [])) (Some true)) (if e then stream_start xss' ∷ Ev Eos ∷ [] else []) ≡ []
        few true = refl
        few false = refl
    front (Some caps) =
        let rest : List Item = mixed (mono_of caps) xss' 0 0 (limit (mono_of caps) xss') ++ eos_if (all_have is_eos xss') in
        ap (λ n. take n (stream_start xss' ∷ joined_caps caps (length xss') ∷ Ev (NewSegment from_zero) ∷ rest)) (three (length rest))
        ∙ ap (λ x. x ∷ joined_caps caps (length xss') ∷ Ev (NewSegment from_zero) ∷ []) (start_near near)
        ∙ ap (λ n. stream_start xss ∷ joined_caps caps n ∷ Ev (NewSegment from_zero) ∷ []) (length_near near)

    alike : all_have is_start xss' ≡ all_have is_start xss
    alike = starts_same near (ap fine gap)

    go : (s : Bool) → all_have is_start xss' ≡ s → take (owed_count (length (interleaved xss')) (Some true)) (interleaved xss') ≡ opening xss
    go true s = rw (whole_owed cs xss' each some s, sym alike ∙ s) (front (lowest_caps xss') ∙ ap (λ o. opening_by o xss) (caps_near near))
    go false s = rw (not_started xss' s, sym alike ∙ s) refl

pub none_reached : (o : Option (Description One)) (xss : List (List Item)) → reached (opening_by o xss) ≡ 0
none_reached None xss = refl
none_reached (Some caps) xss = refl

pub opening_reached : (xss : List (List Item)) → reached (opening xss) ≡ 0
opening_reached xss = go (all_have is_start xss)
  where
    go : (b : Bool) → reached (if b then opening_by (lowest_caps xss) xss else []) ≡ 0
    go true = none_reached (lowest_caps xss) xss
    go false = refl

pub each_at : (mix : Mix) (tooks : List (List Call)) (put : List Item) (j : ℕ) → Mixes mix tooks put → section_of tooks ≡ j → Each mix.channels.items (reopenings j tooks)
each_at mix tooks put j m is = subst (λ n. Each mix.channels.items (reopenings n tooks)) is m.holds.each

pub owed_near : (mix : Mix) (tooks givens : List (List Call)) (put : List Item) (j : ℕ) (marks : List Mark) (begun : Bool) → Mixes mix tooks put → NearEach j marks begun tooks givens
    → 0 < length tooks → take (owed_count (length put) (gaps_of marks)) put ≡ mixes givens 0 j
owed_near mix tooks givens put j marks begun m near some = go (gaps_of marks) refl
  where
    is : section_of tooks ≡ j
    is = section_is j tooks some (each_in j near).0

    owed : interleaved (reopenings j tooks) ≡ put
    owed = subst (λ n. mixes tooks 0 n ≡ put) is m.owed

    go : (g : Mark) → gaps_of marks ≡ g → take (owed_count (length put) g) put ≡ mixes givens 0 j
    go None g = take_all (length put) put (omega arith) ∙ sym owed ∙ ap interleaved (none_same j near g)
    go (Some b) g =
        let each = each_at mix tooks put j m is in
        let many : 0 < length (reopenings j tooks) = some_lists j tooks some in
        subst (λ zs. take (owed_count (length zs) (Some b)) zs ≡ mixes givens 0 j) owed
        (opening_taken mix.channels.items b (lists_near j near) g each many ∙ sym (opening_owed mix.channels.items b (lists_near j near) g each many))
