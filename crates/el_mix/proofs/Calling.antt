-- The calls of an element, one by one.
use Rattle.std.proofs.Common.{◌≡◌, ◌<◌, ◌≤◌, ℕ, zero, suc, ◌+◌, ◌*◌, ◌^◌, true, false, if◌then◌else◌, List, [], ◌∷◌, ◌++◌, Option, Some, None, length, map, set, refl, sym, ap, ◌∙◌, subst, inl, inr, arith}
use Rattle.std.specs.Prelude.{slice_get}
use Rattle.std.proofs.Math.Nat.{div-mul-le_self, mul-le-mul_right}
use Rattle.std.proofs.lemmas.Option.{same_Some as chan_is}
use Rattle.gst_caps.specs.Accepts.{accepts}
use Rattle.gst_value.specs.Description.{Description}
use Rattle.gst_value.specs.declared.one.One.{One}
use Rattle.flow_model.specs.Item.{Item, is_eos, body_of}
use Rattle.flow_model.specs.Looking.{bytes_of}
use Rattle.el_mix.specs.declared.channel.Channel.{Channel}
use Rattle.el_mix.specs.declared.position.Position.{Position}
use Rattle.el_mix.specs.Mono.{Mono, mono_of, width, mono_template}
use Rattle.el_mix.specs.Mixed.{has, frames, limit}
use Rattle.el_mix.specs.Agreed.{or_else, pad_caps, lowest_caps, first_refusal}
use Rattle.el_mix.specs.Mixes.{interleaved}
use Rattle.el_mix.specs.Order.{InOrder}
use Rattle.el_mix.specs.Judging.{lowest_to, own_refusal, inherited_refusal, verdict, IsFine}
use Rattle.el_mix.specs.Taking.{hears, IsHeard, Took}
use Rattle.el_mix.specs.Standing.{Counts, CountEach, AgreeEach, lower_known, opened, limit_in, Each, Holds, Behind, rest_owed}
use Rattle.el_mix.proofs.Mixing.{HasFrames, AllHave, limit_have}
use Rattle.el_mix.proofs.Refusing.{push_item, item_at, push_length}
use Rattle.el_mix.proofs.Growing.{or_or}
use Rattle.el_mix.proofs.Judged.{AllBegun, Follows, neither, none_start, agreed_at, own_below, follows_push, verdict_is, agreeing}
use Rattle.el_mix.proofs.Coming.{IsTaken, is_taken, took_waits}
use Rattle.el_mix.proofs.Together.{count_at, wait_at, push_waits, each_took, begun_of_started}
use Rattle.el_mix.proofs.Owed.{is_open, more_owed, open_behind}
use Rattle.el_mix.proofs.Moving.{length_is, or_first}

differ : true ≡ false → ⊥
differ e = absurd (cc)

agree_at : (low : Option (Description One)) (i : ℕ) (cs : List Channel) (xss : List (List Item)) (c : Channel) → slice_get cs i ≡ Some c → CountEach cs xss → AgreeEach low cs xss
    → c.progress.begun ≡ true → (own : Description One) → hears c ≡ Some own
    → (accepts mono_template own ≡ true) × ((found : Description One) → or_else low (lowest_caps xss) ≡ Some found → own ≡ found)
agree_at low i [] xss c at k a b own o = absurd (cc)
agree_at low i (d ∷ cs) [] c at k a b own o = absurd k
agree_at low zero (d ∷ cs) (xs ∷ xss) c at k a b own o =
    let same : d ≡ c = chan_is d c at in
    let agree = agreeing low d xs k.0 (a.0 (ap (λ (z : Channel). z.progress.begun) same ∙ b)) in
    let own_is : hears d ≡ Some own = ap hears same ∙ o in
    (agree.heard own own_is, λ found l. or_first (or_else low (pad_caps xs)) (lowest_caps xss) found own (agree.same own own_is) (sym (or_or low (pad_caps xs) (lowest_caps xss)) ∙ l))
agree_at low (suc i) (d ∷ cs) (xs ∷ xss) c at k a b own o =
    let rest = agree_at (or_else low (pad_caps xs)) i cs xss c at k.1 a.1 b own o in
    (rest.0, λ found l. rest.1 found (sym (or_or low (pad_caps xs) (lowest_caps xss)) ∙ l))

have_at : (mono : Mono) (n i : ℕ) (xss : List (List Item)) → i < length xss → AllHave mono n xss → HasFrames mono n (item_at i xss)
have_at mono n i [] lt h = absurd (omega (arith, lt))
have_at mono n zero (xs ∷ xss) lt h = h.0
have_at mono n (suc i) (xs ∷ xss) lt h = have_at mono n i xss (omega (arith, lt)) h.1

begun_at : (i : ℕ) (cs : List Channel) (c : Channel) → slice_get cs i ≡ Some c → AllBegun cs → c.progress.begun ≡ true
begun_at i [] c at b = absurd (cc)
begun_at zero (d ∷ cs) c at b = ap (λ (z : Channel). z.progress.begun) (sym (chan_is d c at)) ∙ b.0
begun_at (suc i) (d ∷ cs) c at b = begun_at i cs c at b.1

pub place_below : (i : ℕ) (cs : List Channel) (c : Channel) → slice_get cs i ≡ Some c → i < length cs
place_below i [] c at = absurd (cc)
place_below zero (d ∷ cs) c at = omega arith
place_below (suc i) (d ∷ cs) c at = let less = place_below i cs c at in omega (arith, less)

-- the frames that went out are among those of each pad that did not end
low_at : (at : Position) (i : ℕ) (cs : List Channel) (xss : List (List Item)) (c : Channel) → slice_get cs i ≡ Some c → Holds at cs xss → has is_eos (item_at i xss) ≡ false
    → (own : Description One) → hears c ≡ Some own → at.next * width (mono_of own) ≤ length (bytes_of (item_at i xss))
low_at at i cs xss c here h unended own o = go (opened xss) refl
  where
    by_frames : (mono : Mono) → mono_of own ≡ mono → at.next ≡ limit mono xss → HasFrames mono (limit mono xss) (item_at i xss) → at.next * width (mono_of own) ≤ length (bytes_of (item_at i xss))
    by_frames mono same next (inl e) = absurd (differ (sym e ∙ unended))
    by_frames mono same next (inr e) =
        subst (λ (m : Mono). at.next * width m ≤ length (bytes_of (item_at i xss))) (sym same)
        (let most = div-mul-le_self (length (bytes_of (item_at i xss))) (width mono) in
        let few : at.next * width mono ≤ frames mono (item_at i xss) * width mono = mul-le-mul_right (width mono) (subst (λ n. n ≤ frames mono (item_at i xss)) (sym next) e) in
        omega (arith, most, few))

    go : (m : Option Mono) → opened xss ≡ m → at.next * width (mono_of own) ≤ length (bytes_of (item_at i xss))
    go None op =
        let next : at.next ≡ 0 = h.placed.next_is ∙ ap (λ m. limit_in m xss) op in
        subst (λ n. n * width (mono_of own) ≤ length (bytes_of (item_at i xss))) (sym next) (none (width (mono_of own)) (length (bytes_of (item_at i xss))))
      where
        none : (w l : ℕ) → 0 * w ≤ l
        none w l = omega arith
    go (Some mono) op =
        let is = is_open mono xss op in
        let begun = begun_at i cs c here (begun_of_started cs xss h.each.counts is.all) in
        let same : own ≡ is.caps = (agree_at None i cs xss c here h.each.counts h.each.agrees begun own o).1 is.caps is.lowest in
        let less = place_below i cs c here in
        let many = length_is cs xss h.each.counts in
        by_frames mono (ap mono_of same ∙ is.mono_is) (h.placed.next_is ∙ ap (λ m. limit_in m xss) op)
        (have_at mono (limit mono xss) i xss (omega (arith, less, many)) (limit_have mono xss))

-- what is judged of a channel can be told
pub fine_at : (at : Position) (i : ℕ) (cs : List Channel) (xss : List (List Item)) (c : Channel) → slice_get cs i ≡ Some c → Holds at cs xss → IsFine c
fine_at at i cs xss c here h = record {
  heard = λ b. heard b (hears c) refl;
  small = subst (λ n. n < 2 ^ 62) (sym (count_at i cs xss c here h.each.counts).got) (wait_at at.next i cs xss c here h.waits).small;
}
  where
    heard : c.progress.begun ≡ true → (o : Option (Description One)) → hears c ≡ o → IsHeard (hears c)
    heard b None o = subst IsHeard (sym o) tt
    heard b (Some own) o = subst IsHeard (sym o) (agree_at None i cs xss c here h.each.counts h.each.agrees b own o).0

-- One item more on a pad, of which nothing is refused.
module _ (at : Position) (i : ℕ) (x : Item) (cs : List Channel) (xss : List (List Item)) (c : Channel) (here : slice_get cs i ≡ Some c) (h : Holds at cs xss) where
  counts : Counts c (item_at i xss)
  counts = count_at i cs xss c here h.each.counts

  pub verdict_all : (r : ℕ) (all : Option (Description One)) → Follows all (lowest_to i (map hears cs)) x → first_refusal r all [] (item_at i xss ++ x ∷ []) ≡ verdict r (lowest_to i (map hears cs)) c x
  verdict_all r all f =
      let known_at = agreed_at None i cs xss c here h.each.counts h.each.agrees in
      verdict_is r all (lowest_to i (map hears cs)) c (item_at i xss) x known_at.0 known_at.1 (λ e. own_below i cs c here e) f

  pub verdict_push : (r : ℕ) → first_refusal r (lowest_caps (push_item i x xss)) [] (item_at i xss ++ x ∷ []) ≡ verdict r (lowest_to i (map hears cs)) c x
  verdict_push r =
      let less = place_below i cs c here in
      let many = length_is cs xss h.each.counts in
      verdict_all r (lowest_caps (push_item i x xss)) (follows_push i x cs xss h.each.counts (omega (arith, less, many)))

  module _ (d : Channel) (r : ℕ) (unended : c.progress.ended ≡ false) (judged : verdict r (lowest_to i (map hears cs)) c x ≡ None) (few : c.progress.got + length (body_of x) < 2 ^ 62)
      (low : lower_known i cs ≡ true) (t : Took c x d) (o : InOrder xss) where
    list_open : has is_eos (item_at i xss) ≡ false
    list_open = sym counts.ended ∙ unended

    few_bytes : length (bytes_of (item_at i xss)) + length (body_of x) < 2 ^ 62
    few_bytes = subst (λ n. n + length (body_of x) < 2 ^ 62) counts.got few

    pub new_each : Each (set cs i d) (push_item i x xss)
    new_each =
        each_took i x cs xss c d here unended few_bytes low
        (λ all f. none_start r all [] (item_at i xss ++ x ∷ []) (verdict_all r all f ∙ judged)) t h.each

    taken : IsTaken c (item_at i xss) x
    taken =
        is_taken r at.next (lowest_to i (map hears cs)) c (item_at i xss) x counts (wait_at at.next i cs xss c here h.waits)
        (neither (if c.progress.begun then None else inherited_refusal (lowest_to i (map hears cs)) (hears c)) (own_refusal r (lowest_to i (map hears cs)) (hears c) c.progress.got x) judged).1

    pub new_behind : Behind at (set cs i d) (push_item i x xss)
    new_behind = record {
      each = new_each;
      waits = push_waits at.next i x cs xss c d here (λ w. took_waits at.next c d (item_at i xss) x few_bytes (low_at at i cs xss c here h list_open) taken w t) h.waits;
      open_at = open_behind at i x xss o h.placed list_open;
    }

    pub new_owed : interleaved (push_item i x xss) ≡ interleaved xss ++ rest_owed at (push_item i x xss)
    new_owed =
        let less = place_below i cs c here in
        let many = length_is cs xss h.each.counts in
        let same = push_length i x xss in
        more_owed at cs (set cs i d) i x xss h.each new_each (omega (arith, less, many)) (omega (arith, less, many, same)) o h.placed list_open
