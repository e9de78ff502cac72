-- The links of a graph that are no lane: they make a tree behind each head.
use Rattle.std.proofs.Common.{◌≡◌, ◌<◌, ◌≤◌, ◌⊎◌, ◌+◌, ℕ, zero, suc, Bool, true, false, eqb, ◌||◌, if◌then◌else◌, is_some, not, List, [], ◌∷◌, ◌++◌, All, Option, None, Some, map, length, refl, sym, ap, ◌∙◌, subst, inl, inr, arith}
use Rattle.std.specs.Prelude.{slice_get}
use Rattle.std.specs.List.{range_with_len}
use Rattle.std.specs.Option.{option_map_or}
use Rattle.std.proofs.lemmas.Bool.Decides.{eqb_tells}
use Rattle.std.proofs.lemmas.List.FromFn.{map-range_with_len_more}
use Rattle.std.proofs.lemmas.Option.{slice_get_within}
use Rattle.flow_model.specs.Account.{IsMember}
use Rattle.el_settings.specs.Asked.{is_queue, is_source, makes_sinks, sink_pads}
use Rattle.el_settings.proofs.Roles.{source_no_sink}
use Rattle.graph_core.specs.Elements.{Made, has}
use Rattle.graph_core.specs.Links.{HasPads}
use Rattle.graph_pads.specs.Links.{is_same, sink_behind, source_before}
use Rattle.graph_pads.specs.declared.pad.PadLink.{PadLink}
use Rattle.graph_pads.specs.declared.pad.PadPlace.{PadPlace}
use Rattle.graph_core.specs.LinkedOnce.{AreOnce}
use Rattle.el_settings.proofs.Padded.{one_sink}
use Rattle.graph_parts.specs.declared.bag.BagLink.{BagLink}
use Rattle.graph_parts.specs.declared.bag.BagLink.TheVariants.{Nothing, Element, Lane}
use Rattle.graph_parts.specs.declared.bag.BagPad.{BagPad}
use Rattle.graph_parts.specs.Links.{has_inlets, is_head, source_count, link_to, pad_at, pads_of, led_to, inside, Begins, LeadsInside, Reaches}
use Rattle.graph_parts.specs.Bags.{Once}
use Rattle.graph_parts.proofs.Walks.{IsTree}
use Rattle.gst_value.proofs.Basics.{some_same, none_some, no_true}
use Rattle.graph_parts.proofs.MomentLeading.{alike}
use Rattle.graph_core.specs.GraphPlan.{sink_at as place_at}

-- the numbers of a range
pub range_holds : (start n k : ℕ) → IsMember k (range_with_len start n) → (start ≤ k) × (k < start + n)
range_holds start zero k m = absurd m
range_holds start (suc n) k (inl same) = (omega (arith, same), omega (arith, same))
range_holds start (suc n) k (inr m) = let r = range_holds (start + 1) n k m in (omega (arith, r.0), omega (arith, r.1))

pub range_has : (start n k : ℕ) → start ≤ k → k < start + n → IsMember k (range_with_len start n)
range_has start zero k a b = absurd (omega (arith, a, b))
range_has start (suc n) k a b = go (eqb_tells k start) (λ w. range_has (start + 1) n k w (omega (arith, b)))
  where
    go : ((eqb k start ≡ true) × (k ≡ start)) ⊎ ((eqb k start ≡ false) × (k ≡ start → ⊥)) → (start + 1 ≤ k → IsMember k (range_with_len (start + 1) n)) → IsMember k (range_with_len start (suc n))
    go (inl t) later = inl t.1
    go (inr f) later = inr (later (above f.1))
      where
        above : (k ≡ start → ⊥) → start + 1 ≤ k
        above other = omega (arith, a, other)

pub range_once : (start n : ℕ) → Once (range_with_len start n)
range_once start zero = tt
range_once start (suc n) = (λ m. let r = range_holds (start + 1) n start m in absurd (omega (arith, r.0)), range_once (start + 1) n)

-- a pad of these that leads to an element over no lane
pub record LeadsBy (made : List Made) (links : List PadLink) (a d : ℕ) (ks : List ℕ) : Type 0 where
  pub pad : ℕ
  pub among : IsMember pad ks
  pub sink : PadPlace
  pub linked : sink_behind links (place_at a pad) ≡ Some sink
  pub element : sink.element ≡ d
  pub inner : has has_inlets made d ≡ false

more_by : (made : List Made) (links : List PadLink) (a d k : ℕ) (ks : List ℕ) → LeadsBy made links a d ks → LeadsBy made links a d (k ∷ ks)
more_by made links a d k ks l = record { pad = l.pad; among = inr l.among; sink = l.sink; linked = l.linked; element = l.element; inner = l.inner }

pub inside_by_pads : (made : List Made) (links : List PadLink) (a d : ℕ) (ks : List ℕ) → IsMember d (inside (map (pad_at made links a) ks)) → LeadsBy made links a d ks
inside_by_pads made links a d [] m = absurd m
inside_by_pads made links a d (k ∷ ks) m = go (sink_behind links (place_at a k)) refl (λ n. more_by made links a d k ks (inside_by_pads made links a d ks n)) m
  where
    go : (o : Option PadPlace) → sink_behind links (place_at a k) ≡ o → (IsMember d (inside (map (pad_at made links a) ks)) → LeadsBy made links a d (k ∷ ks))
        → IsMember d (led_to (link_to made o) ++ inside (map (pad_at made links a) ks)) → LeadsBy made links a d (k ∷ ks)
    go None at later m = later m
    go (Some sink) at later m = by (has has_inlets made sink.element) refl m
      where
        by : (b : Bool) → has has_inlets made sink.element ≡ b
            → IsMember d (led_to (if b then Lane sink.element sink.pad else Element sink.element sink.pad) ++ inside (map (pad_at made links a) ks)) → LeadsBy made links a d (k ∷ ks)
        by true is m = later m
        by false is (inl same) = record { pad = k; among = inl refl; sink = sink; linked = at; element = sym same; inner = subst (λ (n : ℕ). has has_inlets made n ≡ false) (sym same) is }
        by false is (inr m) = later m

keep : (l : BagLink) (d : ℕ) (es : List ℕ) → IsMember d es → IsMember d (led_to l ++ es)
keep Nothing d es m = m
keep (Element e i) d es m = inr m
keep (Lane e i) d es m = m

pads_by_inside : (made : List Made) (links : List PadLink) (a k : ℕ) (sink : PadPlace) (ks : List ℕ) → IsMember k ks → sink_behind links (place_at a k) ≡ Some sink
    → has has_inlets made sink.element ≡ false → IsMember sink.element (inside (map (pad_at made links a) ks))
pads_by_inside made links a k sink [] m at inner = absurd m
pads_by_inside made links a k sink (x ∷ ks) (inl same) at inner =
    subst (λ (o : Option PadPlace). IsMember sink.element (led_to (link_to made o) ++ inside (map (pad_at made links a) ks)))
    (sym (subst (λ (n : ℕ). sink_behind links (place_at a n) ≡ Some sink) same at))
    (subst (λ (b : Bool). IsMember sink.element (led_to (if b then Lane sink.element sink.pad else Element sink.element sink.pad) ++ inside (map (pad_at made links a) ks))) (sym inner) (inl refl))
pads_by_inside made links a k sink (x ∷ ks) (inr m) at inner = keep _ sink.element _ (pads_by_inside made links a k sink ks m at inner)

-- what the pads of an element lead to inside are the elements that it leads to
pub inside_leads : (made : List Made) (links : List PadLink) (a d : ℕ) → IsMember d (inside (pads_of made links a)) → LeadsInside made links a d
inside_leads made links a d m =
    let l = inside_by_pads made links a d (range_with_len 0 (source_count made a)) m in
    let r = range_holds 0 (source_count made a) l.pad l.among in
    record { pad = l.pad; there = omega (arith, r.1); sink = l.sink; linked = l.linked; element = l.element; inner = l.inner }

pub leads_inside : (made : List Made) (links : List PadLink) (a d : ℕ) → LeadsInside made links a d → IsMember d (inside (pads_of made links a))
leads_inside made links a d l =
    subst (λ (n : ℕ). IsMember n (inside (pads_of made links a))) l.element
    (pads_by_inside made links a l.pad l.sink (range_with_len 0 (source_count made a)) (range_has 0 (source_count made a) l.pad (omega arith) (omega (arith, l.there))) l.linked
    (subst (λ (n : ℕ). has has_inlets made n ≡ false) (sym l.element) l.inner))

abbrev pub sinks_at : List Made → ℕ → ℕ
sinks_at made e = option_map_or (λ (m : Made). sink_pads m.settings) (slice_get made e) 0

-- the sink pad that a source pad is linked to is there
pub sink_there : (made : List Made) (links : List PadLink) → All (HasPads made) links → (source sink : PadPlace) → sink_behind links source ≡ Some sink → sink.pad < sinks_at made sink.element
sink_there made [] all source sink at = absurd (none_some at)
sink_there made (l ∷ ls) all source sink at = go (is_same l.source source) at (λ later. sink_there made ls (λ k d w. all (suc k) d (omega (arith, w))) source sink later)
  where
    go : (b : Bool) → (if b then Some l.sink else sink_behind ls source) ≡ Some sink → (sink_behind ls source ≡ Some sink → sink.pad < sinks_at made sink.element) → sink.pad < sinks_at made sink.element
    go true at later = subst (λ (place : PadPlace). place.pad < sinks_at made place.element) (some_same at) (all 0 l (omega arith)).1
    go false at later = later at

no_joins : (queue joins : Bool) → (queue || joins) ≡ false → joins ≡ false
no_joins true joins none = absurd (cc)
no_joins false joins none = none

-- an element that is not fed from inlets has one sink pad at the most
pub only_sink : (found : Option Made) (pad : ℕ) → option_map_or (λ (m : Made). has_inlets m.settings) found false ≡ false → pad < option_map_or (λ (m : Made). sink_pads m.settings) found 0 → pad ≡ 0
only_sink None pad none w = absurd (omega (arith, w))
only_sink (Some m) pad none w = let few = one_sink m.settings (no_joins (is_queue m.settings) (makes_sinks m.settings) none) in omega (arith, few, w)

-- no head has a sink pad of its own task
no_head_there : (found : Option Made) (pad : ℕ) → option_map_or (λ (m : Made). is_head m.settings) found false ≡ true → option_map_or (λ (m : Made). has_inlets m.settings) found false ≡ false
    → pad < option_map_or (λ (m : Made). sink_pads m.settings) found 0 → ⊥
no_head_there None pad head none w = omega (arith, w)
no_head_there (Some m) pad head none w = go (is_source m.settings) refl head
  where
    go : (b : Bool) → is_source m.settings ≡ b → (b || has_inlets m.settings) ≡ true → ⊥
    go true is head = let no_sink = source_no_sink m.settings is in omega (arith, no_sink, w)
    go false is head = no_true (sym none ∙ head)

-- the first sink pad of a loose element has no link
pub is_free : (b : Bool) (found : Option PadPlace) → not (b || is_some found) ≡ true → found ≡ None
is_free true found e = absurd cc
is_free false None e = refl
is_free false (Some source) e = absurd cc

module _ (made : List Made) (links : List PadLink) (all : All (HasPads made) links) (once : AreOnce links) where
  -- one source pad at the most leads to an element that is not fed from inlets
  one_source : (source other sink place : PadPlace) → sink_behind links source ≡ Some sink → sink_behind links other ≡ Some place → sink.element ≡ place.element → has has_inlets made sink.element ≡ false
      → source ≡ other
  one_source source other sink place at to same inner =
      let zero_here = only_sink (slice_get made sink.element) sink.pad inner (sink_there made links all source sink at) in
      let zero_there = only_sink (slice_get made place.element) place.pad (subst (λ (n : ℕ). has has_inlets made n ≡ false) same inner) (sink_there made links all other place to) in
      let one : sink ≡ place = alike sink place same (zero_here ∙ sym zero_there) in
      some_same (sym (once.there source sink at) ∙ ap (source_before links) one ∙ once.there other place to)

  one_leads : (a b d : ℕ) → LeadsInside made links a d → LeadsInside made links b d → a ≡ b
  one_leads a b d l k =
      ap (λ (place : PadPlace). place.element)
      (one_source (place_at a l.pad) (place_at b k.pad) l.sink k.sink l.linked k.linked (l.element ∙ sym k.element) (subst (λ (n : ℕ). has has_inlets made n ≡ false) (sym l.element) l.inner))

  once_inside : (a : ℕ) (ks : List ℕ) → Once ks → Once (inside (map (pad_at made links a) ks))
  once_inside a [] o = tt
  once_inside a (k ∷ ks) o = go (sink_behind links (place_at a k)) refl (once_inside a ks o.1)
    where
      go : (found : Option PadPlace) → sink_behind links (place_at a k) ≡ found → Once (inside (map (pad_at made links a) ks)) → Once (led_to (link_to made found) ++ inside (map (pad_at made links a) ks))
      go None at rest = rest
      go (Some sink) at rest = by (has has_inlets made sink.element) refl
        where
          by : (b : Bool) → has has_inlets made sink.element ≡ b → Once (led_to (if b then Lane sink.element sink.pad else Element sink.element sink.pad) ++ inside (map (pad_at made links a) ks))
          by true is = rest
          by false is = (λ m. again (inside_by_pads made links a sink.element ks m), rest)
            where
              again : LeadsBy made links a sink.element ks → ⊥
              again l =
                  o.0
                  (subst (λ (n : ℕ). IsMember n ks)
                  (sym (ap (λ (place : PadPlace). place.pad) (one_source (place_at a k) (place_at a l.pad) sink l.sink at l.linked (sym l.element) is))) l.among)

  -- no link leads to what begins a bag over no lane
  pub none_leads : (head : ℕ) → Begins made links head → (a : ℕ) → LeadsInside made links a head → ⊥
  none_leads head (inl is) a l =
      no_head_there (slice_get made head) l.sink.pad is l.inner
      (subst (λ (n : ℕ). l.sink.pad < sinks_at made n) l.element (sink_there made links all (place_at a l.pad) l.sink l.linked))
  none_leads head (inr loose) a l =
      let there = subst (λ (n : ℕ). l.sink.pad < sinks_at made n) l.element (sink_there made links all (place_at a l.pad) l.sink l.linked) in
      let first : l.sink ≡ place_at head 0 = alike l.sink (place_at head 0) l.element (only_sink (slice_get made head) l.sink.pad l.inner there) in
      let free = is_free (has is_head made head) (source_before links (place_at head 0)) loose.loose in
      none_some (sym free ∙ ap (source_before links) (sym first) ∙ once.there (place_at a l.pad) l.sink l.linked)

  -- behind each head
  pub is_tree : (head : ℕ) → Begins made links head → IsTree (λ a. inside (pads_of made links a)) head
  is_tree head is = record {
    each = λ a. once_inside a (range_with_len 0 (source_count made a)) (range_once 0 (source_count made a));
    one = λ a b d m n. one_leads a b d (inside_leads made links a d m) (inside_leads made links b d n);
    no_head = λ a m. none_leads head is a (inside_leads made links a head m);
  }

-- what a head reaches is there
pub reached_there : (made : List Made) (links : List PadLink) → All (HasPads made) links → (head : ℕ) → head < length made → (e : ℕ) → Reaches made links head e → e < length made
reached_there made links all head there e Reaches.itself = there
reached_there made links all head there e (Reaches.further a d r l) = by (slice_get made e) refl (subst (λ (n : ℕ). l.sink.pad < sinks_at made n) l.element (sink_there made links all (place_at a l.pad) l.sink l.linked))
  where
    by : (found : Option Made) → slice_get made e ≡ found → l.sink.pad < option_map_or (λ (m : Made). sink_pads m.settings) found 0 → e < length made
    by None at w = absurd (omega (arith, w))
    by (Some m) at w = slice_get_within made e m at

-- one more source pad of an element
abbrev pub leading : BagLink → BagPad
leading leads = record { leads = leads }

pub pads_more : (made : List Made) (links : List PadLink) (e k : ℕ) (pads pads' : List BagPad) (leads : BagLink) → pads ≡ map (pad_at made links e) (range_with_len 0 k)
    → leads ≡ link_to made (sink_behind links (place_at e k)) → pads' ≡ pads ++ leading leads ∷ [] → pads' ≡ map (pad_at made links e) (range_with_len 0 (k + 1))
pads_more made links e k pads pads' leads before is put =
    put ∙ ap (λ (ps : List BagPad). ps ++ leading leads ∷ []) before ∙ ap (λ (l : BagLink). map (pad_at made links e) (range_with_len 0 k) ++ leading l ∷ []) is
    ∙ sym (map-range_with_len_more (pad_at made links e) 0 k k (omega arith))
