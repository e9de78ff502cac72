-- What is kept of the feeders behind each change of the graph.
use Rattle.std.proofs.Common.{◌≡◌, ◌⊎◌, ◌≤◌, ◌+◌, ◌++◌, ◌||◌, ℕ, zero, suc, Bool, true, false, if◌then◌else◌, eqb, List, [], ◌∷◌, Option, None, Some, get_or, length, map, replicate, refl, sym, ap, ◌∙◌, subst, inl, inr, arith}
use Rattle.std.specs.Prelude.{◌==◌, slice_get, slice_set, take}
use Rattle.std.specs.List.{range_with_len}
use Rattle.std.proofs.lemmas.Bool.Decides.{eqb_tells}
use Rattle.std.proofs.lemmas.List.{get_or_past, length-append, length-replicate, length-set}
use Rattle.std.proofs.lemmas.List.FromFn.{get_or-map-range_with_len, length-map-range_with_len}
use Rattle.std.proofs.lemmas.Option.{slice_get_within}
use Rattle.flow_model.specs.Item.{Item}
use Rattle.flow_model.specs.Link.{Span, Linked}
use Rattle.flow_model.specs.Sticky.{stickies}
use Rattle.gst_item.specs.Item.{has_item}
use Rattle.graph_core.specs.Elements.{Made}
use Rattle.graph_core.specs.GraphPlan.{pad_id, sink_at, sink_count, spans_from}
use Rattle.graph_pads.specs.Links.{source_before}
use Rattle.graph_pads.specs.declared.pad.PadLink.{PadLink}
use Rattle.graph_pads.specs.declared.pad.PadPlace.{PadPlace}
use Rattle.el_settings.specs.Asked.{sink_pads}
use Rattle.flow_model.specs.Edit.{undo}
use Rattle.flow_model.specs.Standing.{is_linked, links_from}
use Rattle.graph_edits.specs.Edited.{Edited, added, linked_at, spans_at, unedited, unlinked_at}
use Rattle.graph_edits.specs.Growing.{IsKept}
use Rattle.graph_edits.specs.Refused.{first_giver}
use Rattle.graph_edits.proofs.Keeping.{below_or_not, linked_spans, undone_at}
use Rattle.edit_core.specs.Feeds.{AreKept, IsBegun, IsFeed, IsTheLink, closed, given_by, has_given, no_feed}
use Rattle.edit_core.specs.declared.feeds.Feed.{Feed}
use Rattle.edit_core.proofs.Lists.{more_at, no_some, set_here, set_there, told}
use Rattle.gst_value.proofs.Basics.{some_same}
use Rattle.edit_core.proofs.Spans.{free_begun, linked_begun, linked_closed, undone_begun, undone_giver, undone_none}

-- what is kept of a sink pad, where it is one of which something is kept
abbrev pub kept_at : List Feed → PadPlace → Option Feed
kept_at feeds sink = if sink.pad == 0 then slice_get feeds sink.element else None

-- then it is the first of its element
first_at : (feeds : List Feed) (sink : PadPlace) (feed : Feed) → kept_at feeds sink ≡ Some feed → (sink.pad ≡ 0) × (slice_get feeds sink.element ≡ Some feed)
first_at feeds sink feed at = go (eqb_tells sink.pad 0) at
  where
    go : ((eqb sink.pad 0 ≡ true) × (sink.pad ≡ 0)) ⊎ ((eqb sink.pad 0 ≡ false) × (sink.pad ≡ 0 → ⊥)) → (if eqb sink.pad 0 then slice_get feeds sink.element else None) ≡ Some feed
        → (sink.pad ≡ 0) × (slice_get feeds sink.element ≡ Some feed)
    go (inl t) at = (t.1, rw t.0 at at)
    go (inr t) at = absurd (no_some (sym (rw t.0 at at)))

at_first : (feeds : List Feed) (sink : PadPlace) (e : ℕ) → sink_at e 0 ≡ sink → kept_at feeds sink ≡ slice_get feeds e
at_first feeds sink e same = subst (λ (s : PadPlace). kept_at feeds s ≡ slice_get feeds e) same refl

same_place : (sink : PadPlace) (e : ℕ) → sink.pad ≡ 0 → e ≡ sink.element → sink_at e 0 ≡ sink
same_place sink e pad element = ap (λ (n : ℕ). sink_at n 0) element ∙ ap (λ (n : ℕ). sink_at sink.element n) (sym pad)

module _ (feeds : List Feed) (g : Edited) (h : ℕ → List Item) (are : AreKept feeds g h) where
  -- ---- a link that is undone
  module _ (kept : IsKept h g) (source sink : PadPlace) (items : ℕ) (eos : Bool) (all : items ≡ length (h (pad_id source))) (the : IsTheLink g source sink) where
    after : (e : ℕ) → spans_at (unlinked_at source items eos g) (sink_at e 0) ≡ map (undo (pad_id source) items eos) (spans_at g (sink_at e 0))
    after e = undone_at (pad_id source) items eos (g.spans e) 0

    other_feed : (e : ℕ) (feed : Feed) → (sink_at e 0 ≡ sink → ⊥) → slice_get feeds e ≡ Some feed → IsFeed h feed (spans_at (unlinked_at source items eos g) (sink_at e 0))
    other_feed e feed other at =
        subst (λ (ss : List Span). IsFeed h feed ss) (sym (after e ∙ undone_none (pad_id source) items eos (spans_at g (sink_at e 0)) (none (told (links_from (pad_id source) (spans_at g (sink_at e 0)))))))
        (are.each e feed at)
      where
        none : (links_from (pad_id source) (spans_at g (sink_at e 0)) ≡ true) ⊎ (links_from (pad_id source) (spans_at g (sink_at e 0)) ≡ false) → links_from (pad_id source) (spans_at g (sink_at e 0)) ≡ false
        none (inl is) = absurd (other (the.only (sink_at e 0) is))
        none (inr is) = is

    own_feed : (e : ℕ) (feed : Feed) → sink_at e 0 ≡ sink → slice_get feeds e ≡ Some feed
        → IsFeed h (record feed { first = given_by feed.first (pad_id source) (has_given feed items || eos) }) (spans_at (unlinked_at source items eos g) (sink_at e 0))
    own_feed e feed same at =
        let there : links_from (pad_id source) (spans_at g (sink_at e 0)) ≡ true = subst (λ (s : PadPlace). links_from (pad_id source) (spans_at g s) ≡ true) (sym same) the.there in
        let was = are.each e feed at in
        let within = kept.within (sink_at e 0) in
        record {
          first = ap (λ (o : Option ℕ). given_by o (pad_id source) (has_given feed items || eos)) was.first
              ∙ sym (ap (λ (ss : List Span). first_giver h (closed ss)) (after e)
              ∙ undone_giver h (pad_id source) feed.from feed.opened items eos all (spans_at g (sink_at e 0)) within was.begun there);
          begun = subst (λ (ss : List Span). IsBegun h feed.from feed.opened ss) (sym (after e))
              (undone_begun h (pad_id source) feed.from feed.opened feed.from items eos feed.opened (spans_at g (sink_at e 0)) within there);
        }

    pub undone_here : (feed : Feed) → kept_at feeds sink ≡ Some feed
        → AreKept (slice_set feeds sink.element (record feed { first = given_by feed.first (pad_id source) (has_given feed items || eos) })) (unlinked_at source items eos g) h
    undone_here feed at = record {
      count = length-set feeds sink.element _ ∙ are.count;
      each = λ e other is. by e other is (eqb_tells e sink.element);
    }
      where
        own : (sink.pad ≡ 0) × (slice_get feeds sink.element ≡ Some feed)
        own = first_at feeds sink feed at

        by : (e : ℕ) (other : Feed) → slice_get (slice_set feeds sink.element (record feed { first = given_by feed.first (pad_id source) (has_given feed items || eos) })) e ≡ Some other
            → ((eqb e sink.element ≡ true) × (e ≡ sink.element)) ⊎ ((eqb e sink.element ≡ false) × (e ≡ sink.element → ⊥)) → IsFeed h other (spans_at (unlinked_at source items eos g) (sink_at e 0))
        by e other is (inl t) =
            let at_e : slice_get feeds e ≡ Some feed = ap (slice_get feeds) t.1 ∙ own.1 in
            let here : slice_get (slice_set feeds sink.element (record feed { first = given_by feed.first (pad_id source) (has_given feed items || eos) })) e
            ≡ Some (record feed { first = given_by feed.first (pad_id source) (has_given feed items || eos) }) =
            ap (slice_get (slice_set feeds sink.element (record feed { first = given_by feed.first (pad_id source) (has_given feed items || eos) }))) t.1
            ∙ set_here feeds sink.element (record feed { first = given_by feed.first (pad_id source) (has_given feed items || eos) }) (slice_get_within feeds sink.element feed own.1) in
            let same : record feed { first = given_by feed.first (pad_id source) (has_given feed items || eos) } ≡ other = some_same (sym here ∙ is) in
            subst (λ (f : Feed). IsFeed h f (spans_at (unlinked_at source items eos g) (sink_at e 0))) same (own_feed e feed (same_place sink e own.0 t.1) at_e)
        by e other is (inr t) =
            other_feed e other (λ same. t.1 (ap (λ (s : PadPlace). s.element) same)) (sym (set_there feeds sink.element e _ t.1) ∙ is)

    pub undone_elsewhere : kept_at feeds sink ≡ None → AreKept feeds (unlinked_at source items eos g) h
    undone_elsewhere none = record {
      count = are.count;
      each = λ e feed at. other_feed e feed (λ same. no_some (sym at ∙ sym (at_first feeds sink e same) ∙ none)) at;
    }

  -- ---- a link that is made
  module _ (source sink : PadPlace) (items : ℕ) (opened : Bool) (free : is_linked (spans_at g sink) ≡ false) (is_opened : opened ≡ has_item (stickies (take items (h (pad_id source))))) where
    untouched : (e : ℕ) (feed : Feed) → (sink_at e 0 ≡ sink → ⊥) → slice_get feeds e ≡ Some feed → IsFeed h feed (spans_at (linked_at source items sink g) (sink_at e 0))
    untouched e feed other at = go (linked_spans g source items sink (sink_at e 0))
      where
        go : (spans_at (linked_at source items sink g) (sink_at e 0) ≡ spans_at g (sink_at e 0))
            ⊎ ((sink_at e 0 ≡ sink) × (spans_at (linked_at source items sink g) (sink_at e 0) ≡ spans_at g (sink_at e 0) ++ Linked (pad_id source) items [] ∷ []))
            → IsFeed h feed (spans_at (linked_at source items sink g) (sink_at e 0))
        go (inl same) = subst (λ (ss : List Span). IsFeed h feed ss) (sym same) (are.each e feed at)
        go (inr more) = absurd (other more.0)

    linked_own : (e : ℕ) (feed : Feed) → sink_at e 0 ≡ sink → slice_get feeds e ≡ Some feed
        → IsFeed h (record feed { from = items; opened = opened }) (spans_at (linked_at source items sink g) (sink_at e 0))
    linked_own e feed same at = go (linked_spans g source items sink (sink_at e 0))
      where
        free_here : is_linked (spans_at g (sink_at e 0)) ≡ false
        free_here = subst (λ (s : PadPlace). is_linked (spans_at g s) ≡ false) (sym same) free

        go : (spans_at (linked_at source items sink g) (sink_at e 0) ≡ spans_at g (sink_at e 0))
            ⊎ ((sink_at e 0 ≡ sink) × (spans_at (linked_at source items sink g) (sink_at e 0) ≡ spans_at g (sink_at e 0) ++ Linked (pad_id source) items [] ∷ []))
            → IsFeed h (record feed { from = items; opened = opened }) (spans_at (linked_at source items sink g) (sink_at e 0))
        go (inl stays) = subst (λ (ss : List Span). IsFeed h (record feed { from = items; opened = opened }) ss) (sym stays)
            (record { first = (are.each e feed at).first; begun = free_begun h items opened (spans_at g (sink_at e 0)) free_here })
        go (inr more) = subst (λ (ss : List Span). IsFeed h (record feed { from = items; opened = opened }) ss) (sym more.1)
            (record {
              first = (are.each e feed at).first ∙ ap (first_giver h) (sym (linked_closed (pad_id source) items (spans_at g (sink_at e 0))));
              begun = linked_begun h (pad_id source) items opened is_opened (spans_at g (sink_at e 0)) free_here;
            })

    pub linked_here : (feed : Feed) → kept_at feeds sink ≡ Some feed → AreKept (slice_set feeds sink.element (record feed { from = items; opened = opened })) (linked_at source items sink g) h
    linked_here feed at = record {
      count = length-set feeds sink.element _ ∙ are.count;
      each = λ e other is. by e other is (eqb_tells e sink.element);
    }
      where
        own : (sink.pad ≡ 0) × (slice_get feeds sink.element ≡ Some feed)
        own = first_at feeds sink feed at

        by : (e : ℕ) (other : Feed) → slice_get (slice_set feeds sink.element (record feed { from = items; opened = opened })) e ≡ Some other
            → ((eqb e sink.element ≡ true) × (e ≡ sink.element)) ⊎ ((eqb e sink.element ≡ false) × (e ≡ sink.element → ⊥)) → IsFeed h other (spans_at (linked_at source items sink g) (sink_at e 0))
        by e other is (inl t) =
            let at_e : slice_get feeds e ≡ Some feed = ap (slice_get feeds) t.1 ∙ own.1 in
            let here : slice_get (slice_set feeds sink.element (record feed { from = items; opened = opened })) e ≡ Some (record feed { from = items; opened = opened }) =
            ap (slice_get (slice_set feeds sink.element (record feed { from = items; opened = opened }))) t.1
            ∙ set_here feeds sink.element (record feed { from = items; opened = opened }) (slice_get_within feeds sink.element feed own.1) in
            let same : record feed { from = items; opened = opened } ≡ other = some_same (sym here ∙ is) in
            subst (λ (f : Feed). IsFeed h f (spans_at (linked_at source items sink g) (sink_at e 0))) same (linked_own e feed (same_place sink e own.0 t.1) at_e)
        by e other is (inr t) =
            untouched e other (λ same. t.1 (ap (λ (s : PadPlace). s.element) same)) (sym (set_there feeds sink.element e _ t.1) ∙ is)

    pub linked_elsewhere : kept_at feeds sink ≡ None → AreKept feeds (linked_at source items sink g) h
    linked_elsewhere none = record {
      count = are.count;
      each = λ e feed at. untouched e feed (λ same. no_some (sym at ∙ sym (at_first feeds sink e same) ∙ none)) at;
    }

  -- ---- an element that is added
  pub added_behind : (m : Made) → AreKept (feeds ++ no_feed ∷ []) (added m g) h
  added_behind m = record {
    count = length-append feeds (no_feed ∷ []) ∙ ap (λ (n : ℕ). n + 1) are.count ∙ sym (length-append g.made (m ∷ []));
    each = λ e feed at. by e feed (more_at feeds no_feed e feed at);
  }
    where
      none_at : (n : ℕ) → get_or (replicate n []) 0 [] ≡ spans_from None
      none_at zero = refl
      none_at (suc n) = refl

      by : (e : ℕ) (feed : Feed) → (slice_get feeds e ≡ Some feed) ⊎ ((e ≡ length feeds) × (no_feed ≡ feed)) → IsFeed h feed (spans_at (added m g) (sink_at e 0))
      by e feed (inl at) = go (eqb_tells e (length g.made))
        where
          go : ((eqb e (length g.made) ≡ true) × (e ≡ length g.made)) ⊎ ((eqb e (length g.made) ≡ false) × (e ≡ length g.made → ⊥)) → IsFeed h feed (spans_at (added m g) (sink_at e 0))
          go (inl t) = absurd (let low = slice_get_within feeds e feed at in let count = are.count in let here = t.1 in omega (arith, low, count, here))
          go (inr t) = rw t.0 (are.each e feed at)
      by e feed (inr last) = go (eqb_tells e (length g.made))
        where
          go : ((eqb e (length g.made) ≡ true) × (e ≡ length g.made)) ⊎ ((eqb e (length g.made) ≡ false) × (e ≡ length g.made → ⊥)) → IsFeed h feed (spans_at (added m g) (sink_at e 0))
          go (inl t) =
              let empty : spans_at (added m g) (sink_at e 0) ≡ spans_from None = rw t.0 (none_at (sink_pads m.settings)) in
              subst (λ (ss : List Span). IsFeed h feed ss) (sym empty) (subst (λ (f : Feed). IsFeed h f (spans_from None)) last.1 (record { first = refl; begun = tt }))
          go (inr t) = absurd (t.1 (last.0 ∙ are.count))

-- ---- from the start

pub first_feed : (h : ℕ → List Item) (o : Option PadPlace) → IsFeed h no_feed (spans_from o)
unfolding stickies
first_feed h None = record { first = refl; begun = tt }
first_feed h (Some source) = record { first = refl; begun = (refl, refl, tt) }

pub begins : (made : List Made) (links : List PadLink) (h : ℕ → List Item) (n : ℕ) (feeds : List Feed) → length made ≡ n → feeds ≡ replicate n no_feed → AreKept feeds (unedited made links) h
begins made links h n feeds long is = record {
  count = ap length is ∙ length-replicate n no_feed ∙ sym long;
  each = λ e feed at. subst (λ (f : Feed). IsFeed h f (spans_at (unedited made links) (sink_at e 0))) (all_same n e feed (ap (λ (fs : List Feed). slice_get fs e) (sym is) ∙ at)) (first_spans e);
}
  where
    all_same : (n e : ℕ) (feed : Feed) → slice_get (replicate n no_feed) e ≡ Some feed → no_feed ≡ feed
    all_same zero e feed at = absurd cc
    all_same (suc n) zero feed at = cc
    all_same (suc n) (suc e) feed at = all_same n e feed at

    first_spans : (e : ℕ) → IsFeed h no_feed (spans_at (unedited made links) (sink_at e 0))
    first_spans e = go (below_or_not 0 (sink_count (slice_get made e)))
      where
        go : (1 ≤ sink_count (slice_get made e)) ⊎ (sink_count (slice_get made e) ≤ 0) → IsFeed h no_feed (spans_at (unedited made links) (sink_at e 0))
        go (inl below) =
            subst (λ (ss : List Span). IsFeed h no_feed ss)
            (sym (get_or-map-range_with_len (λ k. spans_from (source_before links (sink_at e k))) 0 (sink_count (slice_get made e)) 0 0 [] below (omega arith)))
            (first_feed h (source_before links (sink_at e 0)))
        go (inr past) =
            let all = map (λ k. spans_from (source_before links (sink_at e k))) (range_with_len 0 (sink_count (slice_get made e))) in
            let long : length all ≡ sink_count (slice_get made e) = length-map-range_with_len (λ k. spans_from (source_before links (sink_at e k))) 0 (sink_count (slice_get made e)) in
            subst (λ (ss : List Span). IsFeed h no_feed ss) (sym (get_or_past all 0 [] (omega (arith, long)))) (first_feed h None)
