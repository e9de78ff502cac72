-- Each link of an edited graph stands among the spans of its sink pad, from the start on and behind each answer.
use Rattle.std.proofs.Common.{◌≡◌, ◌⊎◌, ℕ, zero, suc, ◌<◌, Bool, true, false, not, if◌then◌else◌, eqb, List, [], ◌∷◌, ◌++◌, Option, None, Some, length, map, replicate, refl, sym, ap, ◌∙◌, subst, inl, inr, arith, get_or, slice_get}
use Rattle.std.specs.Prelude.{All, is_some, position}
use Rattle.std.specs.List.{range_with_len}
use Rattle.std.specs.Option.{option_map_or}
use Rattle.std.proofs.lemmas.Bool.{true≢false, false≢true}
use Rattle.std.proofs.lemmas.Bool.Decides.{eqb_tells}
use Rattle.std.proofs.lemmas.List.{length-map, length-replicate, length_push, nil_from_length}
use Rattle.std.proofs.lemmas.List.FromFn.{get_or-map-range_with_len, length-map-range_with_len, length-range_with_len}
use Rattle.std.proofs.lemmas.List.Quantifiers.{position-Some}
use Rattle.std.proofs.lemmas.Option.{get_or_from_slice_get, slice_get_past, slice_get_within}
use Rattle.flow_model.specs.Item.{Item}
use Rattle.flow_model.specs.Link.{Span, Linked, WasLinked, Flushed, Given}
use Rattle.graph_core.specs.Elements.{Made}
use Rattle.graph_core.specs.Ends.{pads_at}
use Rattle.graph_core.specs.GraphPlan.{most_pads, pad_id, sink_at, sink_count, spans_from}
use Rattle.graph_core.specs.LinkedOnce.{AreOnce}
use Rattle.graph_core.specs.Links.{HasPads}
use Rattle.graph_core.proofs.LinkedOnce.{itself, place_of, same_or_other}
use Rattle.graph_core.proofs.NumberedPads.{same_pad}
use Rattle.graph_pads.specs.Links.{is_same, source_before}
use Rattle.graph_pads.specs.Pads.{pad_count, pad_text}
use Rattle.graph_pads.specs.declared.pad.Direction.{Direction}
use Rattle.graph_pads.specs.declared.pad.Direction.TheVariants.{Source, Sink}
use Rattle.graph_pads.specs.declared.pad.PadLink.{PadLink}
use Rattle.graph_pads.specs.declared.pad.PadPlace.{PadPlace}
use Rattle.gst_value.proofs.Basics.{number_itself, some_same}
use Rattle.gst_value.specs.declared.name.PadName.{PadName}
use Rattle.el_settings.specs.Asked.{sink_pads}
use Rattle.el_settings.proofs.Padded.{few_sources}
use Rattle.flow_model.specs.Edit.{push_span, undo}
use Rattle.flow_model.specs.Standing.{is_linked, links_from}
use Rattle.script_text.specs.declared.answer.Answer.{Answer}
use Rattle.script_text.specs.declared.answer.Entry.{Entry}
use Rattle.script_text.specs.declared.command.Act.{Act}
use Rattle.script_text.specs.declared.command.Command.{Command}
use Rattle.script_text.specs.declared.command.When.{When}
use Rattle.std.specs.Prelude.{bytes_eq, option_and_then}
use Rattle.std.specs.Option.{option_map}
use Rattle.graph_edits.specs.Edited.{Edited, added, linked_at, link_between, relinked_at, spans_at, unedited, unlinked_at, without}
use Rattle.graph_edits.specs.Growing.{AreExact, AreSingle, AreWithin, IsKept, LinksStand, LinksStayExact}
use Rattle.graph_edits.specs.Lawful.{AreAnswered, IsAnswered, Makes, Reaches}
use Rattle.graph_edits.specs.Names.{element_named, pad_in, pad_named}
use Rattle.graph_edits.proofs.Following.{get_front, get_last}
use Rattle.graph_edits.proofs.Keeping.{free_at, from_none, linked_spans, none_before, none_push, not_taken, some_push, undone_at}

-- nothing is None and Some at once
pub no_some : {A : Type 0} {x : A} → Some x ≡ None → ⊥
no_some e = cc

-- ---- the spans of one sink pad

-- a link of another source pad stays where one is undone
undo_same : (p q place : ℕ) (eos : Bool) → (p ≡ q → ⊥) → (ss : List Span) → links_from q (map (undo p place eos) ss) ≡ links_from q ss
undo_same p q place eos n [] = refl
undo_same p q place eos n (Linked source from marks ∷ ss) = go (eqb_tells source p) (eqb_tells source q) (undo_same p q place eos n ss)
  where
    go : ((eqb source p ≡ true) × (source ≡ p)) ⊎ ((eqb source p ≡ false) × (source ≡ p → ⊥)) → ((eqb source q ≡ true) × (source ≡ q)) ⊎ ((eqb source q ≡ false) × (source ≡ q → ⊥))
        → links_from q (map (undo p place eos) ss) ≡ links_from q ss
        → links_from q ((if eqb source p then WasLinked source from place eos marks else Linked source from marks) ∷ map (undo p place eos) ss) ≡ (if eqb source q then true else links_from q ss)
    go (inl t) (inl u) rest = absurd (n (sym t.1 ∙ u.1))
    go (inl t) (inr u) rest = rw (t.0, u.0) rest
    go (inr t) u rest = rw t.0 (ap (λ (b : Bool). if eqb source q then true else b) rest)
undo_same p q place eos n (WasLinked source from to ended marks ∷ ss) = undo_same p q place eos n ss
undo_same p q place eos n (Flushed number ∷ ss) = undo_same p q place eos n ss
undo_same p q place eos n (Given calls ∷ ss) = undo_same p q place eos n ss

-- a link that is made stands
push_stands : (p place : ℕ) (ss : List Span) → links_from p (ss ++ Linked p place [] ∷ []) ≡ true
push_stands p place [] = rw (number_itself p) refl
push_stands p place (Linked source from marks ∷ ss) = go (eqb source p) (push_stands p place ss)
  where
    go : (b : Bool) → links_from p (ss ++ Linked p place [] ∷ []) ≡ true → (if b then true else links_from p (ss ++ Linked p place [] ∷ [])) ≡ true
    go true e = refl
    go false e = e
push_stands p place (WasLinked source from to eos marks ∷ ss) = push_stands p place ss
push_stands p place (Flushed number ∷ ss) = push_stands p place ss
push_stands p place (Given calls ∷ ss) = push_stands p place ss

-- two source pads of which a link stands are one, where only the last span stands
one_stands : (h : ℕ → List Item) (p q : ℕ) (ss : List Span) → AreWithin h ss → links_from p ss ≡ true → links_from q ss ≡ true → p ≡ q
one_stands h p q [] w e f = absurd (false≢true e)
one_stands h p q (Linked source from marks ∷ ss) w e f = go (eqb_tells source p) (eqb_tells source q) (rw w.1 at e) (rw w.1 at f)
  where
    go : ((eqb source p ≡ true) × (source ≡ p)) ⊎ ((eqb source p ≡ false) × (source ≡ p → ⊥)) → ((eqb source q ≡ true) × (source ≡ q)) ⊎ ((eqb source q ≡ false) × (source ≡ q → ⊥))
        → (if eqb source p then true else false) ≡ true → (if eqb source q then true else false) ≡ true → p ≡ q
    go (inl t) (inl u) e f = sym t.1 ∙ u.1
    go (inr t) u e f = absurd (false≢true (rw t.0 at e))
    go (inl t) (inr u) e f = absurd (false≢true (rw u.0 at f))
one_stands h p q (WasLinked source from to eos marks ∷ ss) w e f = one_stands h p q ss w.2 e f
one_stands h p q (Flushed number ∷ ss) w e f = one_stands h p q ss w e f
one_stands h p q (Given calls ∷ ss) w e f = one_stands h p q ss w e f

-- ---- the sink pads of an element

push_length : (i : ℕ) (s : Span) (sss : List (List Span)) → length (push_span i s sss) ≡ length sss
push_length i s [] = refl
push_length zero s (ss ∷ sss) = refl
push_length (suc i) s (ss ∷ sss) = ap suc (push_length i s sss)

pushed_here : (i : ℕ) (s : Span) (sss : List (List Span)) → i < length sss → get_or (push_span i s sss) i [] ≡ get_or sss i [] ++ s ∷ []
pushed_here i s [] within = absurd (omega arith)
pushed_here zero s (ss ∷ sss) within = refl
pushed_here (suc i) s (ss ∷ sss) within = pushed_here i s sss (omega arith)

-- ---- links

-- what is left where a link is undone was there, and is that of another source pad
pub rest_other : (source sink found : PadPlace) (links : List PadLink) → AreSingle links → source_before (without source links) sink ≡ Some found
    → (is_same found source ≡ false) × (source_before links sink ≡ Some found)
rest_other source sink found [] single e = absurd (no_some (sym e))
rest_other source sink found (link ∷ links) single e = go (same_or_other link.sink sink) (is_same link.source source) refl e (rest_other source sink found links single.2)
  where
    kept : (a : Bool) → is_same link.sink sink ≡ a → is_same link.source source ≡ false → (if a then Some link.source else source_before (without source links) sink) ≡ Some found
        → (source_before (without source links) sink ≡ Some found → (is_same found source ≡ false) × (source_before links sink ≡ Some found))
        → (is_same found source ≡ false) × ((if a then Some link.source else source_before links sink) ≡ Some found)
    kept true is other e rest = (subst (λ (place : PadPlace). is_same place source ≡ false) (some_same e) other, e)
    kept false is other e rest = rest e

    go : ((is_same link.sink sink ≡ true) × (link.sink ≡ sink)) ⊎ (is_same link.sink sink ≡ false) → (b : Bool) → is_same link.source source ≡ b
        → source_before (if not b then link ∷ without source links else without source links) sink ≡ Some found
        → (source_before (without source links) sink ≡ Some found → (is_same found source ≡ false) × (source_before links sink ≡ Some found))
        → (is_same found source ≡ false) × ((if is_same link.sink sink then Some link.source else source_before links sink) ≡ Some found)
    go (inl t) true dropped e rest = absurd (no_some (sym (rest e).1 ∙ ap (source_before links) (sym t.1) ∙ single.1))
    go (inr t) true dropped e rest = let r = rest e in (r.0, rw t r.1)
    go either false other e rest = kept (is_same link.sink sink) refl other e rest

-- the source pad of a link is one that an element can have
pub few_of : (links : List PadLink) (sink found : PadPlace) → AreSingle links → source_before links sink ≡ Some found → found.pad < most_pads
few_of [] sink found single e = absurd (no_some (sym e))
few_of (link ∷ links) sink found single e = go (is_same link.sink sink) e (few_of links sink found single.2)
  where
    go : (b : Bool) → (if b then Some link.source else source_before links sink) ≡ Some found → (source_before links sink ≡ Some found → found.pad < most_pads) → found.pad < most_pads
    go true e rest = subst (λ (place : PadPlace). place.pad < most_pads) (some_same e) single.0
    go false e rest = rest e

single_without : (source : PadPlace) (links : List PadLink) → AreSingle links → AreSingle (without source links)
single_without source [] single = tt
single_without source (link ∷ links) single = go (is_same link.source source) (single_without source links single.2)
  where
    go : (b : Bool) → AreSingle (without source links) → AreSingle (if not b then link ∷ without source links else without source links)
    go true rest = rest
    go false rest = (single.0, none_before source link.sink links single.1, rest)

single_push : (links : List PadLink) (more : PadLink) → more.source.pad < most_pads → source_before links more.sink ≡ None → AreSingle links → AreSingle (links ++ more ∷ [])
single_push [] more few free single = (few, refl, tt)
single_push (link ∷ links) more few free single = go (same_or_other link.sink more.sink) (same_or_other more.sink link.sink) free (λ none. single_push links more few none single.2)
  where
    go : ((is_same link.sink more.sink ≡ true) × (link.sink ≡ more.sink)) ⊎ (is_same link.sink more.sink ≡ false) → ((is_same more.sink link.sink ≡ true) × (more.sink ≡ link.sink)) ⊎ (is_same more.sink link.sink ≡ false)
        → (if is_same link.sink more.sink then Some link.source else source_before links more.sink) ≡ None → (source_before links more.sink ≡ None → AreSingle (links ++ more ∷ [])) → AreSingle ((link ∷ links) ++ more ∷ [])
    go (inl t) u free rest = absurd (no_some (rw t.0 at free))
    go (inr t) (inl u) free rest = absurd (true≢false (sym (itself link.sink) ∙ ap (is_same link.sink) (sym u.1) ∙ t))
    go (inr t) (inr u) free rest = (
      single.0,
      none_push links more link.sink single.1 ∙ ap (λ (b : Bool). if b then Some more.source else None) u,
      rest (rw t at free),
    )

-- ---- pads that are named

-- a pad that is named is one that its element has
abbrev pub Has : Direction → Edited → PadPlace → Type 0
Has direction g place = (m : Made) × (slice_get g.made place.element ≡ Some m) × (place.pad < pad_count direction m.settings)

pub named_in : (direction : Direction) (g : Edited) (name : PadName) (place : PadPlace) → pad_named direction g name ≡ Some place → Has direction g place
named_in direction g name place e = by_element (element_named g name.element) e
  where
    pad_of : (element : ℕ) (m : Made) → slice_get g.made element ≡ Some m → (o : Option ℕ)
        → position (λ n. bytes_eq name.pad (pad_text direction m.settings n)) (range_with_len 0 (pad_count direction m.settings)) ≡ o
        → option_map {U = PadPlace} (λ n. place_of element n) o ≡ Some place → (m : Made) × (slice_get g.made place.element ≡ Some m) × (place.pad < pad_count direction m.settings)
    pad_of element m made None found e = absurd (no_some (sym e))
    pad_of element m made (Some k) found e =
        let at = position-Some (λ (n : ℕ). bytes_eq name.pad (pad_text direction m.settings n)) (range_with_len 0 (pad_count direction m.settings)) k 0 found in
        let long = length-range_with_len 0 (pad_count direction m.settings) in
        let same : place_of element k ≡ place = some_same e in
        let first = at.0 in
        subst (λ (place : PadPlace). (m : Made) × (slice_get g.made place.element ≡ Some m) × (place.pad < pad_count direction m.settings)) same (m, made, omega (arith, first, long))

    by_made : (element : ℕ) (o : Option Made) → slice_get g.made element ≡ o → option_and_then (pad_in direction name.pad element) o ≡ Some place
        → (m : Made) × (slice_get g.made place.element ≡ Some m) × (place.pad < pad_count direction m.settings)
    by_made element None made e = absurd (no_some (sym e))
    by_made element (Some m) made e =
        pad_of element m made (position (λ n. bytes_eq name.pad (pad_text direction m.settings n)) (range_with_len 0 (pad_count direction m.settings))) refl e

    by_element : (o : Option ℕ) → option_and_then (λ e. option_and_then (pad_in direction name.pad e) (slice_get g.made e)) o ≡ Some place
        → (m : Made) × (slice_get g.made place.element ≡ Some m) × (place.pad < pad_count direction m.settings)
    by_element None e = absurd (no_some (sym e))
    by_element (Some element) e = by_made element (slice_get g.made element) refl e

pub source_few : (g : Edited) (name : PadName) (source : PadPlace) → pad_named Source g name ≡ Some source → source.pad < most_pads
unfolding Has
source_few g name source e = let has = named_in Source g name source e in let low = has.2 in let few = few_sources has.0.settings in omega (arith, low, few)

sink_there : (g : Edited) (name : PadName) (sink : PadPlace) → LinksStand g → pad_named Sink g name ≡ Some sink → sink.pad < length (g.spans sink.element)
unfolding Has
sink_there g name sink stand e =
    let has = named_in Sink g name sink e in
    let long : length (g.spans sink.element) ≡ sink_pads has.0.settings = stand.counted sink.element ∙ ap sink_count has.1 in
    let low = has.2 in
    omega (arith, long, low)

-- ---- what acts make of it

pub unlinked_stand : (g : Edited) (source : PadPlace) (place : ℕ) (eos : Bool) → source.pad < most_pads → LinksStand g → LinksStand (unlinked_at source place eos g)
unlinked_stand g source place eos few stand = record {
  counted = λ e. length-map (g.spans e) (map (undo (pad_id source) place eos)) ∙ stand.counted e;
  single = single_without source g.links stand.single;
  stands = stands;
}
  where
    stands : (found sink : PadPlace) → source_before (without source g.links) sink ≡ Some found → links_from (pad_id found) (spans_at (unlinked_at source place eos g) sink) ≡ true
    stands found sink e =
        let r = rest_other source sink found g.links stand.single e in
        ap (links_from (pad_id found)) (undone_at (pad_id source) place eos (g.spans sink.element) sink.pad)
        ∙ undo_same (pad_id source) (pad_id found) place eos (differ r.0 (few_of g.links sink found stand.single r.1)) (spans_at g sink)
        ∙ stand.stands found sink r.1
      where
        differ : is_same found source ≡ false → found.pad < most_pads → pad_id source ≡ pad_id found → ⊥
        differ other low same = true≢false (sym (itself source) ∙ ap (λ (place : PadPlace). is_same place source) (same_pad source found few low same) ∙ other)

pub linked_stand : (g : Edited) (source : PadPlace) (place : ℕ) (to : PadPlace) → source.pad < most_pads → to.pad < length (g.spans to.element) → source_before g.links to ≡ None
    → LinksStand g → LinksStand (linked_at source place to g)
linked_stand g source place to few there free stand = record {
  counted = λ e. counted e (eqb e to.element);
  single = single_push g.links (link_between source to) few free stand.single;
  stands = λ found sink e. stands found sink (source_before g.links sink) refl (linked_spans g source place to sink) e;
}
  where
    counted : (e : ℕ) (b : Bool) → length (if b then push_span to.pad (Linked (pad_id source) place []) (g.spans e) else g.spans e) ≡ sink_count (slice_get g.made e)
    counted e true = push_length to.pad (Linked (pad_id source) place []) (g.spans e) ∙ stand.counted e
    counted e false = stand.counted e

    here : spans_at (linked_at source place to g) to ≡ spans_at g to ++ Linked (pad_id source) place [] ∷ []
    here = rw (number_itself to.element) (pushed_here to.pad (Linked (pad_id source) place []) (g.spans to.element) there)

    stands : (found sink : PadPlace) (o : Option PadPlace) → source_before g.links sink ≡ o
        → (spans_at (linked_at source place to g) sink ≡ spans_at g sink) ⊎ ((sink ≡ to) × (spans_at (linked_at source place to g) sink ≡ spans_at g sink ++ Linked (pad_id source) place [] ∷ []))
        → source_before (g.links ++ link_between source to ∷ []) sink ≡ Some found → links_from (pad_id found) (spans_at (linked_at source place to g) sink) ≡ true
    stands found sink (Some old) was (inl same) e =
        let is : old ≡ found = some_same (sym (some_push g.links (link_between source to) sink old was) ∙ e) in
        ap (links_from (pad_id found)) same ∙ stand.stands found sink (was ∙ ap Some is)
    stands found sink (Some old) was (inr more) e = absurd (no_some (sym was ∙ ap (source_before g.links) more.0 ∙ free))
    stands found sink None was either e = made (same_or_other to sink) (sym (none_push g.links (link_between source to) sink was) ∙ e)
      where
        made : ((is_same to sink ≡ true) × (to ≡ sink)) ⊎ (is_same to sink ≡ false) → (if is_same to sink then Some source else None) ≡ Some found
            → links_from (pad_id found) (spans_at (linked_at source place to g) sink) ≡ true
        made (inl t) e =
            let is : source ≡ found = some_same (rw t.0 at e) in
            subst (λ (q : PadPlace). links_from (pad_id q) (spans_at (linked_at source place to g) sink) ≡ true) is
            (subst (λ (q : PadPlace). links_from (pad_id source) (spans_at (linked_at source place to g) q) ≡ true) t.1
            (ap (links_from (pad_id source)) here ∙ push_stands (pad_id source) place (spans_at g to)))
        made (inr t) e = absurd (no_some (sym (rw t at e)))

relinked_stand : (g : Edited) (source : PadPlace) (place : ℕ) (to : PadPlace) → source.pad < most_pads → to.pad < length (g.spans to.element) → source_before g.links to ≡ None
    → LinksStand g → LinksStand (relinked_at source place to g)
relinked_stand g source place to few there free stand =
    linked_stand (unlinked_at source place false g) source place to few (subst (λ n. to.pad < n) (sym (length-map (g.spans to.element) (map (undo (pad_id source) place false)))) there)
    (none_before source to g.links free) (unlinked_stand g source place false few stand)

added_stand : (g : Edited) (m : Made) → LinksStand g → LinksStand (added m g)
added_stand g m stand = record {
  counted = λ e. counted e (eqb_tells e (length g.made));
  single = stand.single;
  stands = λ source sink e. stands source sink e (eqb_tells sink.element (length g.made));
}
  where
    other_made : (e : ℕ) → (e ≡ length g.made → ⊥) → (e < length g.made) ⊎ (length g.made < e) → slice_get (g.made ++ m ∷ []) e ≡ slice_get g.made e
    other_made e n (inl low) = get_front g.made m e low
    other_made e n (inr high) = slice_get_past (g.made ++ m ∷ []) e (omega (arith, length_push g.made m)) ∙ sym (slice_get_past g.made e (omega arith))

    apart : (a b : ℕ) → (a ≡ b → ⊥) → (a < b) ⊎ (b < a)
    apart a b n = grind arith

    counted : (e : ℕ) → ((eqb e (length g.made) ≡ true) × (e ≡ length g.made)) ⊎ ((eqb e (length g.made) ≡ false) × (e ≡ length g.made → ⊥))
        → length (if eqb e (length g.made) then replicate (sink_pads m.settings) [] else g.spans e) ≡ sink_count (slice_get (g.made ++ m ∷ []) e)
    counted e (inl t) = rw t.0 (length-replicate (sink_pads m.settings) (spans_from None) ∙ ap sink_count (sym (get_last g.made m e t.1)))
    counted e (inr t) = rw t.0 (stand.counted e ∙ ap sink_count (sym (other_made e t.1 (apart e (length g.made) t.1))))

    none_yet : (sink : PadPlace) → sink.element ≡ length g.made → g.spans sink.element ≡ []
    none_yet sink is = nil_from_length (g.spans sink.element) (stand.counted sink.element ∙ ap sink_count (slice_get_past g.made sink.element (omega (arith, is))))

    stands : (source sink : PadPlace) → source_before g.links sink ≡ Some source
        → ((eqb sink.element (length g.made) ≡ true) × (sink.element ≡ length g.made)) ⊎ ((eqb sink.element (length g.made) ≡ false) × (sink.element ≡ length g.made → ⊥))
        → links_from (pad_id source) (spans_at (added m g) sink) ≡ true
    stands source sink e (inl t) =
        absurd (false≢true (sym (ap (λ (sss : List (List Span)). links_from (pad_id source) (get_or sss sink.pad [])) (none_yet sink t.1)) ∙ stand.stands source sink e))
    stands source sink e (inr t) = rw t.0 (stand.stands source sink e)

-- ---- from the start on

-- what is found before a sink pad is one of the links
before_at : (links : List PadLink) (sink source : PadPlace) → source_before links sink ≡ Some source
    → (k : ℕ) × (link : PadLink) × (slice_get links k ≡ Some link) × (link.source ≡ source) × (link.sink ≡ sink)
before_at [] sink source e = absurd (no_some (sym e))
before_at (link ∷ links) sink source e = go (same_or_other link.sink sink) e (before_at links sink source)
  where
    go : ((is_same link.sink sink ≡ true) × (link.sink ≡ sink)) ⊎ (is_same link.sink sink ≡ false) → (if is_same link.sink sink then Some link.source else source_before links sink) ≡ Some source
        → (source_before links sink ≡ Some source → (k : ℕ) × (other : PadLink) × (slice_get links k ≡ Some other) × (other.source ≡ source) × (other.sink ≡ sink))
        → (k : ℕ) × (other : PadLink) × (slice_get (link ∷ links) k ≡ Some other) × (other.source ≡ source) × (other.sink ≡ sink)
    go (inl t) e rest = (zero, link, refl, some_same (rw t.0 at e), t.1)
    go (inr t) e rest = let r = rest (rw t at e) in (suc r.0, r.1, r.2, r.3, r.4)

-- two links with a sink pad in common are one
abbrev SinksApart : List PadLink → Type 0
SinksApart links = (j k : ℕ) (link other : PadLink) → slice_get links j ≡ Some link → slice_get links k ≡ Some other → link.sink ≡ other.sink → j ≡ k

single_by : (links : List PadLink) → ((k : ℕ) (link : PadLink) → slice_get links k ≡ Some link → link.source.pad < most_pads) → SinksApart links → AreSingle links
single_by [] few apart = tt
single_by (link ∷ links) few apart = (
  few zero link refl,
  none (source_before links link.sink) refl,
  single_by links (λ k other is. few (suc k) other is) (λ j k one other is_one is_other same. let e = apart (suc j) (suc k) one other is_one is_other same in omega (arith, e)),
)
  where
    none : (o : Option PadPlace) → source_before links link.sink ≡ o → o ≡ None
    none None e = refl
    none (Some source) e =
        let r = before_at links link.sink source e in
        let same : zero ≡ suc r.0 = apart zero (suc r.0) link r.1 refl r.2 (sym r.4) in
        absurd (omega (arith, same))

begins_stand : (made : List Made) (links : List PadLink) → All (HasPads made) links → AreOnce links → LinksStand (unedited made links)
begins_stand made links pads once = record {
  counted = λ e. length-map-range_with_len (λ k. spans_from (source_before links (sink_at e k))) 0 (sink_count (slice_get made e));
  single = single_by links few (λ j k one other is_one is_other same. once.one j k one other is_one is_other (inr same));
  stands = stands;
}
  where
    has : (k : ℕ) (link : PadLink) → slice_get links k ≡ Some link → HasPads made link
    has k link is = subst (λ (l : PadLink). HasPads made l) (get_or_from_slice_get links k link link is) (pads k link (slice_get_within links k link is))

    few : (k : ℕ) (link : PadLink) → slice_get links k ≡ Some link → link.source.pad < most_pads
    few k link is = by (slice_get made link.source.element) (has k link is).0
      where
        by : (o : Option Made) → link.source.pad < option_map_or (λ (m : Made). pad_count Source m.settings) o 0 → link.source.pad < most_pads
        by None low = absurd (omega (arith, low))
        by (Some m) low = let most = few_sources m.settings in omega (arith, low, most)

    there : (sink : PadPlace) → (o : Option Made) → sink.pad < option_map_or (λ (m : Made). pad_count Sink m.settings) o 0 → sink.pad < sink_count o
    there sink None low = low
    there sink (Some m) low = low

    stands : (source sink : PadPlace) → source_before links sink ≡ Some source → links_from (pad_id source) (spans_at (unedited made links) sink) ≡ true
    stands source sink e =
        let r = before_at links sink source e in
        let low = subst (λ (place : PadPlace). place.pad < pads_at made Sink place.element) r.4 (has r.0 r.1 r.2).1 in
        let within = there sink (slice_get made sink.element) low in
        let first = get_or-map-range_with_len (λ k. spans_from (source_before links (sink_at sink.element k))) 0 (sink_count (slice_get made sink.element)) sink.pad sink.pad [] within (omega arith) in
        ap (links_from (pad_id source)) (first ∙ ap spans_from e) ∙ rw (number_itself (pad_id source)) refl

-- ---- behind answers

-- the source pad of a command is one that an element can have
abbrev pub IsFew : Option PadPlace → Type 0
IsFew None = Unit {0}
IsFew (Some source) = source.pad < most_pads

pub reached_few : (g : Edited) (h owed : ℕ → List Item) (when : When) (p : Option PadPlace) (place : ℕ) → Reaches g h owed when p place → IsFew p
reached_few g h owed when p place (Reaches.at pad n at source named is) = source_few g pad source named
reached_few g h owed when p place (Reaches.now_pad pad at source named is) = source_few g pad source named
reached_few g h owed when p place Reaches.now = tt

made_stand : (h : ℕ → List Item) (g : Edited) (p : Option PadPlace) (place : ℕ) (act : Act) (after : Edited) → Makes g h p place act after → IsFew p → LinksStand g → LinksStand after
made_stand h g p place act after (Makes.relinks sink source to at named linkable) few stand =
    relinked_stand g source at to few (sink_there g sink to stand named) (not_taken g to linkable.free) stand
made_stand h g p place act after (Makes.unlinks eos source to at behind) few stand = unlinked_stand g source at eos few stand
made_stand h g p place act after (Makes.adds q at kind props m is plain) few stand = added_stand g m stand
made_stand h g p place act after (Makes.removes q at name e named loose) few stand = record { counted = stand.counted; single = stand.single; stands = stand.stands }

pub answered_stand : (h owed : ℕ → List Item) (g after : Edited) (c : Command) (a : Answer) → IsAnswered g h owed c a after → LinksStand g → LinksStand after
answered_stand h owed g after c a (IsAnswered.done when act p place made reaches makes) stand = made_stand h g p place act made makes (reached_few g h owed when p place reaches) stand
answered_stand h owed g after c a (IsAnswered.unreached command there never) stand = stand
answered_stand h owed g after c a (IsAnswered.nameless command missing) stand = stand
answered_stand h owed g after c a (IsAnswered.refused when act p place reason there reaches why) stand = stand

reported_stand : (h owed : ℕ → List Item) (g last : Edited) (script : List Command) (entries : List Entry) → AreAnswered h owed g script entries last → LinksStand g → LinksStand last
reported_stand h owed g last script entries (AreAnswered.none same commands) stand = stand
reported_stand h owed g last script entries (AreAnswered.more from next end c commands entry others answered rest) stand =
    reported_stand h owed next end commands others rest (answered_stand h owed from next c entry.answer answered stand)

-- ---- both together

stands_linked : (p : ℕ) (ss : List Span) → links_from p ss ≡ true → is_linked ss ≡ true
stands_linked p ss e = go (is_linked ss) refl
  where
    go : (b : Bool) → is_linked ss ≡ b → is_linked ss ≡ true
    go true is = is
    go false is = absurd (false≢true (sym (from_none p ss is) ∙ e))

pub exactly : (h : ℕ → List Item) (g : Edited) → IsKept h g → LinksStand g → (sink : PadPlace) → AreExact g sink
exactly h g kept stand sink = record {
  linked = linked (source_before g.links sink) refl;
  there = λ source e. stand.stands source sink e;
  back = λ source few e. back source few e (source_before g.links sink) refl;
}
  where
    linked : (o : Option PadPlace) → source_before g.links sink ≡ o → is_linked (spans_at g sink) ≡ is_some o
    linked None e = free_at h g sink kept e
    linked (Some source) e = stands_linked (pad_id source) (spans_at g sink) (stand.stands source sink e)

    back : (source : PadPlace) → source.pad < most_pads → links_from (pad_id source) (spans_at g sink) ≡ true → (o : Option PadPlace) → source_before g.links sink ≡ o → o ≡ Some source
    back source few e None is = absurd (false≢true (sym (from_none (pad_id source) (spans_at g sink) (free_at h g sink kept is)) ∙ e))
    back source few e (Some other) is =
        ap Some (same_pad other source (few_of g.links sink other stand.single is) few (one_stands h (pad_id other) (pad_id source) (spans_at g sink) (kept.within sink) (stand.stands other sink is) e))

pub links_stay_exact : LinksStayExact
links_stay_exact = record {
  begins = begins_stand;
  answered = answered_stand;
  reported = reported_stand;
  exact = exactly;
}
