-- Which sink pads have had EOS is told, from the start on and behind each answer.
use Rattle.std.proofs.Common.{◌≡◌, ◌⊎◌, ℕ, ◌<◌, ◌||◌, Bool, true, false, not, if◌then◌else◌, eqb, List, [], ◌∷◌, ◌++◌, Option, None, Some, length, take, drop, refl, sym, ap, ◌∙◌, subst, inl, inr, arith, get_or, append_assoc}
use Rattle.std.specs.List.{list_any}
use Rattle.std.specs.Option.{option_map_or}
use Rattle.std.proofs.lemmas.Bool.{true≢false, false≢true}
use Rattle.std.proofs.lemmas.Bool.Decides.{eqb_tells}
use Rattle.std.proofs.lemmas.List.{nil_from_length, take-append-drop}
use Rattle.std.proofs.lemmas.List.Folds.{list_any-append}
use Rattle.std.proofs.lemmas.Option.{slice_get_past}
use Rattle.flow_model.specs.Item.{Item, is_flush_stop}
use Rattle.flow_model.specs.Link.{Span, Linked}
use Rattle.flow_model.specs.Sticky.{has_flush_stop}
use Rattle.flow_model.proofs.Prefixes.{take_prefix}
use Rattle.graph_core.specs.Elements.{Made}
use Rattle.graph_core.specs.GraphPlan.{most_pads, pad_id, sink_count, spans_from}
use Rattle.graph_core.specs.LinkedOnce.{AreOnce}
use Rattle.graph_core.proofs.LinkedOnce.{itself, same_or_other}
use Rattle.graph_pads.specs.Links.{is_same, sink_behind, source_before}
use Rattle.graph_pads.specs.declared.pad.PadLink.{PadLink}
use Rattle.graph_pads.specs.declared.pad.PadPlace.{PadPlace}
use Rattle.el_settings.specs.Asked.{sink_pads}
use Rattle.gst_value.proofs.Basics.{some_same}
use Rattle.flow_model.specs.Standing.{links_from}
use Rattle.pad_core.specs.Crossing.{has_ended}
use Rattle.script_text.specs.declared.answer.Answer.{Answer}
use Rattle.script_text.specs.declared.answer.Entry.{Entry}
use Rattle.script_text.specs.declared.command.Act.{Act}
use Rattle.script_text.specs.declared.command.Command.{Command}
use Rattle.script_text.specs.declared.command.When.{When}
use Rattle.graph_edits.specs.Edited.{Edited, added, and_sink, is_ended, linked_at, link_between, spans_at, unedited, unlinked_at, without}
use Rattle.graph_edits.specs.Ended.{AreOpen, EndsAreTold, EndsOpen, OwesToEos, StaysOpen, had_eos, was_ended}
use Rattle.graph_edits.specs.Growing.{AreSingle, GrowsTo, IsKept, LinksStand}
use Rattle.graph_edits.specs.Lawful.{AreAnswered, IsAnswered, IsAtBuffer, Makes, Reaches, begins_with_buffer}
use Rattle.graph_edits.specs.Plans.{items_at}
use Rattle.graph_edits.proofs.Ending.{closed_ended, dropped_ended, ended_free, ended_linked, open_grows, push_ended, push_open, undo_open}
use Rattle.graph_edits.proofs.Grown.{calm_back, ended_more}
use Rattle.graph_edits.proofs.Keeping.{answered_kept, first_spans, free_at, linked_spans, none_at, none_before, none_push, not_taken, some_push, undone_at}
use Rattle.graph_edits.proofs.LinksStanding.{IsFew, answered_stand, exactly, no_some, reached_few, rest_other}

-- ---- a sink pad has had EOS where it is told so

module _ (h : ℕ → List Item) (g : Edited) (kept : IsKept h g) (stand : LinksStand g) (ends : EndsOpen h g) where
  same_free : (sink : PadPlace) → source_before g.links sink ≡ None → has_ended (items_at g h sink) ≡ is_ended g sink
  same_free sink none = ended_free h ends.unflushed (spans_at g sink) (ends.spans sink) (free_at h g sink kept none) ∙ ends.marked sink

  same_taken : (source sink : PadPlace) → source_before g.links sink ≡ Some source → has_ended (items_at g h sink) ≡ has_ended (h (pad_id source))
  same_taken source sink is =
      ended_linked h ends.unflushed (pad_id source) (spans_at g sink) (kept.within sink) (ends.spans sink) (stand.stands source sink is) (ends.marked sink ∙ ends.unmarked source sink is)

  same_told : (sink : PadPlace) → has_ended (items_at g h sink) ≡ had_eos g h sink
  same_told sink = by (source_before g.links sink) refl
    where
      by : (o : Option PadPlace) → source_before g.links sink ≡ o → has_ended (items_at g h sink) ≡ option_map_or (λ (source : PadPlace). has_ended (h (pad_id source))) o (is_ended g sink)
      by None e = same_free sink e
      by (Some source) e = same_taken source sink e

both_ways : (a b : Bool) → a ≡ b → ((a ≡ true → b ≡ true) × (b ≡ true → a ≡ true))
both_ways a b e = (λ is. sym e ∙ is, λ is. e ∙ is)

pub ends_are_told : EndsAreTold
ends_are_told = record {
  free = λ h g sink kept stand ends free. both_ways (has_ended (items_at g h sink)) (is_ended g sink) (same_free h g kept stand ends sink (not_taken g sink free));
  taken = λ h g source sink kept stand ends is. both_ways (has_ended (items_at g h sink)) (has_ended (h (pad_id source))) (same_taken h g kept stand ends source sink is);
  same = λ h g sink kept stand ends. same_told h g kept stand ends sink;
  told = λ h g sink kept stand ends. both_ways (has_ended (items_at g h sink)) (had_eos g h sink) (same_told h g kept stand ends sink);
}

-- ---- links, from their source pads

-- the link of another source pad stays where one is undone
kept_behind : (source found sink : PadPlace) (links : List PadLink) → is_same found source ≡ false → sink_behind links found ≡ Some sink → sink_behind (without source links) found ≡ Some sink
kept_behind source found sink [] other e = e
kept_behind source found sink (link ∷ links) other e = go (same_or_other link.source found) (is_same link.source source) refl e (kept_behind source found sink links other)
  where
    go : ((is_same link.source found ≡ true) × (link.source ≡ found)) ⊎ (is_same link.source found ≡ false) → (b : Bool) → is_same link.source source ≡ b
        → (if is_same link.source found then Some link.sink else sink_behind links found) ≡ Some sink → (sink_behind links found ≡ Some sink → sink_behind (without source links) found ≡ Some sink)
        → sink_behind (if not b then link ∷ without source links else without source links) found ≡ Some sink
    go (inl t) true drops e rest = absurd (true≢false (sym drops ∙ ap (λ (place : PadPlace). is_same place source) t.1 ∙ other))
    go (inl t) false drops e rest = rw t.0 (rw t.0 at e)
    go (inr t) true drops e rest = rest (rw t at e)
    go (inr t) false drops e rest = rw t (rest (rw t at e))

-- and the source pad itself has none then
none_behind : (source : PadPlace) (links : List PadLink) → sink_behind (without source links) source ≡ None
none_behind source [] = refl
none_behind source (link ∷ links) = go (is_same link.source source) refl (none_behind source links)
  where
    go : (b : Bool) → is_same link.source source ≡ b → sink_behind (without source links) source ≡ None → sink_behind (if not b then link ∷ without source links else without source links) source ≡ None
    go true drops rest = rest
    go false drops rest = rw drops rest

behind_push : (links : List PadLink) (more : PadLink) (source found : PadPlace) → sink_behind links source ≡ Some found → sink_behind (links ++ more ∷ []) source ≡ Some found
behind_push [] more source found e = absurd (no_some (sym e))
behind_push (link ∷ links) more source found e = go (is_same link.source source) e (behind_push links more source found)
  where
    go : (b : Bool) → (if b then Some link.sink else sink_behind links source) ≡ Some found → (sink_behind links source ≡ Some found → sink_behind (links ++ more ∷ []) source ≡ Some found)
        → (if b then Some link.sink else sink_behind (links ++ more ∷ []) source) ≡ Some found
    go true e rest = e
    go false e rest = rest e

new_behind : (links : List PadLink) (more : PadLink) → sink_behind links more.source ≡ None → sink_behind (links ++ more ∷ []) more.source ≡ Some more.sink
new_behind [] more none = rw (itself more.source) refl
new_behind (link ∷ links) more none = go (is_same link.source more.source) none (new_behind links more)
  where
    go : (b : Bool) → (if b then Some link.sink else sink_behind links more.source) ≡ None → (sink_behind links more.source ≡ None → sink_behind (links ++ more ∷ []) more.source ≡ Some more.sink)
        → (if b then Some link.sink else sink_behind (links ++ more ∷ []) more.source) ≡ Some more.sink
    go true e rest = absurd (no_some e)
    go false e rest = rest e

-- what is found from a source pad leads back to it
leads_back : (links : List PadLink) (source sink : PadPlace) → AreSingle links → sink_behind links source ≡ Some sink → source_before links sink ≡ Some source
leads_back [] source sink single e = absurd (no_some (sym e))
leads_back (link ∷ links) source sink single e = go (same_or_other link.source source) (same_or_other link.sink sink) e (leads_back links source sink single.2)
  where
    go : ((is_same link.source source ≡ true) × (link.source ≡ source)) ⊎ (is_same link.source source ≡ false) → ((is_same link.sink sink ≡ true) × (link.sink ≡ sink)) ⊎ (is_same link.sink sink ≡ false)
        → (if is_same link.source source then Some link.sink else sink_behind links source) ≡ Some sink → (sink_behind links source ≡ Some sink → source_before links sink ≡ Some source)
        → (if is_same link.sink sink then Some link.source else source_before links sink) ≡ Some source
    go (inl t) (inl u) e rest = rw u.0 (ap Some t.1)
    go (inl t) (inr u) e rest = absurd (true≢false (sym (itself link.sink) ∙ ap (is_same link.sink) (some_same (rw t.0 at e)) ∙ u))
    go (inr t) (inl u) e rest = absurd (no_some (sym (rest (rw t at e)) ∙ ap (source_before links) (sym u.1) ∙ single.1))
    go (inr t) (inr u) e rest = rw u (rest (rw t at e))

-- ---- places before EOS

-- a list that is not empty has a last item
last_of : (x : Item) (rest : List Item) → (front : List Item) × (last : Item) × (x ∷ rest ≡ front ++ last ∷ [])
last_of x [] = ([], x, refl)
last_of x (y ∷ ys) = let r = last_of y ys in (x ∷ r.0, r.1, ap (λ (zs : List Item). x ∷ zs) r.2)

calm_front : (xs more : List Item) → has_flush_stop (xs ++ more) ≡ false → has_flush_stop xs ≡ false
calm_front [] more e = refl
calm_front (x ∷ xs) more e = go (is_flush_stop x) e (calm_front xs more)
  where
    go : (b : Bool) → (if b then true else has_flush_stop (xs ++ more)) ≡ false → (has_flush_stop (xs ++ more) ≡ false → has_flush_stop xs ≡ false) → (if b then true else has_flush_stop xs) ≡ false
    go true e rest = e
    go false e rest = rest e

-- where a buffer is owed, EOS has not come
open_at : (h owed : ℕ → List Item) (p n place : ℕ) → OwesToEos h owed → IsAtBuffer h owed p n place → has_ended (take place (h p)) ≡ false
open_at h owed p n place owes at = by (drop place (owed p)) refl at.next
  where
    same : take place (h p) ≡ take place (owed p)
    same = take_prefix place (owes.crossed p) at.crossed

    calm : (front : List Item) (last : Item) → owed p ≡ take place (owed p) ++ (front ++ last ∷ []) → has_flush_stop front ≡ false
    calm front last is =
        calm_front front (last ∷ []) (calm_back (take place (owed p)) (front ++ last ∷ []) (subst (λ (xs : List Item). has_flush_stop xs ≡ false) is (owes.unflushed p)))

    by : (rest : List Item) → drop place (owed p) ≡ rest → begins_with_buffer rest ≡ true → has_ended (take place (h p)) ≡ false
    by [] is e = absurd (false≢true e)
    by (x ∷ rest) is e =
        let r = last_of x rest in
        let whole : owed p ≡ take place (owed p) ++ (r.0 ++ r.1 ∷ []) = sym (take-append-drop place (owed p)) ∙ ap (λ (zs : List Item). take place (owed p) ++ zs) (is ∙ r.2) in
        let early = owes.open_before p (take place (owed p) ++ r.0) r.1 (whole ∙ sym (append_assoc (take place (owed p)) r.0 (r.1 ∷ []))) in
        ap has_ended same ∙ told (has_ended (take place (owed p))) refl r.0 (calm r.0 r.1 whole) early
      where
        told : (b : Bool) → has_ended (take place (owed p)) ≡ b → (front : List Item) → has_flush_stop front ≡ false → has_ended (take place (owed p) ++ front) ≡ false → b ≡ false
        told true is front calm early = absurd (true≢false (sym (ended_more (take place (owed p)) front calm is) ∙ early))
        told false is front calm early = refl

-- the place of a command is one before EOS
abbrev IsEarly : (ℕ → List Item) → Option PadPlace → ℕ → Type 0
IsEarly h None place = Unit {0}
IsEarly h (Some source) place = has_ended (take place (h (pad_id source))) ≡ false

reached_early : (g : Edited) (h owed : ℕ → List Item) (when : When) (p : Option PadPlace) (place : ℕ) → OwesToEos h owed → Reaches g h owed when p place → IsEarly h p place
reached_early g h owed when p place owes (Reaches.at pad n at source named is) = open_at h owed (pad_id source) n at owes is
reached_early g h owed when p place owes (Reaches.now_pad pad at source named is) = is.open_yet
reached_early g h owed when p place owes Reaches.now = tt

-- ---- what acts make of it

-- a link is undone without EOS
dropped_open : (h : ℕ → List Item) (g : Edited) (source : PadPlace) (place : ℕ) → has_ended (take place (h (pad_id source))) ≡ false → LinksStand g → EndsOpen h g
    → EndsOpen h (unlinked_at source place false g)
dropped_open h g source place early stand ends = record {
  unflushed = ends.unflushed;
  spans = λ sink. subst (λ (ss : List Span). AreOpen h ss) (sym (undone_at (pad_id source) place false (g.spans sink.element) sink.pad))
      (undo_open h (pad_id source) place false early (spans_at g sink) (ends.spans sink));
  marked = λ sink. ap was_ended (undone_at (pad_id source) place false (g.spans sink.element) sink.pad) ∙ dropped_ended (pad_id source) place (spans_at g sink) ∙ ends.marked sink;
  unmarked = λ found sink e. ends.unmarked found sink (rest_other source sink found g.links stand.single e).1;
  back = λ found sink e. let r = rest_other source sink found g.links stand.single e in kept_behind source found sink g.links r.0 (ends.back found sink r.1);
}

-- a link is undone with EOS
closed_open : (h : ℕ → List Item) (g : Edited) (source to : PadPlace) (place : ℕ) → source.pad < most_pads → sink_behind g.links source ≡ Some to → has_ended (take place (h (pad_id source))) ≡ false
    → IsKept h g → LinksStand g → EndsOpen h g → EndsOpen h (unlinked_at source place true g)
closed_open h g source to place few behind early kept stand ends = record {
  unflushed = ends.unflushed;
  spans = λ sink. subst (λ (ss : List Span). AreOpen h ss) (sym (undone_at (pad_id source) place true (g.spans sink.element) sink.pad))
      (undo_open h (pad_id source) place true early (spans_at g sink) (ends.spans sink));
  marked = λ sink. ap was_ended (undone_at (pad_id source) place true (g.spans sink.element) sink.pad) ∙ closed_ended (pad_id source) place (spans_at g sink)
      ∙ ap (λ (b : Bool). b || links_from (pad_id source) (spans_at g sink)) (ends.marked sink) ∙ ap (λ (b : Bool). is_ended g sink || b) (stood sink) ∙ sym (more sink);
  unmarked = λ found sink e. let r = rest_other source sink found g.links stand.single e in
      more sink ∙ ap (λ (b : Bool). b || is_same sink to) (ends.unmarked found sink r.1) ∙ elsewhere found sink r.0 r.1;
  back = λ found sink e. let r = rest_other source sink found g.links stand.single e in kept_behind source found sink g.links r.0 (ends.back found sink r.1);
}
  where
    before : source_before g.links to ≡ Some source
    before = leads_back g.links source to stand.single behind

    -- the sink pad behind it is marked
    more : (sink : PadPlace) → is_ended (unlinked_at source place true g) sink ≡ (is_ended g sink || is_same sink to)
    more sink = ap (λ (o : Option PadPlace). list_any (is_same sink) (and_sink o g.ended)) behind ∙ list_any-append (is_same sink) g.ended (to ∷ [])
        ∙ ap (λ (b : Bool). is_ended g sink || b) (or_none (is_same sink to))
      where
        or_none : (b : Bool) → (b || false) ≡ b
        or_none true = refl
        or_none false = refl

    -- of which its link stood
    stood : (sink : PadPlace) → links_from (pad_id source) (spans_at g sink) ≡ is_same sink to
    stood sink = by (same_or_other sink to)
      where
        told : (b : Bool) → links_from (pad_id source) (spans_at g sink) ≡ b → is_same sink to ≡ false → b ≡ false
        told true is other =
            let same : to ≡ sink = some_same (sym behind ∙ ends.back source sink ((exactly h g kept stand sink).back source few is)) in
            absurd (true≢false (sym (itself sink) ∙ ap (is_same sink) (sym same) ∙ other))
        told false is other = refl

        by : ((is_same sink to ≡ true) × (sink ≡ to)) ⊎ (is_same sink to ≡ false) → links_from (pad_id source) (spans_at g sink) ≡ is_same sink to
        by (inl t) = stand.stands source sink (ap (source_before g.links) t.1 ∙ before) ∙ sym t.0
        by (inr t) = told (links_from (pad_id source) (spans_at g sink)) refl t ∙ sym t

    -- and the sink pads of links that stand are others
    elsewhere : (found sink : PadPlace) → is_same found source ≡ false → source_before g.links sink ≡ Some found → is_same sink to ≡ false
    elsewhere found sink other is = by (same_or_other sink to)
      where
        by : ((is_same sink to ≡ true) × (sink ≡ to)) ⊎ (is_same sink to ≡ false) → is_same sink to ≡ false
        by (inl t) =
            let same : found ≡ source = some_same (sym is ∙ ap (source_before g.links) t.1 ∙ before) in
            absurd (true≢false (sym (itself source) ∙ ap (λ (place : PadPlace). is_same place source) (sym same) ∙ other))
        by (inr t) = t

-- two pads are linked that are not
linked_open : (h : ℕ → List Item) (g : Edited) (source to : PadPlace) (place : ℕ) → has_ended (take place (h (pad_id source))) ≡ false → source_before g.links to ≡ None
    → sink_behind g.links source ≡ None → is_ended g to ≡ false → EndsOpen h g → EndsOpen h (linked_at source place to g)
linked_open h g source to place early free loose unended ends = record {
  unflushed = ends.unflushed;
  spans = λ sink. spans sink (linked_spans g source place to sink);
  marked = λ sink. marked sink (linked_spans g source place to sink);
  unmarked = λ found sink e. unmarked found sink (source_before g.links sink) refl e;
  back = λ found sink e. back found sink (source_before g.links sink) refl e;
}
  where
    spans : (sink : PadPlace)
        → (spans_at (linked_at source place to g) sink ≡ spans_at g sink) ⊎ ((sink ≡ to) × (spans_at (linked_at source place to g) sink ≡ spans_at g sink ++ Linked (pad_id source) place [] ∷ []))
        → AreOpen h (spans_at (linked_at source place to g) sink)
    spans sink (inl same) = subst (λ (ss : List Span). AreOpen h ss) (sym same) (ends.spans sink)
    spans sink (inr more) = subst (λ (ss : List Span). AreOpen h ss) (sym more.1) (push_open h (pad_id source) place early (spans_at g sink) (ends.spans sink))

    marked : (sink : PadPlace)
        → (spans_at (linked_at source place to g) sink ≡ spans_at g sink) ⊎ ((sink ≡ to) × (spans_at (linked_at source place to g) sink ≡ spans_at g sink ++ Linked (pad_id source) place [] ∷ []))
        → was_ended (spans_at (linked_at source place to g) sink) ≡ is_ended g sink
    marked sink (inl same) = ap was_ended same ∙ ends.marked sink
    marked sink (inr more) = ap was_ended more.1 ∙ push_ended (pad_id source) place (spans_at g sink) ∙ ends.marked sink

    -- the new link is that of this sink pad
    is_new : (found sink : PadPlace) → source_before g.links sink ≡ None → source_before (g.links ++ link_between source to ∷ []) sink ≡ Some found → (source ≡ found) × (to ≡ sink)
    is_new found sink none e = by (same_or_other to sink) (sym (none_push g.links (link_between source to) sink none) ∙ e)
      where
        by : ((is_same to sink ≡ true) × (to ≡ sink)) ⊎ (is_same to sink ≡ false) → (if is_same to sink then Some source else None) ≡ Some found → (source ≡ found) × (to ≡ sink)
        by (inl t) e = (some_same (rw t.0 at e), t.1)
        by (inr t) e = absurd (no_some (sym (rw t at e)))

    unmarked : (found sink : PadPlace) (o : Option PadPlace) → source_before g.links sink ≡ o → source_before (g.links ++ link_between source to ∷ []) sink ≡ Some found → is_ended g sink ≡ false
    unmarked found sink (Some old) was e = ends.unmarked old sink was
    unmarked found sink None was e = subst (λ (place : PadPlace). is_ended g place ≡ false) (is_new found sink was e).1 unended

    back : (found sink : PadPlace) (o : Option PadPlace) → source_before g.links sink ≡ o → source_before (g.links ++ link_between source to ∷ []) sink ≡ Some found
        → sink_behind (g.links ++ link_between source to ∷ []) found ≡ Some sink
    back found sink (Some old) was e =
        let same : old ≡ found = some_same (sym (some_push g.links (link_between source to) sink old was) ∙ e) in
        behind_push g.links (link_between source to) found sink (ends.back found sink (was ∙ ap Some same))
    back found sink None was e =
        let new = is_new found sink was e in
        subst (λ (place : PadPlace). sink_behind (g.links ++ link_between source to ∷ []) place ≡ Some sink) new.0
        (new_behind g.links (link_between source to) loose ∙ ap Some new.1)

-- the sink pads of an element that is added had no spans before either
added_open : (h : ℕ → List Item) (g : Edited) (m : Made) → LinksStand g → EndsOpen h g → EndsOpen h (added m g)
added_open h g m stand ends = record {
  unflushed = ends.unflushed;
  spans = λ sink. subst (λ (ss : List Span). AreOpen h ss) (sym (same sink)) (ends.spans sink);
  marked = λ sink. ap was_ended (same sink) ∙ ends.marked sink;
  unmarked = ends.unmarked;
  back = ends.back;
}
  where
    same : (sink : PadPlace) → spans_at (added m g) sink ≡ spans_at g sink
    same sink = by (eqb_tells sink.element (length g.made))
      where
        none_yet : sink.element ≡ length g.made → g.spans sink.element ≡ []
        none_yet is = nil_from_length (g.spans sink.element) (stand.counted sink.element ∙ ap sink_count (slice_get_past g.made sink.element (omega (arith, is))))

        by : ((eqb sink.element (length g.made) ≡ true) × (sink.element ≡ length g.made)) ⊎ ((eqb sink.element (length g.made) ≡ false) × (sink.element ≡ length g.made → ⊥))
            → spans_at (added m g) sink ≡ spans_at g sink
        by (inl t) = rw t.0 (none_at (sink_pads m.settings) sink.pad ∙ sym (ap (λ (sss : List (List Span)). get_or sss sink.pad []) (none_yet t.1)))
        by (inr t) = rw t.0 refl

made_open : (h : ℕ → List Item) (g : Edited) (p : Option PadPlace) (place : ℕ) (act : Act) (after : Edited) → Makes g h p place act after → IsFew p → IsEarly h p place → IsKept h g → LinksStand g
    → EndsOpen h g → EndsOpen h after
made_open h g p place act after (Makes.relinks sink source to at named linkable) few early kept stand ends =
    linked_open h (unlinked_at source at false g) source to at early (none_before source to g.links (not_taken g to linkable.free)) (none_behind source g.links) (unended (is_ended g to) refl)
    (dropped_open h g source at early stand ends)
  where
    unended : (b : Bool) → is_ended g to ≡ b → b ≡ false
    unended true is = absurd (linkable.unended (same_free h g kept stand ends to (not_taken g to linkable.free) ∙ is))
    unended false is = refl
made_open h g p place act after (Makes.unlinks true source to at behind) few early kept stand ends = closed_open h g source to at few behind early kept stand ends
made_open h g p place act after (Makes.unlinks false source to at behind) few early kept stand ends = dropped_open h g source at early stand ends
made_open h g p place act after (Makes.adds q at kind props m is plain) few early kept stand ends = added_open h g m stand ends
made_open h g p place act after (Makes.removes q at name e named loose) few early kept stand ends = record {
  unflushed = ends.unflushed;
  spans = ends.spans;
  marked = ends.marked;
  unmarked = ends.unmarked;
  back = ends.back;
}

answered_open : (h owed : ℕ → List Item) (g after : Edited) (c : Command) (a : Answer) → OwesToEos h owed → IsAnswered g h owed c a after → IsKept h g → LinksStand g → EndsOpen h g → EndsOpen h after
answered_open h owed g after c a owes (IsAnswered.done when act p place made reaches makes) kept stand ends =
    made_open h g p place act made makes (reached_few g h owed when p place reaches) (reached_early g h owed when p place owes reaches) kept stand ends
answered_open h owed g after c a owes (IsAnswered.unreached command there never) kept stand ends = ends
answered_open h owed g after c a owes (IsAnswered.nameless command missing) kept stand ends = ends
answered_open h owed g after c a owes (IsAnswered.refused when act p place reason there reaches why) kept stand ends = ends

reported_open : (h owed : ℕ → List Item) (g last : Edited) (script : List Command) (entries : List Entry) → OwesToEos h owed → AreAnswered h owed g script entries last → IsKept h g → LinksStand g
    → EndsOpen h g → EndsOpen h last
reported_open h owed g last script entries owes (AreAnswered.none same commands) kept stand ends = ends
reported_open h owed g last script entries owes (AreAnswered.more from next end c commands entry others answered rest) kept stand ends =
    reported_open h owed next end commands others owes rest (answered_kept h owed from next c entry.answer answered kept) (answered_stand h owed from next c entry.answer answered stand)
    (answered_open h owed from next c entry.answer owes answered kept stand ends)

-- ---- from the start on

begins_open : (h : ℕ → List Item) (made : List Made) (links : List PadLink) → ((p : ℕ) → has_flush_stop (h p) ≡ false) → AreOnce links → EndsOpen h (unedited made links)
begins_open h made links calm once = record {
  unflushed = calm;
  spans = λ sink. spans sink (first_spans made links sink);
  marked = λ sink. marked sink (first_spans made links sink);
  unmarked = λ source sink e. refl;
  back = once.back;
}
  where
    first_open : (o : Option PadPlace) → AreOpen h (spans_from o)
    first_open None = tt
    first_open (Some source) = (refl, tt)

    first_marked : (o : Option PadPlace) → was_ended (spans_from o) ≡ false
    first_marked None = refl
    first_marked (Some source) = refl

    spans : (sink : PadPlace) → (spans_at (unedited made links) sink ≡ spans_from (source_before links sink)) ⊎ (spans_at (unedited made links) sink ≡ spans_from None)
        → AreOpen h (spans_at (unedited made links) sink)
    spans sink (inl is) = subst (λ (ss : List Span). AreOpen h ss) (sym is) (first_open (source_before links sink))
    spans sink (inr none) = subst (λ (ss : List Span). AreOpen h ss) (sym none) tt

    marked : (sink : PadPlace) → (spans_at (unedited made links) sink ≡ spans_from (source_before links sink)) ⊎ (spans_at (unedited made links) sink ≡ spans_from None)
        → was_ended (spans_at (unedited made links) sink) ≡ false
    marked sink (inl is) = ap was_ended is ∙ first_marked (source_before links sink)
    marked sink (inr none) = ap was_ended none

grows_open : (h owed h' owed' : ℕ → List Item) (g : Edited) → GrowsTo h owed h' owed' → IsKept h g → EndsOpen h g → EndsOpen h' g
grows_open h owed h' owed' g grows kept ends = record {
  unflushed = grows.unflushed;
  spans = λ sink. open_grows h h' grows.crossed (spans_at g sink) (kept.within sink) (ends.spans sink);
  marked = ends.marked;
  unmarked = ends.unmarked;
  back = ends.back;
}

pub stays_open : StaysOpen
stays_open = record { begins = begins_open; grows = grows_open; answered = answered_open; reported = reported_open }
