-- The spans of sink pads and the links of an edited graph stay together, from the start on and behind each answer.
use Rattle.std.proofs.Common.{◌≡◌, ◌⊎◌, ℕ, zero, suc, ◌≤◌, Bool, true, false, not, if◌then◌else◌, eqb, List, [], ◌∷◌, ◌++◌, Option, None, Some, length, map, replicate, refl, sym, ap, ◌∙◌, subst, inl, inr, arith, get_or, slice_get}
use Rattle.std.specs.Prelude.{is_some}
use Rattle.std.specs.List.{range_with_len}
use Rattle.std.proofs.lemmas.Bool.{true≢false, false≢true}
use Rattle.std.proofs.lemmas.Bool.Decides.{eqb_tells}
use Rattle.std.proofs.lemmas.List.{get_or_past}
use Rattle.std.proofs.lemmas.List.FromFn.{get_or-map-range_with_len, length-map-range_with_len}
use Rattle.flow_model.specs.Item.{Item}
use Rattle.flow_model.specs.Link.{Span, Linked, WasLinked, Flushed, Given}
use Rattle.graph_core.specs.Elements.{Made}
use Rattle.graph_core.specs.GraphPlan.{pad_id, sink_at, sink_count, spans_from}
use Rattle.graph_core.proofs.LinkedOnce.{itself, place_of, same_or_other}
use Rattle.graph_pads.specs.Links.{is_same, source_before}
use Rattle.graph_pads.specs.declared.pad.PadLink.{PadLink}
use Rattle.graph_pads.specs.declared.pad.PadPlace.{PadPlace}
use Rattle.gst_value.proofs.Basics.{number_itself, some_same}
use Rattle.el_settings.specs.Asked.{sink_pads}
use Rattle.flow_model.specs.Edit.{push_span, undo}
use Rattle.flow_model.specs.Standing.{AllStanding, Standing, is_linked, links_from}
use Rattle.script_text.specs.declared.answer.Answer.{Answer}
use Rattle.script_text.specs.declared.answer.Entry.{Entry}
use Rattle.script_text.specs.declared.command.Act.{Act}
use Rattle.script_text.specs.declared.command.Command.{Command}
use Rattle.script_text.specs.declared.command.When.{When}
use Rattle.graph_edits.specs.Edited.{Edited, added, linked_at, link_between, relinked_at, spans_at, unedited, unlinked_at, without}
use Rattle.graph_edits.specs.Growing.{AreWithin, GrowsTo, IsKept, StandsOnlyFrom, StaysKept}
use Rattle.graph_edits.specs.Lawful.{AreAnswered, IsAnswered, Makes, Reaches}
use Rattle.graph_edits.specs.Refused.{IsTaken}
use Rattle.graph_edits.proofs.Grown.{within_grows}

-- ---- the spans of one sink pad

-- where no link stands, none from a source pad does
pub from_none : (p : ℕ) (ss : List Span) → is_linked ss ≡ false → links_from p ss ≡ false
from_none p [] e = refl
from_none p (Linked source from marks ∷ ss) e = absurd (true≢false e)
from_none p (WasLinked source from to eos marks ∷ ss) e = from_none p ss e
from_none p (Flushed number ∷ ss) e = from_none p ss e
from_none p (Given calls ∷ ss) e = from_none p ss e

pub free_only : (o : Option PadPlace) (ss : List Span) → is_linked ss ≡ false → StandsOnlyFrom o ss
free_only None ss e = e
free_only (Some source) ss e = from_none (pad_id source) ss e ∙ sym e

undo_within : (h : ℕ → List Item) (p place : ℕ) (eos : Bool) → place ≤ length (h p) → (ss : List Span) → AreWithin h ss → AreWithin h (map (undo p place eos) ss)
undo_within h p place eos low [] w = tt
undo_within h p place eos low (Linked source from marks ∷ ss) w = rw w.1 (go (eqb_tells source p))
  where
    go : ((eqb source p ≡ true) × (source ≡ p)) ⊎ ((eqb source p ≡ false) × (source ≡ p → ⊥))
        → AreWithin h ((if eqb source p then WasLinked source from place eos marks else Linked source from marks) ∷ [])
    go (inl t) = rw t.0 (w.0, subst (λ q. place ≤ length (h q)) (sym t.1) low, tt)
    go (inr t) = rw t.0 (w.0, refl)
undo_within h p place eos low (WasLinked source from to ended marks ∷ ss) w = (w.0, w.1, undo_within h p place eos low ss w.2)
undo_within h p place eos low (Flushed number ∷ ss) w = undo_within h p place eos low ss w
undo_within h p place eos low (Given calls ∷ ss) w = undo_within h p place eos low ss w

undo_free : (p place : ℕ) (eos : Bool) (ss : List Span) → is_linked ss ≡ false → is_linked (map (undo p place eos) ss) ≡ false
undo_free p place eos [] e = refl
undo_free p place eos (Linked source from marks ∷ ss) e = absurd (true≢false e)
undo_free p place eos (WasLinked source from to ended marks ∷ ss) e = undo_free p place eos ss e
undo_free p place eos (Flushed number ∷ ss) e = undo_free p place eos ss e
undo_free p place eos (Given calls ∷ ss) e = undo_free p place eos ss e

-- where only a link of this source pad stands, none does behind that
undo_own : (h : ℕ → List Item) (p place : ℕ) (eos : Bool) (ss : List Span) → AreWithin h ss → links_from p ss ≡ is_linked ss → is_linked (map (undo p place eos) ss) ≡ false
undo_own h p place eos [] w e = refl
undo_own h p place eos (Linked source from marks ∷ ss) w e = rw w.1 (go (eqb source p) (rw w.1 at e))
  where
    go : (b : Bool) → (if b then true else false) ≡ true → is_linked ((if b then WasLinked source from place eos marks else Linked source from marks) ∷ []) ≡ false
    go true e = refl
    go false e = absurd (false≢true e)
undo_own h p place eos (WasLinked source from to ended marks ∷ ss) w e = undo_own h p place eos ss w.2 e
undo_own h p place eos (Flushed number ∷ ss) w e = undo_own h p place eos ss w e
undo_own h p place eos (Given calls ∷ ss) w e = undo_own h p place eos ss w e

-- and where only one of another does, only that one does
undo_other : (h : ℕ → List Item) (p q place : ℕ) (eos : Bool) (ss : List Span) → AreWithin h ss → links_from q ss ≡ is_linked ss
    → links_from q (map (undo p place eos) ss) ≡ is_linked (map (undo p place eos) ss)
undo_other h p q place eos [] w e = refl
undo_other h p q place eos (Linked source from marks ∷ ss) w e = rw w.1 (go (eqb source p) (rw w.1 at e))
  where
    go : (b : Bool) → (if eqb source q then true else false) ≡ true
        → links_from q ((if b then WasLinked source from place eos marks else Linked source from marks) ∷ []) ≡ is_linked ((if b then WasLinked source from place eos marks else Linked source from marks) ∷ [])
    go true e = refl
    go false e = e
undo_other h p q place eos (WasLinked source from to ended marks ∷ ss) w e = undo_other h p q place eos ss w.2 e
undo_other h p q place eos (Flushed number ∷ ss) w e = undo_other h p q place eos ss w e
undo_other h p q place eos (Given calls ∷ ss) w e = undo_other h p q place eos ss w e

push_within : (h : ℕ → List Item) (p place : ℕ) → place ≤ length (h p) → (ss : List Span) → is_linked ss ≡ false → AreWithin h ss → AreWithin h (ss ++ Linked p place [] ∷ [])
push_within h p place low [] e w = (low, refl)
push_within h p place low (Linked source from marks ∷ ss) e w = absurd (true≢false e)
push_within h p place low (WasLinked source from to eos marks ∷ ss) e w = (w.0, w.1, push_within h p place low ss e w.2)
push_within h p place low (Flushed number ∷ ss) e w = push_within h p place low ss e w
push_within h p place low (Given calls ∷ ss) e w = push_within h p place low ss e w

push_own : (p place : ℕ) (ss : List Span) → is_linked ss ≡ false → links_from p (ss ++ Linked p place [] ∷ []) ≡ is_linked (ss ++ Linked p place [] ∷ [])
push_own p place [] e = rw (number_itself p) refl
push_own p place (Linked source from marks ∷ ss) e = absurd (true≢false e)
push_own p place (WasLinked source from to eos marks ∷ ss) e = push_own p place ss e
push_own p place (Flushed number ∷ ss) e = push_own p place ss e
push_own p place (Given calls ∷ ss) e = push_own p place ss e

-- spans that stand are within
standing_within : (h : ℕ → List Item) (ss : List Span) → Standing h ss → AreWithin h ss
standing_within h [] s = tt
standing_within h (Linked source from marks ∷ ss) s = (s.0, s.2)
standing_within h (WasLinked source from to eos marks ∷ ss) s = (let order = s.0 in let high = s.1 in omega arith, s.1, standing_within h ss s.2)
standing_within h (Flushed number ∷ ss) s = standing_within h ss s
standing_within h (Given calls ∷ ss) s = standing_within h ss s

all_within : (h : ℕ → List Item) (sss : List (List Span)) (k : ℕ) → AllStanding h sss → AreWithin h (get_or sss k [])
all_within h [] k s = tt
all_within h (ss ∷ sss) zero s = standing_within h ss s.0
all_within h (ss ∷ sss) (suc k) s = all_within h sss k s.1

-- ---- the sink pads of an element

pub undone_at : (p place : ℕ) (eos : Bool) (sss : List (List Span)) (k : ℕ) → get_or (map (map (undo p place eos)) sss) k [] ≡ map (undo p place eos) (get_or sss k [])
undone_at p place eos [] k = refl
undone_at p place eos (ss ∷ sss) zero = refl
undone_at p place eos (ss ∷ sss) (suc k) = undone_at p place eos sss k

-- a sink pad is given as it was, or is the one that gets a span more
pub pushed_at : (i k : ℕ) (s : Span) (sss : List (List Span))
    → (get_or (push_span i s sss) k [] ≡ get_or sss k []) ⊎ ((k ≡ i) × (get_or (push_span i s sss) k [] ≡ get_or sss k [] ++ s ∷ []))
pushed_at i k s [] = inl refl
pushed_at zero zero s (ss ∷ sss) = inr (refl, refl)
pushed_at zero (suc k) s (ss ∷ sss) = inl refl
pushed_at (suc i) zero s (ss ∷ sss) = inl refl
pushed_at (suc i) (suc k) s (ss ∷ sss) = go (pushed_at i k s sss)
  where
    go : (get_or (push_span i s sss) k [] ≡ get_or sss k []) ⊎ ((k ≡ i) × (get_or (push_span i s sss) k [] ≡ get_or sss k [] ++ s ∷ []))
        → (get_or (push_span i s sss) k [] ≡ get_or sss k []) ⊎ ((suc k ≡ suc i) × (get_or (push_span i s sss) k [] ≡ get_or sss k [] ++ s ∷ []))
    go (inl same) = inl same
    go (inr more) = inr (ap suc more.0, more.1)

pub none_at : (n k : ℕ) → get_or (replicate n []) k [] ≡ spans_from None
none_at zero k = refl
none_at (suc n) zero = refl
none_at (suc n) (suc k) = none_at n k

-- ---- links

-- the link of another source pad stays where one is undone
pub kept_before : (source sink found : PadPlace) (links : List PadLink) → is_same found source ≡ false → source_before links sink ≡ Some found → source_before (without source links) sink ≡ Some found
kept_before source sink found [] other e = e
kept_before source sink found (link ∷ links) other e = go (is_same link.sink sink) refl (is_same link.source source) refl e (kept_before source sink found links other)
  where
    go : (a : Bool) → is_same link.sink sink ≡ a → (b : Bool) → is_same link.source source ≡ b → (if a then Some link.source else source_before links sink) ≡ Some found
        → (source_before links sink ≡ Some found → source_before (without source links) sink ≡ Some found)
        → source_before (if not b then link ∷ without source links else without source links) sink ≡ Some found
    go true is true drops e rest = absurd (true≢false (sym drops ∙ ap (λ place. is_same place source) (some_same e) ∙ other))
    go true is false drops e rest = subst (λ (b : Bool). (if b then Some link.source else source_before (without source links) sink) ≡ Some found) (sym is) e
    go false is true drops e rest = rest e
    go false is false drops e rest = subst (λ (b : Bool). (if b then Some link.source else source_before (without source links) sink) ≡ Some found) (sym is) (rest e)

pub none_before : (source sink : PadPlace) (links : List PadLink) → source_before links sink ≡ None → source_before (without source links) sink ≡ None
none_before source sink [] e = e
none_before source sink (link ∷ links) e = go (is_same link.sink sink) refl (is_same link.source source) e (none_before source sink links)
  where
    go : (a : Bool) → is_same link.sink sink ≡ a → (b : Bool) → (if a then Some link.source else source_before links sink) ≡ None
        → (source_before links sink ≡ None → source_before (without source links) sink ≡ None)
        → source_before (if not b then link ∷ without source links else without source links) sink ≡ None
    go true is b e rest = absurd (cc)
    go false is true e rest = rest e
    go false is false e rest = subst (λ (b : Bool). (if b then Some link.source else source_before (without source links) sink) ≡ None) (sym is) (rest e)

pub some_push : (links : List PadLink) (more : PadLink) (sink found : PadPlace) → source_before links sink ≡ Some found → source_before (links ++ more ∷ []) sink ≡ Some found
some_push [] more sink found e = absurd (cc)
some_push (link ∷ links) more sink found e = go (is_same link.sink sink) e (some_push links more sink found)
  where
    go : (a : Bool) → (if a then Some link.source else source_before links sink) ≡ Some found → (source_before links sink ≡ Some found → source_before (links ++ more ∷ []) sink ≡ Some found)
        → (if a then Some link.source else source_before (links ++ more ∷ []) sink) ≡ Some found
    go true e rest = e
    go false e rest = rest e

pub none_push : (links : List PadLink) (more : PadLink) (sink : PadPlace) → source_before links sink ≡ None → source_before (links ++ more ∷ []) sink ≡ (if is_same more.sink sink then Some more.source else None)
none_push [] more sink e = refl
none_push (link ∷ links) more sink e = go (is_same link.sink sink) e (none_push links more sink)
  where
    go : (a : Bool) → (if a then Some link.source else source_before links sink) ≡ None
        → (source_before links sink ≡ None → source_before (links ++ more ∷ []) sink ≡ (if is_same more.sink sink then Some more.source else None))
        → (if a then Some link.source else source_before (links ++ more ∷ []) sink) ≡ (if is_same more.sink sink then Some more.source else None)
    go true e rest = absurd (cc)
    go false e rest = rest e

pub not_taken : (g : Edited) (sink : PadPlace) → ¬ IsTaken g sink → source_before g.links sink ≡ None
not_taken g sink free = go (source_before g.links sink) free
  where
    go : (o : Option PadPlace) → ¬ (is_some o ≡ true) → o ≡ None
    go None n = refl
    go (Some source) n = absurd (n refl)

-- no link stands at a sink pad that is not taken
pub free_at : (h : ℕ → List Item) (g : Edited) (sink : PadPlace) → IsKept h g → source_before g.links sink ≡ None → is_linked (spans_at g sink) ≡ false
free_at h g sink kept none = subst (λ (o : Option PadPlace). StandsOnlyFrom o (spans_at g sink)) none (kept.linked sink)

-- ---- what acts make of it

undone_only : (h : ℕ → List Item) (source : PadPlace) (place : ℕ) (eos : Bool) (links : List PadLink) (sink : PadPlace) (ss : List Span) → AreWithin h ss
    → (o : Option PadPlace) → source_before links sink ≡ o → StandsOnlyFrom o ss → StandsOnlyFrom (source_before (without source links) sink) (map (undo (pad_id source) place eos) ss)
undone_only h source place eos links sink ss w None e only =
    subst (λ (o : Option PadPlace). StandsOnlyFrom o (map (undo (pad_id source) place eos) ss)) (sym (none_before source sink links e)) (undo_free (pad_id source) place eos ss only)
undone_only h source place eos links sink ss w (Some found) e only = go (same_or_other found source)
  where
    go : ((is_same found source ≡ true) × (found ≡ source)) ⊎ (is_same found source ≡ false) → StandsOnlyFrom (source_before (without source links) sink) (map (undo (pad_id source) place eos) ss)
    go (inl t) = free_only (source_before (without source links) sink) (map (undo (pad_id source) place eos) ss)
        (undo_own h (pad_id source) place eos ss w (subst (λ (q : PadPlace). links_from (pad_id q) ss ≡ is_linked ss) t.1 only))
    go (inr t) = subst (λ (o : Option PadPlace). StandsOnlyFrom o (map (undo (pad_id source) place eos) ss)) (sym (kept_before source sink found links t e))
        (undo_other h (pad_id source) (pad_id found) place eos ss w only)

pub unlinked_kept : (h : ℕ → List Item) (g : Edited) (source : PadPlace) (place : ℕ) (eos : Bool) → place ≤ length (h (pad_id source)) → IsKept h g → IsKept h (unlinked_at source place eos g)
unlinked_kept h g source place eos low kept = record {
  within = λ sink. subst (λ (ss : List Span). AreWithin h ss) (sym (undone_at (pad_id source) place eos (g.spans sink.element) sink.pad))
      (undo_within h (pad_id source) place eos low (spans_at g sink) (kept.within sink));
  linked = λ sink. subst (λ (ss : List Span). StandsOnlyFrom (source_before (without source g.links) sink) ss) (sym (undone_at (pad_id source) place eos (g.spans sink.element) sink.pad))
      (undone_only h source place eos g.links sink (spans_at g sink) (kept.within sink) (source_before g.links sink) refl (kept.linked sink));
}

-- a sink pad is given as it was, or is the one that is linked
pub linked_spans : (g : Edited) (source : PadPlace) (place : ℕ) (to sink : PadPlace)
    → (spans_at (linked_at source place to g) sink ≡ spans_at g sink) ⊎ ((sink ≡ to) × (spans_at (linked_at source place to g) sink ≡ spans_at g sink ++ Linked (pad_id source) place [] ∷ []))
linked_spans g source place to sink = go (eqb_tells sink.element to.element) (pushed_at to.pad sink.pad (Linked (pad_id source) place []) (g.spans sink.element))
  where
    go : ((eqb sink.element to.element ≡ true) × (sink.element ≡ to.element)) ⊎ ((eqb sink.element to.element ≡ false) × (sink.element ≡ to.element → ⊥))
        → (get_or (push_span to.pad (Linked (pad_id source) place []) (g.spans sink.element)) sink.pad [] ≡ spans_at g sink)
        ⊎ ((sink.pad ≡ to.pad) × (get_or (push_span to.pad (Linked (pad_id source) place []) (g.spans sink.element)) sink.pad [] ≡ spans_at g sink ++ Linked (pad_id source) place [] ∷ []))
        → (spans_at (linked_at source place to g) sink ≡ spans_at g sink) ⊎ ((sink ≡ to) × (spans_at (linked_at source place to g) sink ≡ spans_at g sink ++ Linked (pad_id source) place [] ∷ []))
    go (inl t) (inl same) = inl (rw t.0 same)
    go (inl t) (inr more) = inr (ap (λ (n : ℕ). place_of n sink.pad) t.1 ∙ ap (λ (n : ℕ). place_of to.element n) more.0, rw t.0 more.1)
    go (inr t) either = inl (rw t.0 refl)

pub linked_kept : (h : ℕ → List Item) (g : Edited) (source : PadPlace) (place : ℕ) (to : PadPlace) → place ≤ length (h (pad_id source)) → source_before g.links to ≡ None → IsKept h g
    → IsKept h (linked_at source place to g)
linked_kept h g source place to low free kept = record {
  within = λ sink. within_by sink (linked_spans g source place to sink);
  linked = λ sink. only_by sink (source_before g.links sink) refl (linked_spans g source place to sink);
}
  where
    free_there : (sink : PadPlace) → sink ≡ to → is_linked (spans_at g sink) ≡ false
    free_there sink same = free_at h g sink kept (ap (source_before g.links) same ∙ free)

    within_by : (sink : PadPlace)
        → (spans_at (linked_at source place to g) sink ≡ spans_at g sink) ⊎ ((sink ≡ to) × (spans_at (linked_at source place to g) sink ≡ spans_at g sink ++ Linked (pad_id source) place [] ∷ []))
        → AreWithin h (spans_at (linked_at source place to g) sink)
    within_by sink (inl same) = subst (λ (ss : List Span). AreWithin h ss) (sym same) (kept.within sink)
    within_by sink (inr more) = subst (λ (ss : List Span). AreWithin h ss) (sym more.1)
        (push_within h (pad_id source) place low (spans_at g sink) (free_there sink more.0) (kept.within sink))

    only_by : (sink : PadPlace) (o : Option PadPlace) → source_before g.links sink ≡ o
        → (spans_at (linked_at source place to g) sink ≡ spans_at g sink) ⊎ ((sink ≡ to) × (spans_at (linked_at source place to g) sink ≡ spans_at g sink ++ Linked (pad_id source) place [] ∷ []))
        → StandsOnlyFrom (source_before (g.links ++ link_between source to ∷ []) sink) (spans_at (linked_at source place to g) sink)
    only_by sink (Some found) e (inl same) =
        subst (λ (o : Option PadPlace). StandsOnlyFrom o (spans_at (linked_at source place to g) sink)) (sym (some_push g.links (link_between source to) sink found e))
        (subst (λ (ss : List Span). links_from (pad_id found) ss ≡ is_linked ss) (sym same) (subst (λ (o : Option PadPlace). StandsOnlyFrom o (spans_at g sink)) e (kept.linked sink)))
    only_by sink (Some found) e (inr more) = absurd (some_or_none (sym e ∙ ap (source_before g.links) more.0 ∙ free))
      where
        some_or_none : {x : PadPlace} → Some x ≡ None → ⊥
        some_or_none e = cc
    only_by sink None e (inl same) =
        free_only (source_before (g.links ++ link_between source to ∷ []) sink) (spans_at (linked_at source place to g) sink)
        (ap is_linked same ∙ free_at h g sink kept e)
    only_by sink None e (inr more) =
        subst (λ (o : Option PadPlace). StandsOnlyFrom o (spans_at (linked_at source place to g) sink))
        (sym (none_push g.links (link_between source to) sink e ∙ ap (λ (b : Bool). if b then Some source else None) (ap (is_same to) more.0 ∙ itself to)))
        (subst (λ (ss : List Span). links_from (pad_id source) ss ≡ is_linked ss) (sym more.1) (push_own (pad_id source) place (spans_at g sink) (free_there sink more.0)))

relinked_kept : (h : ℕ → List Item) (g : Edited) (source : PadPlace) (place : ℕ) (to : PadPlace) → place ≤ length (h (pad_id source)) → ¬ IsTaken g to → IsKept h g
    → IsKept h (relinked_at source place to g)
relinked_kept h g source place to low free kept =
    linked_kept h (unlinked_at source place false g) source place to low (none_before source to g.links (not_taken g to free)) (unlinked_kept h g source place false low kept)

-- the sink pads of an element that is added have no spans
added_kept : (h : ℕ → List Item) (g : Edited) (m : Made) → IsKept h g → IsKept h (added m g)
added_kept h g m kept = record {
  within = λ sink. within_by sink (added_spans sink);
  linked = λ sink. only_by sink (added_spans sink);
}
  where
    added_spans : (sink : PadPlace) → (spans_at (added m g) sink ≡ spans_at g sink) ⊎ (spans_at (added m g) sink ≡ spans_from None)
    added_spans sink = go (eqb_tells sink.element (length g.made))
      where
        go : ((eqb sink.element (length g.made) ≡ true) × (sink.element ≡ length g.made)) ⊎ ((eqb sink.element (length g.made) ≡ false) × (sink.element ≡ length g.made → ⊥))
            → (spans_at (added m g) sink ≡ spans_at g sink) ⊎ (spans_at (added m g) sink ≡ spans_from None)
        go (inl t) = inr (rw t.0 (none_at (sink_pads m.settings) sink.pad))
        go (inr t) = inl (rw t.0 refl)

    within_by : (sink : PadPlace) → (spans_at (added m g) sink ≡ spans_at g sink) ⊎ (spans_at (added m g) sink ≡ spans_from None) → AreWithin h (spans_at (added m g) sink)
    within_by sink (inl same) = subst (λ (ss : List Span). AreWithin h ss) (sym same) (kept.within sink)
    within_by sink (inr none) = subst (λ (ss : List Span). AreWithin h ss) (sym none) tt

    only_by : (sink : PadPlace) → (spans_at (added m g) sink ≡ spans_at g sink) ⊎ (spans_at (added m g) sink ≡ spans_from None)
        → StandsOnlyFrom (source_before g.links sink) (spans_at (added m g) sink)
    only_by sink (inl same) = subst (λ (ss : List Span). StandsOnlyFrom (source_before g.links sink) ss) (sym same) (kept.linked sink)
    only_by sink (inr none) = free_only (source_before g.links sink) (spans_at (added m g) sink) (ap is_linked none)

-- ---- from the start on

pub below_or_not : (a b : ℕ) → (suc a ≤ b) ⊎ (b ≤ a)
below_or_not a b = grind arith

first_within : (h : ℕ → List Item) (o : Option PadPlace) → AreWithin h (spans_from o)
first_within h None = tt
first_within h (Some source) = (omega arith, refl)

first_only : (o : Option PadPlace) → StandsOnlyFrom o (spans_from o)
first_only None = refl
first_only (Some source) = rw (number_itself (pad_id source)) refl

-- at first a sink pad has a link that stands, or none
pub first_spans : (made : List Made) (links : List PadLink) (sink : PadPlace)
    → (spans_at (unedited made links) sink ≡ spans_from (source_before links sink)) ⊎ (spans_at (unedited made links) sink ≡ spans_from None)
first_spans made links sink = go (below_or_not sink.pad (sink_count (slice_get made sink.element)))
  where
    go : (suc sink.pad ≤ sink_count (slice_get made sink.element)) ⊎ (sink_count (slice_get made sink.element) ≤ sink.pad)
        → (spans_at (unedited made links) sink ≡ spans_from (source_before links sink)) ⊎ (spans_at (unedited made links) sink ≡ spans_from None)
    go (inl below) = inl (get_or-map-range_with_len (λ k. spans_from (source_before links (sink_at sink.element k))) 0 (sink_count (slice_get made sink.element)) sink.pad sink.pad [] below (omega arith))
    go (inr past) =
        let all = map (λ k. spans_from (source_before links (sink_at sink.element k))) (range_with_len 0 (sink_count (slice_get made sink.element))) in
        let long : length all ≡ sink_count (slice_get made sink.element) = length-map-range_with_len (λ k. spans_from (source_before links (sink_at sink.element k))) 0 (sink_count (slice_get made sink.element)) in
        inr (get_or_past all sink.pad [] (omega (arith, long)))

begins_kept : (h : ℕ → List Item) (made : List Made) (links : List PadLink) → IsKept h (unedited made links)
begins_kept h made links = record {
  within = λ sink. within_by sink (first_spans made links sink);
  linked = λ sink. only_by sink (first_spans made links sink);
}
  where
    within_by : (sink : PadPlace) → (spans_at (unedited made links) sink ≡ spans_from (source_before links sink)) ⊎ (spans_at (unedited made links) sink ≡ spans_from None)
        → AreWithin h (spans_at (unedited made links) sink)
    within_by sink (inl is) = subst (λ (ss : List Span). AreWithin h ss) (sym is) (first_within h (source_before links sink))
    within_by sink (inr none) = subst (λ (ss : List Span). AreWithin h ss) (sym none) tt

    only_by : (sink : PadPlace) → (spans_at (unedited made links) sink ≡ spans_from (source_before links sink)) ⊎ (spans_at (unedited made links) sink ≡ spans_from None)
        → StandsOnlyFrom (source_before links sink) (spans_at (unedited made links) sink)
    only_by sink (inl is) = subst (λ (ss : List Span). StandsOnlyFrom (source_before links sink) ss) (sym is) (first_only (source_before links sink))
    only_by sink (inr none) = free_only (source_before links sink) (spans_at (unedited made links) sink) (ap is_linked none)

pub grows_kept : (h owed h' owed' : ℕ → List Item) (g : Edited) → GrowsTo h owed h' owed' → IsKept h g → IsKept h' g
grows_kept h owed h' owed' g grows kept = record {
  within = λ sink. within_grows h h' grows.crossed (spans_at g sink) (kept.within sink);
  linked = kept.linked;
}

-- ---- behind answers

-- the place of a command is one that its source pad has
abbrev pub HasCrossed : (ℕ → List Item) → Option PadPlace → ℕ → Type 0
HasCrossed h None place = Unit {0}
HasCrossed h (Some source) place = place ≤ length (h (pad_id source))

pub reached : (g : Edited) (h owed : ℕ → List Item) (when : When) (p : Option PadPlace) (place : ℕ) → Reaches g h owed when p place → HasCrossed h p place
reached g h owed when p place (Reaches.at pad n at source named is) = is.crossed
reached g h owed when p place (Reaches.now_pad pad at source named is) = is.crossed
reached g h owed when p place Reaches.now = tt

made_kept : (h : ℕ → List Item) (g : Edited) (p : Option PadPlace) (place : ℕ) (act : Act) (after : Edited) → Makes g h p place act after → HasCrossed h p place → IsKept h g → IsKept h after
made_kept h g p place act after (Makes.relinks sink source to at named linkable) low kept = relinked_kept h g source at to low linkable.free kept
made_kept h g p place act after (Makes.unlinks eos source to at behind) low kept = unlinked_kept h g source at eos low kept
made_kept h g p place act after (Makes.adds q at kind props m is plain) low kept = added_kept h g m kept
made_kept h g p place act after (Makes.removes q at name e named loose) low kept = record { within = kept.within; linked = kept.linked }

pub answered_kept : (h owed : ℕ → List Item) (g after : Edited) (c : Command) (a : Answer) → IsAnswered g h owed c a after → IsKept h g → IsKept h after
answered_kept h owed g after c a (IsAnswered.done when act p place made reaches makes) kept = made_kept h g p place act made makes (reached g h owed when p place reaches) kept
answered_kept h owed g after c a (IsAnswered.unreached command there never) kept = kept
answered_kept h owed g after c a (IsAnswered.nameless command missing) kept = kept
answered_kept h owed g after c a (IsAnswered.refused when act p place reason there reaches why) kept = kept

reported_kept : (h owed : ℕ → List Item) (g last : Edited) (script : List Command) (entries : List Entry) → AreAnswered h owed g script entries last → IsKept h g → IsKept h last
reported_kept h owed g last script entries (AreAnswered.none same commands) kept = kept
reported_kept h owed g last script entries (AreAnswered.more from next end c commands entry others answered rest) kept =
    reported_kept h owed next end commands others rest (answered_kept h owed from next c entry.answer answered kept)

pub stays_kept : StaysKept
stays_kept = record {
  begins = begins_kept;
  grows = grows_kept;
  answered = answered_kept;
  reported = reported_kept;
  standing = λ h g standing sink. all_within h (g.spans sink.element) sink.pad (standing sink.element);
}
