-- Where source pads lead in a graph whose pads are linked once.
use Rattle.std.proofs.Common.{◌≡◌, ◌<◌, ◌≤◌, ◌⊎◌, ◌+◌, ℕ, zero, suc, true, false, eqb, ◌&&◌, if◌then◌else◌, List, All, Option, None, Some, map, refl, sym, ap, ◌∙◌, subst, inl, inr, arith}
use Rattle.std.specs.Prelude.{slice_get}
use Rattle.std.specs.List.{range_with_len}
use Rattle.std.proofs.lemmas.Bool.Decides.{eqb_tells}
use Rattle.flow_model.specs.Link.{Span}
use Rattle.flow_model.specs.Standing.{links_from, LinksNowhere, LinksAt}
use Rattle.graph_core.specs.Elements.{Made}
use Rattle.graph_core.specs.Graph.{made as made_in, links as links_in}
use Rattle.graph_core.specs.Links.{HasPads}
use Rattle.graph_pads.specs.Links.{is_same, sink_behind, source_before}
use Rattle.graph_pads.specs.declared.pad.PadLink.{PadLink}
use Rattle.graph_pads.specs.declared.pad.PadPlace.{PadPlace}
use Rattle.graph_core.specs.LinkedOnce.{AreOnce}
use Rattle.graph_core.specs.GraphPlan.{pad_id, spans_from, sink_at, sink_count, line_plan}
use Rattle.graph_core.proofs.NumberedPads.{found_in, same_pad as same_number}
use Rattle.graph_core.proofs.Orders.{pads_at_link}
use Rattle.graph_parts.specs.MomentLaws.{LinksLead, UnlinkedLead}
use Rattle.graph_parts.proofs.Sources.{sinks_are, few_there, linked_there}
use Rattle.gst_value.proofs.Basics.{none_some, some_same, false_of as not_so, number_itself}

-- at some sink pads from one on a source pad leads nowhere
nowhere_from : (p : ℕ) (f : ℕ → List Span) (start n : ℕ) → ((k : ℕ) → start ≤ k → links_from p (f k) ≡ false) → LinksNowhere p (map f (range_with_len start n))
nowhere_from p f start zero none = tt
nowhere_from p f start (suc n) none = (none start (omega arith), nowhere_from p f (start + 1) n (λ k w. none k (omega (arith, w))))

-- it leads to one of them, and to no other
leads_at : (p : ℕ) (f : ℕ → List Span) (j i start n : ℕ) → j ≡ start + i → i < n → ((k : ℕ) → (k ≡ j → ⊥) → links_from p (f k) ≡ false) → links_from p (f j) ≡ true
    → LinksAt p i (map f (range_with_len start n))
leads_at p f j i start zero is few none here = absurd (omega (arith, few))
leads_at p f j zero start (suc n) is few none here =
    let first : j ≡ start = omega (arith, is) in
    (subst (λ k. links_from p (f k) ≡ true) first here, nowhere_from p f (start + 1) n (λ k w. none k (λ same. absurd (omega (arith, w, same, is)))))
leads_at p f j (suc i) start (suc n) is few none here =
    (none start (λ same. absurd (omega (arith, same, is))), leads_at p f j i (start + 1) n (omega (arith, is)) (omega (arith, few)) none here)

place_of : ℕ → ℕ → PadPlace
place_of element pad = record { element = element; pad = pad }

pub alike : (one other : PadPlace) → one.element ≡ other.element → one.pad ≡ other.pad → one ≡ other
unfolding place_of
alike one other e p = ap (λ (n : ℕ). place_of n one.pad) e ∙ ap (λ (n : ℕ). place_of other.element n) p

same_place : (one other : PadPlace) → is_same one other ≡ true → one ≡ other
same_place one other e = go (eqb_tells one.element other.element) (eqb_tells one.pad other.pad) e
  where
    go : ((eqb one.element other.element ≡ true) × (one.element ≡ other.element)) ⊎ ((eqb one.element other.element ≡ false) × (one.element ≡ other.element → ⊥))
        → ((eqb one.pad other.pad ≡ true) × (one.pad ≡ other.pad)) ⊎ ((eqb one.pad other.pad ≡ false) × (one.pad ≡ other.pad → ⊥)) → (eqb one.element other.element && eqb one.pad other.pad) ≡ true → one ≡ other
    go (inl s) (inl t) e = alike one other s.1 t.1
    go (inl s) (inr t) e = absurd (no (rw (s.0, t.0) at e))
      where
        no : false ≡ true → ⊥
        no e = cc
    go (inr s) t e = absurd (no (rw s.0 at e))
      where
        no : false ≡ true → ⊥
        no e = cc

-- the link of a sink pad comes from its source pad
from_itself : (source : PadPlace) → links_from (pad_id source) (spans_from (Some source)) ≡ true
from_itself source = rw (number_itself (pad_id source)) refl

-- and from no other
from_one : (source : PadPlace) (found : Option PadPlace) → source.pad < 64 → ((s : PadPlace) → found ≡ Some s → s.pad < 64) → links_from (pad_id source) (spans_from found) ≡ true → found ≡ Some source
from_one source None few fews e = absurd (no e)
  where
    no : false ≡ true → ⊥
    no e = cc
from_one source (Some s) few fews e = go (eqb_tells (pad_id s) (pad_id source)) e
  where
    go : ((eqb (pad_id s) (pad_id source) ≡ true) × (pad_id s ≡ pad_id source)) ⊎ ((eqb (pad_id s) (pad_id source) ≡ false) × (pad_id s ≡ pad_id source → ⊥))
        → (if eqb (pad_id s) (pad_id source) then true else false) ≡ true → Some s ≡ Some source
    go (inl t) e = ap Some (same_number s source (fews s refl) few t.1)
    go (inr t) e = absurd (no (rw t.0 at e))
      where
        no : false ≡ true → ⊥
        no e = cc

module _ (made : List Made) (links : List PadLink) (all : All (HasPads made) links) (once : AreOnce links) where
  -- a link of a sink pad from a source pad
  behind_it : (source : PadPlace) → source.pad < 64 → (a k : ℕ) → links_from (pad_id source) (spans_from (source_before links (sink_at a k))) ≡ true → sink_behind links source ≡ Some (sink_at a k)
  behind_it source few a k e =
      once.back source (sink_at a k)
      (from_one source (source_before links (sink_at a k)) few (λ s at. few_there made s (linked_there made links all (sink_at a k) s at)) e)

  nowhere : (source : PadPlace) → source.pad < 64 → sink_behind links source ≡ None → (a k : ℕ) → links_from (pad_id source) (spans_from (source_before links (sink_at a k))) ≡ false
  nowhere source few none a k = not_so _ (λ e. absurd (none_some (sym none ∙ behind_it source few a k e)))

  elsewhere : (source sink : PadPlace) → source.pad < 64 → sink_behind links source ≡ Some sink → (a k : ℕ) → (sink ≡ sink_at a k → ⊥)
      → links_from (pad_id source) (spans_from (source_before links (sink_at a k))) ≡ false
  elsewhere source sink few at a k other = not_so _ (λ e. other (some_same (sym at ∙ behind_it source few a k e)))

  here : (source sink : PadPlace) → sink_behind links source ≡ Some sink → links_from (pad_id source) (spans_from (source_before links (sink_at sink.element sink.pad))) ≡ true
  here source sink at = subst (λ (o : Option PadPlace). links_from (pad_id source) (spans_from o) ≡ true) (sym (once.there source sink at)) (from_itself source)

  -- the sink pad is there
  sink_there : (source sink : PadPlace) → sink_behind links source ≡ Some sink → sink.pad < sink_count (slice_get made sink.element)
  sink_there source sink at =
      let found = found_in links sink source (once.there source sink at) in
      let pad = subst (λ (n : ℕ). found.0.sink.pad < n) (sinks_are (slice_get made found.0.sink.element)) (pads_at_link made links all found.0 found.1).1 in
      subst (λ (place : PadPlace). place.pad < sink_count (slice_get made place.element)) (same_place found.0.sink sink found.3) pad

  few_source : (source sink : PadPlace) → sink_behind links source ≡ Some sink → source.pad < 64
  few_source source sink at = few_there made source (linked_there made links all sink source (once.there source sink at))

pub links_lead : LinksLead
unfolding line_plan
links_lead contents graph source sink sound once at =
    let made = made_in graph in
    let links = links_in graph in
    let few = few_source made links sound.pads once source sink at in
    record {
      here =
          leads_at (pad_id source) (λ k. spans_from (source_before links (sink_at sink.element k))) sink.pad sink.pad 0 (sink_count (slice_get made sink.element)) (omega arith)
          (sink_there made links sound.pads once source sink at) (λ k other. elsewhere made links sound.pads once source sink few at sink.element k (λ same. other (sym (ap (λ (place : PadPlace). place.pad) same))))
          (here made links sound.pads once source sink at);
      elsewhere = λ a other.
          nowhere_from (pad_id source) (λ k. spans_from (source_before links (sink_at a k))) 0 (sink_count (slice_get made a))
          (λ k w. elsewhere made links sound.pads once source sink few at a k (λ same. other (sym (ap (λ (place : PadPlace). place.element) same))));
    }

pub unlinked_lead : UnlinkedLead
unfolding line_plan
unlinked_lead contents graph source sound once there none a =
    nowhere_from (pad_id source) (λ k. spans_from (source_before (links_in graph) (sink_at a k))) 0 (sink_count (slice_get (made_in graph) a))
    (λ k w. nowhere (made_in graph) (links_in graph) sound.pads once source (few_there (made_in graph) source there) none a k)
