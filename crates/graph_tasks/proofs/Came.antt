-- What came to the sink pads of elements, and which source pads are before them.
use Rattle.std.proofs.Common.{◌≡◌, ◌<◌, ◌⊎◌, ◌+◌, ◌%◌, ℕ, zero, suc, true, false, eqb, if◌then◌else◌, List, [], ◌∷◌, Option, None, Some, map, refl, sym}
use Rattle.std.proofs.Common.{ap, ap₂, ◌∙◌, subst, inl, inr, arith}
use Rattle.std.specs.Prelude.{slice_get}
use Rattle.std.specs.List.{range_with_len}
use Rattle.std.proofs.lemmas.Bool.{ltb-true}
use Rattle.std.proofs.lemmas.Bool.Decides.{eqb_tells}
use Rattle.flow_model.specs.Call.{feeds}
use Rattle.flow_model.specs.Eval.{inputs}
use Rattle.flow_model.specs.Item.{Item}
use Rattle.flow_model.specs.Link.{Span, input_of}
use Rattle.flow_model.specs.Standing.{links_from, LinksAt}
use Rattle.flow_model.specs.Step.{Leads}
use Rattle.graph_core.specs.Elements.{Made}
use Rattle.graph_core.specs.Graph.{IsSound, made as made_in, links as links_in}
use Rattle.graph_pads.specs.Links.{source_before}
use Rattle.graph_core.specs.declared.graph.Graph.{Graph}
use Rattle.graph_pads.specs.declared.pad.PadPlace.{PadPlace}
use Rattle.graph_core.specs.GraphPlan.{before_it, line_plan, owner_of, pad_id, sink_at, sink_count, spans_from, sink_at as place_at}
use Rattle.graph_core.proofs.NumberedPads.{given_calls, owner_at, port_at}
use Rattle.graph_parts.specs.MomentLaws.{place_of}
use Rattle.graph_parts.specs.Pads.{IsThere, at_pads, is_pad}
use Rattle.graph_parts.specs.Plans.{moment_plan}
use Rattle.graph_parts.proofs.Sources.{few_there, linked_there, place_is_pad}
use Rattle.graph_tasks.specs.Owed.{came_to, inputs_to}
use Rattle.gst_value.proofs.Basics.{no_true}
use Rattle.graph_parts.specs.Links.{source_count}

-- the number of a source pad tells its place
pub number_at : (p : ℕ) → p ≡ pad_id (place_of p)
number_at p = omega arith

pub there_at : (made : List Made) (p : ℕ) → is_pad made p ≡ true → IsThere made (place_of p)
there_at made p pad = ltb-true (p % 64) (source_count made (owner_of p)) pad

pub place_again : (place : PadPlace) → place.pad < 64 → place_of (pad_id place) ≡ place
place_again place few = ap₂ place_at (owner_at place few) (port_at place few)

-- a source pad leads to a sink pad that is there, and that is linked to it
linked_at : (p : ℕ) (f : ℕ → List Span) (start n i : ℕ) → LinksAt p i (map f (range_with_len start n)) → (i < n) × (links_from p (f (start + i)) ≡ true)
linked_at p f start zero i at = absurd at
linked_at p f start (suc n) zero at =
    let same : start ≡ start + 0 = omega arith in
    (omega arith, subst (λ (k : ℕ). links_from p (f k) ≡ true) same at.0)
linked_at p f start (suc n) (suc i) at =
    let later = linked_at p f (start + 1) n i at.1 in
    let same : start + 1 + i ≡ start + suc i = omega arith in
    (omega (arith, later.0), subst (λ (k : ℕ). links_from p (f k) ≡ true) same later.1)

source_of : (p : ℕ) (found : Option PadPlace) → links_from p (spans_from found) ≡ true → (source : PadPlace) × (found ≡ Some source) × (pad_id source ≡ p)
source_of p None is = absurd (no_true is)
source_of p (Some s) is = go (eqb_tells (pad_id s) p) is
  where
    go : ((eqb (pad_id s) p ≡ true) × (pad_id s ≡ p)) ⊎ ((eqb (pad_id s) p ≡ false) × (pad_id s ≡ p → ⊥)) → (if eqb (pad_id s) p then true else false) ≡ true
        → (source : PadPlace) × (Some s ≡ Some source) × (pad_id source ≡ p)
    go (inl t) is = (s, refl, t.1)
    go (inr f) is = absurd (no_true (rw f.0 at is))

-- a pad that leads to a sink pad is linked to it
pub record IsBefore (graph : Graph) (p n i : ℕ) : Type 0 where
  pub few : i < sink_count (slice_get (made_in graph) n)
  pub linked : source_before (links_in graph) (place_at n i) ≡ Some (place_of p)

pub leads_from : (contents : ℕ → List ℕ) (graph : Graph) → IsSound graph → (p n i : ℕ) → Leads (moment_plan contents graph) p n i → IsBefore graph p n i
unfolding line_plan
leads_from contents graph sound p n i leads =
    let at = linked_at p (λ k. spans_from (source_before (links_in graph) (sink_at n k))) 0 (sink_count (slice_get (made_in graph) n)) i leads.here in
    let same : 0 + i ≡ i = omega arith in
    let from = source_of p (source_before (links_in graph) (place_at n i))
    (subst (λ (k : ℕ). links_from p (spans_from (source_before (links_in graph) (sink_at n k))) ≡ true) same at.1) in
    let few = few_there (made_in graph) from.0 (linked_there (made_in graph) (links_in graph) sound.pads (place_at n i) from.0 from.1) in
    record { few = at.0; linked = from.1 ∙ ap Some (sym (place_again from.0 few) ∙ ap place_of from.2) }

module _ (graph : Graph) (sound : IsSound graph) (h : ℕ → List Item) where
  -- what came to a sink pad crossed the pad before it
  pub came_is : (sink : PadPlace) → came_to (links_in graph) (at_pads (made_in graph) h) sink ≡ before_it h (source_before (links_in graph) sink)
  came_is sink = go (source_before (links_in graph) sink) refl
    where
      go : (found : Option PadPlace) → source_before (links_in graph) sink ≡ found → before_it (at_pads (made_in graph) h) found ≡ before_it h found
      go None at = refl
      go (Some source) at = rw (place_is_pad (made_in graph) source (linked_there (made_in graph) (links_in graph) sound.pads sink source at)) refl

  given_at : (n : ℕ) (ks : List ℕ) → map (input_of h) (map (λ (k : ℕ). spans_from (source_before (links_in graph) (sink_at n k))) ks)
      ≡ map feeds (map (λ (k : ℕ). came_to (links_in graph) (at_pads (made_in graph) h) (place_at n k)) ks)
  given_at n [] = refl
  given_at n (k ∷ ks) =
      ap₂ (λ calls rest. calls ∷ rest) (given_calls h (source_before (links_in graph) (place_at n k)) ∙ ap feeds (sym (came_is (place_at n k)))) (given_at n ks)

  -- an element is given what came to its sink pads
  pub given_is : (contents : ℕ → List ℕ) (n : ℕ)
      → inputs (moment_plan contents graph) h n ≡ map feeds (inputs_to (made_in graph) (links_in graph) (at_pads (made_in graph) h) n)
  unfolding line_plan
  given_is contents n = given_at n (range_with_len 0 (sink_count (slice_get (made_in graph) n)))
