-- A source pad of a graph's task where the run begins: its number, where it leads, and what waits there.
use Rattle.std.proofs.Common.{◌≡◌, ◌<◌, ℕ, List, [], Option, refl, sym, ap, ◌∙◌, subst, arith}
use Rattle.std.specs.Prelude.{slice_get}
use Rattle.flow_model.specs.Item.{Item}
use Rattle.lane_core.specs.declared.ends.Outlet as outlets
use Rattle.flow_model.specs.Moment.{Moment}
use Rattle.flow_model.specs.Opening.{opening}
use Rattle.graph_core.specs.Graph.{IsSound, made as made_in, links as links_in}
use Rattle.graph_pads.specs.Links.{sink_behind}
use Rattle.graph_core.specs.declared.graph.Graph.{Graph}
use Rattle.graph_pads.specs.declared.pad.PadPlace.{PadPlace}
use Rattle.graph_core.specs.LinkedOnce.{AreOnce}
use Rattle.graph_core.specs.GraphPlan.{pad_id, sink_at as place_at}
use Rattle.graph_parts.specs.Links.{source_count}
use Rattle.graph_parts.specs.Plans.{moment_plan, moment_answers}
use Rattle.graph_parts.specs.MomentLaws.{HasNumber, given_by}
use Rattle.graph_parts.proofs.MomentLeading.{links_lead, unlinked_lead}
use Rattle.graph_parts.proofs.Rules.{sources_wait}
use Rattle.graph_parts.proofs.Wholes.{pads_have_numbers}
use Rattle.task_pads.specs.declared.pad.Pad.{Pad}
use Rattle.task_pads.specs.declared.pad.Behind.{Behind}
use Rattle.task_pads.specs.declared.pad.Behind.TheVariants as behinds
use Rattle.task_pads.specs.Behind.{Goes, SentIn, WentIn, goes, inside, nowhere, over}
use Rattle.task_pads.specs.Pads.{SentOver, goes_of, number_of}
use Rattle.net_task.specs.Ties.{LeadsAs, PadLinked}
use Rattle.graph_tasks.specs.Tasks.{IsPadOf, LeadsTo}
use Rattle.graph_tasks.proofs.Lists.{none_behind, none_held}

-- the moment at which the run of a graph begins
abbrev pub start : (ℕ → List ℕ) → Graph → Moment
start contents graph = opening (moment_plan contents graph) (moment_answers graph)

nowhere_over : {A : Type 0} {lane n i from : ℕ} → nowhere ≡ over lane n i from → A
nowhere_over e = absurd (cc)

inside_over : {A : Type 0} {a b lane n i from : ℕ} → inside a b ≡ over lane n i from → A
inside_over e = absurd (cc)

over_from : {a b c d lane n i from : ℕ} → over a b c d ≡ over lane n i from → from ≡ d
over_from e = cc

module _ {O L : Type 0} (o : outlets.Ghosts O L) where
  -- a lane into which nothing went, made at the start of its pad
  sent_in : (behind : Behind O) → ((lane n i from : ℕ) → goes behind ≡ over lane n i from → (from ≡ 0) × WentIn o behind []) → SentIn o behind []
  sent_in behinds.Nothing none = tt
  sent_in (behinds.Element number hint pad) none = tt
  sent_in (behinds.Lane lane number pad from outlet) none =
      let t = none lane number pad from refl in
      let first = t.0 in
      (omega (arith, first), subst (λ (xs : List Item). o.sent outlet xs) (sym (none_behind from [] refl)) t.1)

module _ {O L : Type 0} (o : outlets.Ghosts O L) (contents : ℕ → List ℕ) (graph : Graph) (sound : IsSound graph) (once : AreOnce (links_in graph)) where
  sent_none : (pad : Pad O) (found : Option PadPlace) → LeadsTo o (made_in graph) (links_in graph) pad found → SentOver o pad []
  sent_none pad found (LeadsTo.nothing leads) = sent_in o pad.behind (λ lane n i from same. nowhere_over (sym leads ∙ same))
  sent_none pad found (LeadsTo.element sink inner leads) = sent_in o pad.behind (λ lane n i from same. inside_over (sym leads ∙ same))
  sent_none pad found (LeadsTo.lane sink outer into) = sent_in o pad.behind (λ lane n i from same. (over_from (sym into.goes ∙ same), into.sent))

  leads_there : (n k : ℕ) (pad : Pad O) → k < source_count (made_in graph) n → (found : Option PadPlace) → sink_behind (links_in graph) (place_at n k) ≡ found
      → LeadsTo o (made_in graph) (links_in graph) pad found → LeadsAs (start contents graph) (pad_id (place_at n k)) (goes_of pad)
  leads_there n k pad there found at (LeadsTo.nothing leads) =
      subst (λ (g : Goes). LeadsAs (start contents graph) (pad_id (place_at n k)) g) (sym leads) (unlinked_lead contents graph (place_at n k) sound once there at)
  leads_there n k pad there found at (LeadsTo.element sink inner leads) =
      subst (λ (g : Goes). LeadsAs (start contents graph) (pad_id (place_at n k)) g) (sym leads)
      (links_lead contents graph (place_at n k) sink sound once at, none_held sink.pad ((moment_plan contents graph).sinks sink.element))
  leads_there n k pad there found at (LeadsTo.lane sink outer into) =
      subst (λ (g : Goes). LeadsAs (start contents graph) (pad_id (place_at n k)) g) (sym into.goes) (links_lead contents graph (place_at n k) sink sound once at)

  pub pad_linked : (n k : ℕ) (pad : Pad O) → k < source_count (made_in graph) n → IsPadOf o (made_in graph) (links_in graph) n k pad → PadLinked o (start contents graph) pad
  pad_linked n k pad there is =
      record {
        crossed = is.fresh;
        leads = subst (λ (p : ℕ). LeadsAs (start contents graph) p (goes_of pad)) (sym is.number) (leads_there n k pad there (sink_behind (links_in graph) (place_at n k)) refl is.leads);
        sent = sent_none pad (sink_behind (links_in graph) (place_at n k)) is.leads;
      }

  -- it is that pad of the element
  pub pad_number : (n k : ℕ) (pad : Pad O) → k < source_count (made_in graph) n → IsPadOf o (made_in graph) (links_in graph) n k pad → HasNumber (made_in graph) (place_at n k) (number_of pad)
  pad_number n k pad there is = subst (λ (p : ℕ). HasNumber (made_in graph) (place_at n k) p) (sym is.number) (pads_have_numbers (made_in graph) (place_at n k) there)

  -- what the element gives by itself waits there
  pub pad_waits : (n k : ℕ) (pad : Pad O) → k < source_count (made_in graph) n → IsPadOf o (made_in graph) (links_in graph) n k pad
      → (start contents graph).waits (number_of pad) ≡ given_by (slice_get (made_in graph) n) n (contents n)
  pad_waits n k pad there is =
      sources_wait contents graph (number_of pad)
      ∙ ap (λ (a : ℕ). given_by (slice_get (made_in graph) a) a (contents a)) (pad_number n k pad there is).owner
