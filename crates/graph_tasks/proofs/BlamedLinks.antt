-- Source pads of a graph that lead nowhere are not linked.
use Rattle.std.proofs.Common.{◌≡◌, ℕ, true, List, ◌∷◌, Option, None, Some, refl, sym, ap, ◌∙◌, subst}
use Rattle.flow_model.specs.Eval.{Plan}
use Rattle.flow_model.specs.Item.{Item, is_buffer}
use Rattle.flow_model.specs.Moment.{Moment}
use Rattle.flow_model.specs.Step.{LeadsNowhere}
use Rattle.graph_core.specs.Graph.{IsSound, made as made_in, links as links_in}
use Rattle.graph_pads.specs.Links.{sink_behind}
use Rattle.graph_core.specs.LinkedOnce.{AreOnce}
use Rattle.graph_core.specs.declared.graph.Graph.{Graph}
use Rattle.graph_pads.specs.declared.pad.PadPlace.{PadPlace}
use Rattle.graph_core.specs.GraphPlan.{owner_of, pad_id, sink_at as place_at}
use Rattle.graph_parts.specs.MomentLaws.{place_of}
use Rattle.graph_parts.specs.Plans.{moment_plan}
use Rattle.graph_parts.proofs.MomentLeading.{links_lead}
use Rattle.graph_parts.proofs.Sources.{linked_there, owner_is}
use Rattle.graph_parts.proofs.Wholes.{pads_have_numbers}
use Rattle.graph_tasks.specs.Owed.{WantsLink}
use Rattle.graph_tasks.specs.Runs.{RunStands, crossed_in}
use Rattle.graph_tasks.proofs.Awaited.{next_at, waits_at_pad}
use Rattle.net_turns.proofs.Facts.{at_nowhere as leads_one}

module _ (contents : ℕ → List ℕ) (graph : Graph) (m : Moment) (sound : IsSound graph) (once : AreOnce (links_in graph)) (run : RunStands contents graph m) where
  -- an element all of whose pads lead nowhere has none that is linked
  alone : (e : ℕ) → ((q : ℕ) → m.plan.owner q ≡ e → LeadsNowhere m.plan q) → (pad : ℕ) → sink_behind (links_in graph) (place_at e pad) ≡ None
  alone e nowhere pad = go (sink_behind (links_in graph) (place_at e pad)) refl
    where
      go : (found : Option PadPlace) → sink_behind (links_in graph) (place_at e pad) ≡ found → sink_behind (links_in graph) (place_at e pad) ≡ None
      go None at = at
      go (Some sink) at =
          let number = pads_have_numbers (made_in graph) (place_at e pad)
          (linked_there (made_in graph) (links_in graph) sound.pads sink (place_at e pad) (once.there (place_at e pad) sink at)) in
          let lead = links_lead contents graph (place_at e pad) sink sound once at in
          let none = nowhere (pad_id (place_at e pad)) (subst (λ (pl : Plan). pl.owner (pad_id (place_at e pad)) ≡ e) (sym run.plan) number.owner) in
          absurd (leads_one (pad_id (place_at e pad)) sink.pad ((moment_plan contents graph).sinks sink.element) lead.here
          (subst (λ (pl : Plan). LeadsNowhere pl (pad_id (place_at e pad))) run.plan none sink.element))

  -- a buffer that waits first at a pad of such an element wants a link
  pub unlinked : (p : ℕ) (x : Item) (rest : List Item) → m.waits p ≡ x ∷ rest → is_buffer x ≡ true
      → ((q : ℕ) → m.plan.owner q ≡ m.plan.owner p → LeadsNowhere m.plan q)
      → WantsLink contents (made_in graph) (links_in graph) (crossed_in graph m) (place_of p)
  unlinked p x rest waits buffer nowhere =
      let pad = waits_at_pad contents graph m sound run p x rest waits in
      let own : m.plan.owner p ≡ owner_of p = ap (λ (pl : Plan). pl.owner p) run.plan ∙ owner_is (made_in graph) p pad in
      record {
        alone = alone (owner_of p) (λ q same. nowhere q (same ∙ sym own));
        item = x;
        next = next_at contents graph m sound run p x rest waits;
        buffer = buffer;
      }
