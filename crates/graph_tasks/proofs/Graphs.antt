-- Sink pads and sources of a graph, and that no pad leads back to the head of its task.
use Rattle.std.proofs.Common.{◌≡◌, ◌<◌, ◌≤◌, ◌⊎◌, ◌||◌, ℕ, Bool, true, false, if◌then◌else◌, List, [], All, Option, None, Some, refl, ap, subst, inl, inr, arith}
use Rattle.std.specs.Prelude.{slice_get}
use Rattle.std.specs.Option.{option_map_or}
use Rattle.el_settings.specs.Asked.{Place, Begins, begins, gathers, is_queue, is_source, place_of, sink_pads}
use Rattle.el_settings.specs.declared.settings.Settings.{Settings}
use Rattle.el_set.specs.Made.{list_of}
use Rattle.el_settings.proofs.Roles.{queue_no_source, source_no_sink}
use Rattle.graph_core.specs.Elements.{Made, has}
use Rattle.graph_core.specs.Graph.{IsSound, made as made_in, links as links_in, forward as forward_in}
use Rattle.graph_core.specs.Links.{HasPads}
use Rattle.graph_pads.specs.Links.{sink_behind}
use Rattle.graph_core.specs.declared.graph.Graph.{Graph}
use Rattle.graph_pads.specs.declared.pad.PadLink.{PadLink}
use Rattle.graph_pads.specs.declared.pad.PadPlace.{PadPlace}
use Rattle.graph_core.proofs.Ranks.{after, after_falls}
use Rattle.graph_parts.specs.Links.{has_inlets, is_head, Reaches}
use Rattle.graph_parts.proofs.Trees.{sink_there}
use Rattle.graph_parts.specs.MomentLaws.{given_by}
use Rattle.graph_tasks.specs.Tasks.{sink_count}
use Rattle.graph_core.specs.GraphPlan.{sink_at as place_at}

-- an element that is fed from inlets does not begin a stream
gathers_on : (place : Place) → gathers place ≡ true → begins place ≡ false
gathers_on Begins is = absurd (cc)
gathers_on _ is = refl

fed_no_source : (s : Settings) → has_inlets s ≡ true → is_source s ≡ false
fed_no_source s is = by (is_queue s) refl is
  where
    by : (queue : Bool) → is_queue s ≡ queue → (queue || gathers (place_of s)) ≡ true → is_source s ≡ false
    by true queue is = queue_no_source s queue
    by false queue is = gathers_on (place_of s) is

module _ (made : List Made) (e : ℕ) where
  -- an element that something is linked to is no source
  with_sinks : (pad : ℕ) → pad < sink_count made e → has is_source made e ≡ false
  with_sinks pad w = go (slice_get made e) w
    where
      go : (found : Option Made) → pad < option_map_or (λ (m : Made). sink_pads m.settings) found 0 → option_map_or (λ (m : Made). is_source m.settings) found false ≡ false
      go None w = refl
      go (Some m) w = by (is_source m.settings) refl
        where
          by : (b : Bool) → is_source m.settings ≡ b → is_source m.settings ≡ false
          by true is = absurd (let none = source_no_sink m.settings is in omega (arith, w, none))
          by false is = is

  -- and neither is one that is fed from inlets
  pub inlets_no_source : has has_inlets made e ≡ true → has is_source made e ≡ false
  inlets_no_source is = go (slice_get made e) is
    where
      go : (found : Option Made) → option_map_or (λ (m : Made). has_inlets m.settings) found false ≡ true → option_map_or (λ (m : Made). is_source m.settings) found false ≡ false
      go None is = absurd (cc)
      go (Some m) is = fed_no_source m.settings is

  -- both are heads
  pub source_head : has is_source made e ≡ true → has is_head made e ≡ true
  source_head is = go (slice_get made e) is
    where
      go : (found : Option Made) → option_map_or (λ (m : Made). is_source m.settings) found false ≡ true → option_map_or (λ (m : Made). is_head m.settings) found false ≡ true
      go None is = absurd (cc)
      go (Some m) is = rw is refl

  pub inlets_head : has has_inlets made e ≡ true → has is_head made e ≡ true
  inlets_head is = go (slice_get made e) is
    where
      or_true : (b d : Bool) → d ≡ true → (b || d) ≡ true
      or_true true d is = refl
      or_true false d is = is

      go : (found : Option Made) → option_map_or (λ (m : Made). has_inlets m.settings) found false ≡ true → option_map_or (λ (m : Made). is_head m.settings) found false ≡ true
      go None is = absurd (cc)
      go (Some m) is = or_true (is_source m.settings) (has_inlets m.settings) is

  -- no other element gives anything by itself
  pub gives_none : (content : List ℕ) → has is_source made e ≡ false → given_by (slice_get made e) e content ≡ []
  gives_none content is = go (slice_get made e) is
    where
      go : (found : Option Made) → option_map_or (λ (m : Made). is_source m.settings) found false ≡ false → given_by found e content ≡ []
      go None is = refl
      go (Some m) is = ap (λ (b : Bool). if b then list_of m.settings e content else []) is

module _ (made : List Made) (links : List PadLink) (all : All (HasPads made) links) where
  linked_no_source : (source sink : PadPlace) → sink_behind links source ≡ Some sink → has is_source made sink.element ≡ false
  linked_no_source source sink at = with_sinks made sink.element sink.pad (sink_there made links all source sink at)

  -- a head is reached by itself, and each other element has a sink pad
  pub reached_by : (head e : ℕ) → Reaches made links head e → (head ≡ e) ⊎ (has is_source made e ≡ false)
  reached_by head e Reaches.itself = inl refl
  reached_by head e (Reaches.further a d r l) = inr (subst (λ (n : ℕ). has is_source made n ≡ false) l.element (linked_no_source (place_at a l.pad) l.sink l.linked))

-- what a head reaches stands no earlier in the order
module _ (graph : Graph) (sound : IsSound graph) where
  later : (head e : ℕ) → Reaches (made_in graph) (links_in graph) head e → after e (forward_in graph) ≤ after head (forward_in graph)
  later head e Reaches.itself = omega arith
  later head e (Reaches.further a d r l) =
      let rest = later head a r in
      let falls = after_falls (made_in graph) graph.links sound.order (place_at a l.pad) l.sink l.linked in
      let here = ap (λ (n : ℕ). after n (forward_in graph)) l.element in
      omega (arith, rest, falls, here)

  -- so it leads not back
  pub no_loop : (head e pad : ℕ) (sink : PadPlace) → Reaches (made_in graph) (links_in graph) head e → sink_behind (links_in graph) (place_at e pad) ≡ Some sink → sink.element ≡ head → ⊥
  no_loop head e pad sink r at same =
      let rest = later head e r in
      let falls = after_falls (made_in graph) graph.links sound.order (place_at e pad) sink at in
      let here = ap (λ (n : ℕ). after n (forward_in graph)) same in
      omega (arith, rest, falls, here)
