-- Sources and heads of a graph, and its order, in which each link goes forward.
use Rattle.std.proofs.Common.{◌≡◌, ◌<◌, ◌≤◌, ◌-◌, ◌||◌, ℕ, Bool, true, false, if◌then◌else◌, List, [], Option, None, Some, length, refl, ap, arith}
use Rattle.std.specs.Prelude.{slice_get}
use Rattle.std.specs.Option.{option_map_or}
use Rattle.el_set.specs.Made.{list_of}
use Rattle.graph_core.specs.Elements.{Made, has}
use Rattle.graph_core.specs.Graph.{IsSound, made as made_in, links as links_in, forward as forward_in}
use Rattle.graph_pads.specs.Links.{sink_behind}
use Rattle.graph_core.specs.declared.graph.Graph.{Graph}
use Rattle.graph_pads.specs.declared.pad.PadPlace.{PadPlace}
use Rattle.graph_core.proofs.Ranks.{after, after_falls, after_most}
use Rattle.graph_parts.specs.Links.{has_inlets, is_head, Reaches}
use Rattle.el_settings.specs.Asked.{is_source}
use Rattle.graph_parts.specs.MomentLaws.{given_by}
use Rattle.graph_core.specs.GraphPlan.{sink_at as place_at}

-- a source and an element that is fed from inlets are heads
module _ (made : List Made) (e : ℕ) where
  pub source_head : has is_source made e ≡ true → has is_head made e ≡ true
  source_head is = go (slice_get made e) is
    where
      go : (found : Option Made) → option_map_or (λ (m : Made). is_source m.settings) found false ≡ true
          → option_map_or (λ (m : Made). is_head m.settings) found false ≡ true
      go None is = absurd (cc)
      go (Some m) is = rw is refl

  pub inlets_head : has has_inlets made e ≡ true → has is_head made e ≡ true
  inlets_head is = go (slice_get made e) is
    where
      or_true : (b d : Bool) → d ≡ true → (b || d) ≡ true
      or_true true d is = refl
      or_true false d is = is

      go : (found : Option Made) → option_map_or (λ (m : Made). has_inlets m.settings) found false ≡ true
          → option_map_or (λ (m : Made). is_head m.settings) found false ≡ true
      go None is = absurd (cc)
      go (Some m) is = or_true (is_source m.settings) (has_inlets m.settings) is

  -- no element but a source gives anything by itself
  pub gives_none : (content : List ℕ) → has is_source made e ≡ false → given_by (slice_get made e) e content ≡ []
  gives_none content is = go (slice_get made e) is
    where
      go : (found : Option Made) → option_map_or (λ (m : Made). is_source m.settings) found false ≡ false → given_by found e content ≡ []
      go None is = refl
      go (Some m) is = ap (λ (b : Bool). if b then list_of m.settings e content else []) is

-- how far an element stands in the order
pub rank : Graph → ℕ → ℕ
rank graph e = length (forward_in graph) - after e (forward_in graph)

module _ (graph : Graph) (sound : IsSound graph) where
  -- a link goes forward
  pub rank_rises : (source sink : PadPlace) → sink_behind (links_in graph) source ≡ Some sink → rank graph source.element < rank graph sink.element
  unfolding rank
  rank_rises source sink at =
      let falls = after_falls (made_in graph) graph.links sound.order source sink at in
      let most = after_most source.element (forward_in graph) in
      omega (arith, falls, most)

  -- so what a head reaches stands no earlier
  pub reached_later : (head e : ℕ) → Reaches (made_in graph) (links_in graph) head e → rank graph head ≤ rank graph e
  reached_later head e Reaches.itself = omega arith
  reached_later head e (Reaches.further a d r l) =
      let rest = reached_later head a r in
      let rises = rank_rises (place_at a l.pad) l.sink l.linked in
      let here = ap (rank graph) l.element in
      omega (arith, rest, rises, here)
