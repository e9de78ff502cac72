-- The sink pads of a live element of which no link makes one are linked to live elements.
use Rattle.std.proofs.Common.{◌≡◌, ◌<◌, ℕ, Bool, true, false, Option, None, Some, refl, sym, ap, ap₂, ◌∙◌, subst, arith}
use Rattle.std.specs.Prelude.{slice_get}
use Rattle.std.specs.Option.{option_map_or}
use Rattle.el_settings.specs.Asked.{is_source, makes_sinks, sink_pads}
use Rattle.el_settings.proofs.Roles.{other_sinks, source_no_sink}
use Rattle.graph_core.specs.Elements.{Made, has}
use Rattle.graph_core.specs.Graph.{IsGraph, IsSound, made as made_in, links as links_in}
use Rattle.graph_core.specs.GraphPlan.{sink_at, sink_count}
use Rattle.graph_core.specs.LinkedOnce.{AreOnce}
use Rattle.graph_pads.specs.Links.{source_before}
use Rattle.graph_core.specs.Live.{Live}
use Rattle.graph_core.specs.declared.graph.Graph.{Graph}
use Rattle.launch_text.specs.declared.tree.Tree.{Tree}
use Rattle.graph_parts.proofs.Sources.{sinks_are}
use Rattle.graph_tasks.proofs.EndedLive.{IsLinkedLive, between}

-- an element of which no link makes a sink pad has one at the most
only_sink : (found : Option Made) (pad : ℕ) → option_map_or (λ (m : Made). makes_sinks m.settings) found false ≡ false → pad < sink_count found → pad ≡ 0
only_sink None pad single w = absurd (omega (arith, w))
only_sink (Some m) pad single w = go (is_source m.settings) refl
  where
    go : (b : Bool) → is_source m.settings ≡ b → pad ≡ 0
    go true source = let no_pad = source_no_sink m.settings source in omega (arith, w, no_pad)
    go false other = let one = other_sinks m.settings other single in omega (arith, w, one)

module _ (tree : Tree) (graph : Graph) (is : IsGraph tree graph) (sound : IsSound graph) (once : AreOnce (links_in graph)) where
  -- the sink pad of a link to an element is there
  sink_there : (n pad : ℕ) (element : ℕ) → element ≡ n → pad < option_map_or (λ (m : Made). sink_pads m.settings) (slice_get (made_in graph) element) 0
      → pad < sink_count (slice_get (made_in graph) n)
  sink_there n pad element same w =
      subst (λ (count : ℕ). pad < count) (sinks_are (slice_get (made_in graph) n))
      (subst (λ (d : ℕ). pad < option_map_or (λ (m : Made). sink_pads m.settings) (slice_get (made_in graph) d) 0) same w)

  pub one_linked : (n : ℕ) → Live (made_in graph) (links_in graph) n → has makes_sinks (made_in graph) n ≡ false → (k : ℕ) → k < sink_count (slice_get (made_in graph) n)
      → IsLinkedLive tree graph is sound once n k
  one_linked n (Live.source x m at source) single k w =
      absurd (let count = ap sink_count at in let no_pad = source_no_sink m.settings source in omega (arith, w, no_pad, count))
  one_linked n (Live.fed a b live link) single k w =
      let l = between tree graph is sound once a b link in
      let first = only_sink (slice_get (made_in graph) b) k single w in
      let other = only_sink (slice_get (made_in graph) b) l.sink.pad single (sink_there b l.sink.pad l.sink.element l.to l.there) in
      record {
        source = l.source;
        at = ap (source_before (links_in graph)) (sym (ap₂ sink_at l.to (other ∙ sym first))) ∙ once.there l.source l.sink l.linked;
        live = subst (Live (made_in graph) (links_in graph)) (sym l.from) live;
      }
