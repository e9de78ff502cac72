-- The order of a graph has each element once, and each link goes forward in it.
use Rattle.std.proofs.Common.{◌≡◌, ◌<◌, ◌⊎◌, ℕ, suc, List, [], ◌∷◌, All, Option, None, Some, length, sym, ◌∙◌, subst, inl, inr, arith}
use Rattle.std.specs.Prelude.{slice_get}
use Rattle.std.specs.Option.{option_map_or}
use Rattle.flow_model.specs.Account.{IsMember as IsListed}
use Rattle.graph_order.specs.Forward.{IsMember, StandsBefore, GoForward}
use Rattle.graph_order.specs.declared.link.Link.{Link}
use Rattle.graph_order.proofs.Once.{Covers, Once, once_by, behind_member}
use Rattle.el_settings.specs.Asked.{source_pads}
use Rattle.graph_core.specs.Elements.{Made}
use Rattle.graph_core.specs.Graph.{IsSound, made as made_in, links as links_in, forward as forward_in}
use Rattle.graph_core.specs.Links.{HasPads, ways}
use Rattle.graph_core.specs.declared.graph.Graph.{Graph}
use Rattle.graph_pads.specs.declared.pad.PadLink.{PadLink}
use Rattle.graph_core.specs.GraphPlan.{IsIn, GoesAlong}
use Rattle.el_settings.proofs.Padded.{few_sources}

-- the sources of links to elements that come were seen, or come before these
abbrev Comes : List PadLink → List ℕ → List ℕ → Type 0
Comes links seen es = (link : PadLink) → IsIn link links → IsMember link.sink.element es → (link.source.pad < 64) × (IsListed link.source.element seen ⊎ StandsBefore link.source.element link.sink.element es)

along : (links : List PadLink) (seen es : List ℕ) → Once es → Comes links seen es → GoesAlong links seen es
along links seen [] once c = tt
along links seen (e ∷ es) once c = (λ link is same. first link same (c link is (inl (sym same))), along links (e ∷ seen) es once.1 (λ link is m. later link (c link is (inr m))))
  where
    first : (link : PadLink) → link.sink.element ≡ e → (link.source.pad < 64) × (IsListed link.source.element seen ⊎ StandsBefore link.source.element link.sink.element (e ∷ es))
        → (link.source.pad < 64) × IsListed link.source.element seen
    first link same (few, inl m) = (few, m)
    first link same (few, inr (inl h)) = absurd (once.0 (subst (λ (k : ℕ). IsMember k es) same h.1))
    first link same (few, inr (inr h)) = absurd (once.0 (subst (λ (k : ℕ). IsMember k es) same (behind_member link.source.element link.sink.element es h)))

    later : (link : PadLink) → (link.source.pad < 64) × (IsListed link.source.element seen ⊎ StandsBefore link.source.element link.sink.element (e ∷ es))
        → (link.source.pad < 64) × (IsListed link.source.element (e ∷ seen) ⊎ StandsBefore link.source.element link.sink.element es)
    later link (few, inl m) = (few, inl (inr m))
    later link (few, inr (inl h)) = (few, inl (inl (sym h.0)))
    later link (few, inr (inr h)) = (few, inr h)

goes_at : (links : List PadLink) (order : List ℕ) → GoForward (ways links) order → (link : PadLink) → IsIn link links → StandsBefore link.source.element link.sink.element order
goes_at [] order g link is = absurd is
goes_at (l ∷ ls) order g link (inl same) = subst (λ (k : PadLink). StandsBefore k.source.element k.sink.element order) (sym same) g.0
goes_at (l ∷ ls) order g link (inr is) = goes_at ls order g.1 link is

pub pads_at_link : (made : List Made) (links : List PadLink) → All (HasPads made) links → (link : PadLink) → IsIn link links → HasPads made link
pads_at_link made [] all link is = absurd is
pads_at_link made (l ∷ ls) all link (inl same) = subst (λ (k : PadLink). HasPads made k) (sym same) (all 0 l (omega arith))
pads_at_link made (l ∷ ls) all link (inr is) = pads_at_link made ls (λ k d w. all (suc k) d (omega (arith, w))) link is

pub few_pads : (found : Option Made) (pad : ℕ) → pad < option_map_or (λ (m : Made). source_pads m.settings) found 0 → pad < 64
few_pads None pad w = absurd (omega (arith, w))
few_pads (Some m) pad w = let few = few_sources m.settings in omega (arith, w, few)

pub listed : (e : ℕ) (xs : List ℕ) → IsMember e xs → IsListed e xs
listed e [] m = absurd m
listed e (x ∷ xs) (inl same) = inl (sym same)
listed e (x ∷ xs) (inr m) = inr (listed e xs m)

pub member : (e : ℕ) (xs : List ℕ) → IsListed e xs → IsMember e xs
member e [] m = absurd m
member e (x ∷ xs) (inl same) = inl (sym same)
member e (x ∷ xs) (inr m) = inr (member e xs m)

-- the order of a sound graph has as many elements as the graph, and each of these
pub order_size : (graph : Graph) → IsSound graph → length (forward_in graph) ≡ length (made_in graph)
order_size graph sound = sym graph.links.order.forward.ok.0 ∙ sound.order.count

pub order_covers : (graph : Graph) → IsSound graph → Covers (length (made_in graph)) (forward_in graph)
order_covers graph sound e w = sound.order.forward.whole e (omega (arith, w, sound.order.count))

-- each link of a sound graph comes from a pad of an element that stands earlier in its order
pub graph_goes : (graph : Graph) → IsSound graph → GoesAlong (links_in graph) [] (forward_in graph)
graph_goes graph sound = along (links_in graph) [] (forward_in graph) (once_by (length (made_in graph)) [] (forward_in graph) (order_covers graph sound) (order_size graph sound)) comes
  where
    forward_goes : GoForward (ways (links_in graph)) (forward_in graph)
    forward_goes = subst (λ (ls : List Link). GoForward ls (forward_in graph)) sound.order.ways sound.order.forward.goes

    comes : Comes (links_in graph) [] (forward_in graph)
    comes link is m =
        (few_pads (slice_get (made_in graph) link.source.element) link.source.pad (pads_at_link (made_in graph) (links_in graph) sound.pads link is).0, inr (goes_at (links_in graph) (forward_in graph) forward_goes link is))
