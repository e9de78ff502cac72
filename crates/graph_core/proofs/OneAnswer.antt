-- A line has one graph, or one fault.
use Rattle.std.proofs.Common.{◌≡◌, List, [], Result, Ok, Err, sym, ap, ◌∙◌, subst, inl, inr}
use Rattle.launch_text.specs.declared.tree.Tree.{Tree}
use Rattle.graph_core.specs.Allowed.{AreAllowed, AreCounted, IsTooWide, checked}
use Rattle.graph_core.specs.Asked.{End, asked, declared}
use Rattle.graph_core.specs.Elements.{Made}
use Rattle.graph_core.specs.Graph.{HasTooWide, IsFault, IsGraph, links as links_in, made as made_in}
use Rattle.graph_core.specs.Laws.{AreSame, IsFree, NeverBoth, OneFault, OneGraph}
use Rattle.graph_core.specs.Links.{LinksCome}
use Rattle.graph_core.specs.declared.fault.BuildFault.{BuildFault}
use Rattle.graph_core.specs.declared.graph.Graph.{Graph}
use Rattle.graph_pads.specs.declared.pad.PadLink.{PadLink}
use Rattle.graph_core.proofs.Allowing.{never_too_wide, wide_alike}
use Rattle.graph_core.proofs.Bare.{checked_twice}
use Rattle.graph_core.proofs.ElementsAgree.{OneSetting, elements_agree}
use Rattle.graph_core.proofs.LinksAgree.{links_agree}
use Rattle.graph_core.proofs.SetAlike.{set_alike_same}

-- the links of elements are those of the same elements
links_of_same : (es : List (End × End)) (ms ns : List Made) (a : Result (List PadLink) BuildFault) → ms ≡ ns → LinksCome ms [] es a → LinksCome ns [] es a
links_of_same es ms ns a e h = subst (λ (x : List Made). LinksCome x [] es a) e h

pub never_both : OneSetting → NeverBoth
never_both one = λ tree graph fault whole why. by tree graph fault whole why
  where
    not_wide : (tree : Tree) (graph : Graph) → IsGraph tree graph → HasTooWide tree → ⊥
    not_wide tree graph whole wide =
        let same = elements_agree one (declared tree) (Ok wide.made) (Ok (checked (made_in graph))) wide.elements whole.elements in
        let linked = links_agree (checked (made_in graph)) (asked tree) (Ok wide.links) (Ok (links_in graph)) (links_of_same (asked tree) wide.made (checked (made_in graph)) (Ok wide.links) same wide.linked) whole.links in
        never_too_wide (made_in graph) (links_in graph) whole.allowed
        (wide_alike wide.made (made_in graph) (links_in graph) (ap checked same ∙ checked_twice (made_in graph)) (subst (λ (ls : List PadLink). IsTooWide wide.made ls) linked wide.wide))

    by : (tree : Tree) (graph : Graph) (fault : BuildFault) → IsGraph tree graph → IsFault tree fault → IsFree fault
    by tree graph fault whole (inl h) = elements_agree one (declared tree) (Ok (checked (made_in graph))) (Err fault) whole.elements h
    by tree graph fault whole (inr (inl (ms, h, k))) =
        links_agree (checked (made_in graph)) (asked tree) (Ok (links_in graph)) (Err fault) whole.links
        (links_of_same (asked tree) ms (checked (made_in graph)) (Err fault) (elements_agree one (declared tree) (Ok ms) (Ok (checked (made_in graph))) h whole.elements) k)
    by tree graph fault whole (inr (inr (wide, is))) = absurd (not_wide tree graph whole wide)

pub one_fault : OneSetting → OneFault
one_fault one = λ tree fault other h k. by tree fault other h k
  where
    by : (tree : Tree) (fault other : BuildFault) → IsFault tree fault → IsFault tree other → AreSame fault other
    by tree fault other (inl h) (inl k) = elements_agree one (declared tree) (Err fault) (Err other) h k
    by tree fault other (inl h) (inr (inl (ms, k, l))) = inr (inl (elements_agree one (declared tree) (Ok ms) (Err fault) k h))
    by tree fault other (inl h) (inr (inr (wide, is))) = inr (inl (elements_agree one (declared tree) (Ok wide.made) (Err fault) wide.elements h))
    by tree fault other (inr (inl (ms, h, l))) (inl k) = inr (inr (elements_agree one (declared tree) (Ok ms) (Err other) h k))
    by tree fault other (inr (inl (ms, h, l))) (inr (inl (ns, k, n))) = links_agree ms (asked tree) (Err fault) (Err other) l (links_of_same (asked tree) ns ms (Err other) (elements_agree one (declared tree) (Ok ns) (Ok ms) k h) n)
    by tree fault other (inr (inl (ms, h, l))) (inr (inr (wide, is))) =
        inr (inl (links_agree ms (asked tree) (Ok wide.links) (Err fault) (links_of_same (asked tree) wide.made ms (Ok wide.links) (elements_agree one (declared tree) (Ok wide.made) (Ok ms) wide.elements h) wide.linked) l))
    by tree fault other (inr (inr (wide, is))) (inl k) = inr (inr (elements_agree one (declared tree) (Ok wide.made) (Err other) wide.elements k))
    by tree fault other (inr (inr (wide, is))) (inr (inl (ns, k, n))) =
        inr (inr (links_agree wide.made (asked tree) (Ok wide.links) (Err other) wide.linked (links_of_same (asked tree) ns wide.made (Err other) (elements_agree one (declared tree) (Ok ns) (Ok wide.made) k wide.elements) n)))
    by tree fault other (inr (inr (wide, is))) (inr (inr (also, as_well))) = inl (is ∙ sym as_well)

pub one_graph : OneSetting → OneGraph
one_graph one = λ tree graph other h k.
    let same = elements_agree one (declared tree) (Ok (checked (made_in graph))) (Ok (checked (made_in other))) h.elements k.elements in
    let linked = links_agree (checked (made_in graph)) (asked tree) (Ok (links_in graph)) (Ok (links_in other)) h.links (links_of_same (asked tree) (checked (made_in other)) (checked (made_in graph)) (Ok (links_in other)) (sym same) k.links) in
    (set_alike_same (made_in graph) (made_in other) (links_in graph) same h.allowed (subst (λ (ls : List PadLink). AreAllowed (made_in other) ls) (sym linked) k.allowed) h.pads (subst (λ (ls : List PadLink). AreCounted (made_in other) ls) (sym linked) k.pads), linked)
