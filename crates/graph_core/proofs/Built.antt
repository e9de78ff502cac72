-- The graph of a line, whose elements have the pads of their links, and whose converters are set to what they are allowed.
use Rattle.std.proofs.Common.{◌≡◌, List, [], Ok, subst, sym, ◌∙◌, inl, inr}
use Rattle.launch_text.specs.declared.tree.Tree.{Tree}
use Rattle.graph_core.specs.Allowed.{AreAllowed, AreCounted, IsWideFault, all_allowed, checked}
use Rattle.graph_core.specs.Asked.{asked, declared}
use Rattle.graph_core.specs.Elements.{ElementsCome, Made}
use Rattle.graph_core.specs.Graph.{IsFaultOrMemory, IsGraph, IsSound, links as links_in, made as made_in}
use Rattle.graph_core.specs.Links.{AreOrdered, LinksCome}
use Rattle.graph_core.specs.Live.{AreLive}
use Rattle.graph_core.specs.declared.fault.BuildFault.{BuildFault}
use Rattle.graph_core.specs.declared.graph.Graph.{Graph}
use Rattle.graph_core.specs.declared.links.Links.{Links}
use Rattle.graph_pads.specs.declared.pad.PadLink.{PadLink}
use Rattle.graph_core.proofs.Answering.{are_counted, are_ordered, has_pads, made_checked, wide_before}
use Rattle.graph_core.proofs.Bare.{given_alike, same_length}
use Rattle.graph_core.proofs.PadCounts.{linked_pads}

-- elements that are alike are as many
pub ordered_alike : (ms ns : List Made) (links : Links) → checked ms ≡ checked ns → AreOrdered ms links → AreOrdered ns links
ordered_alike ms ns links same ordered = record { count = ordered.count ∙ same_length ms ns same; ways = ordered.ways; forward = ordered.forward }

-- the elements as they are made, and with the pads of their links
module _ (tree : Tree) (made counted : List Made) (elements : ElementsCome [] (declared tree) (Ok made)) (same : checked counted ≡ checked made) where
  pub is_graph : (graph : Graph) → all_allowed (made_in graph) ≡ all_allowed counted → LinksCome made [] (asked tree) (Ok (links_in graph)) → AreCounted counted (links_in graph) → AreAllowed (made_in graph) (links_in graph) → IsGraph tree graph
  is_graph graph stay linked pads allowed =
      let are = sym (given_alike (made_in graph) counted stay ∙ same ∙ made_checked (declared tree) made elements) in
      record {
        elements = subst (λ (ms : List Made). ElementsCome [] (declared tree) (Ok ms)) are elements;
        links = subst (λ (ms : List Made). LinksCome ms [] (asked tree) (Ok (links_in graph))) are linked;
        pads = are_counted counted (made_in graph) (sym stay) (links_in graph) pads;
        allowed = allowed;
      }

  pub is_wide : (links : List PadLink) (fault : BuildFault) → LinksCome made [] (asked tree) (Ok links) → IsWideFault counted links fault → IsFaultOrMemory tree fault
  is_wide links fault linked wide = by (wide_before counted made links fault same wide)
    where
      by : IsWideFault made links fault → IsFaultOrMemory tree fault
      by (inl memory) = inl memory
      by (inr (wide, is)) = inr (inr (inr (record { made = made; links = links; elements = elements; linked = linked; wide = wide }, is)))

  pub is_sound : (graph : Graph) → all_allowed (made_in graph) ≡ all_allowed counted → LinksCome made [] (asked tree) (Ok (links_in graph)) → AreCounted counted (links_in graph) → AreOrdered made graph.links → AreLive (made_in graph) (links_in graph) graph.live.items → IsSound graph
  is_sound graph stay linked pads ordered live =
      record {
        pads = has_pads counted (made_in graph) (sym stay) (links_in graph) (linked_pads made (asked tree) (links_in graph) linked counted (sym same) pads);
        counted = are_counted counted (made_in graph) (sym stay) (links_in graph) pads;
        order = are_ordered counted (made_in graph) (sym stay) graph.links (ordered_alike made counted graph.links (sym same) ordered);
        live = live;
      }
