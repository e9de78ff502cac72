use Rattle.std.proofs.Common.{◌<◌, List, [], All, Ok, map, length, subst, sym, ap, ◌∙◌}
use Rattle.launch_text.specs.declared.tree.Chain.{Chain}
use Rattle.graph_core.specs.Allowed.{AreCounted}
use Rattle.graph_core.specs.Asked.{elements_in, links_in}
use Rattle.graph_core.specs.Elements.{ElementsCome, all_made}
use Rattle.graph_core.specs.Graph.{IsFaultOrMemory}
use Rattle.graph_core.specs.Links.{AreFew, LinksCome, all_links}
use Rattle.graph_core.specs.Live.{AreLive}
use Rattle.graph_core.specs.declared.graph.Graph.{Graph}
use Rattle.graph_pads.specs.declared.pad.PadLink.{PadLink}
use Rattle.graph_core.proofs.Answering.{are_ordered}
use Rattle.graph_core.proofs.Built.{is_graph, is_sound, is_wide, ordered_alike}
use Rattle.graph_core.proofs.PadCounts.{linked_pads, links_few}
use Rattle.graph_core.proofs.Whole.{each_made, from_elements, to_elements}
use Rattle.graph_core.proofs.building.build.Goals as goal
use Rattle.gst_value.proofs.Results.{handed_on}

pub links_of-requires : goal.links_of-requires
links_of-requires c =
    ap (λ cs. length (elements_in (map (λ r. r.now) cs))) (c.as_slice-2.ensures.value ∙ sym c.as_slice.ensures.value) ∙ each_made (elements_in (map (λ r. r.now) c.as_slice.result.now)) (all_made c.in_ok-elements.elements) c.in_ok-elements.ensures.made

pub count_pads-requires : goal.count_pads-requires
count_pads-requires c = record {
  few =
      subst (λ (ls : List PadLink). AreFew (all_made c.in_ok-elements.elements) ls) (sym c.as_slice-3.ensures.value)
      (links_few (all_made c.in_ok-elements.elements) (links_in 0 (map (λ r. r.now) c.as_slice-2.result.now)) (all_links c.in_ok-links.links) c.in_ok-links.ensures.made);
}

pub allow-requires-clause-ordered : goal.allow-requires-clause-ordered
allow-requires-clause-ordered c = ordered_alike (all_made c.in_ok-elements.elements) (all_made c.count_pads.new.elements) c.in_ok-links.links (sym c.count_pads.ensures.stay) c.in_ok-links.ensures.ordered

pub allow-requires-clause-counted : goal.allow-requires-clause-counted
allow-requires-clause-counted c = subst (λ (ls : List PadLink). AreCounted (all_made c.count_pads.new.elements) ls) c.as_slice-3.ensures.value c.count_pads.ensures.counted

pub allow-requires-clause-pads : goal.allow-requires-clause-pads
allow-requires-clause-pads c =
    linked_pads (all_made c.in_ok-elements.elements) (links_in 0 (map (λ r. r.now) c.as_slice-2.result.now)) (all_links c.in_ok-links.links) c.in_ok-links.ensures.made (all_made c.count_pads.new.elements) (sym c.count_pads.ensures.stay)
    (subst (λ (ls : List PadLink). AreCounted (all_made c.count_pads.new.elements) ls) c.as_slice-3.ensures.value c.count_pads.ensures.counted)

pub live_elements-requires-clause-from : goal.live_elements-requires-clause-from
live_elements-requires-clause-from c =
    let counted = ordered_alike (all_made c.in_ok-elements.elements) (all_made c.count_pads.new.elements) c.in_ok-links.links (sym c.count_pads.ensures.stay) c.in_ok-links.ensures.ordered in
    let ordered = are_ordered (all_made c.count_pads.new.elements) (all_made c.allow.new.elements) (sym c.in_ok-allow.ensures.stay) c.in_ok-links.links counted in
    subst (λ (ls : List PadLink). All (λ (link : PadLink). link.source.element < length (all_made c.allow.new.elements)) ls) (sym c.as_slice-4.ensures.value) (from_elements (all_made c.allow.new.elements) c.in_ok-links.links ordered)

pub live_elements-requires-clause-to : goal.live_elements-requires-clause-to
live_elements-requires-clause-to c =
    let counted = ordered_alike (all_made c.in_ok-elements.elements) (all_made c.count_pads.new.elements) c.in_ok-links.links (sym c.count_pads.ensures.stay) c.in_ok-links.ensures.ordered in
    let ordered = are_ordered (all_made c.count_pads.new.elements) (all_made c.allow.new.elements) (sym c.in_ok-allow.ensures.stay) c.in_ok-links.links counted in
    subst (λ (ls : List PadLink). All (λ (link : PadLink). link.sink.element < length (all_made c.allow.new.elements)) ls) (sym c.as_slice-4.ensures.value) (to_elements (all_made c.allow.new.elements) c.in_ok-links.links ordered)

pub returns-in_err-allow-clause-fault : goal.returns-in_err-allow-clause-fault
returns-in_err-allow-clause-fault c =
    let elements = subst (λ (cs : List Chain). ElementsCome [] (elements_in cs) (Ok (all_made c.in_ok-elements.elements))) (ap (map (λ r. r.now)) c.as_slice.ensures.value ∙ c.in_ok-chains.ensures) c.in_ok-elements.ensures.made in
    let linked = subst (λ (cs : List Chain). LinksCome (all_made c.in_ok-elements.elements) [] (links_in 0 cs) (Ok (all_links c.in_ok-links.links))) (ap (map (λ r. r.now)) c.as_slice-2.ensures.value ∙ c.in_ok-chains.ensures) c.in_ok-links.ensures.made in
    handed_on c.from_residual-in_err-allow.result c.in_err-allow.field-0.0 (IsFaultOrMemory c.args.tree.now) c.from_residual-in_err-allow.ensures.1
    (is_wide c.args.tree.now (all_made c.in_ok-elements.elements) (all_made c.count_pads.new.elements) elements c.count_pads.ensures.stay (all_links c.in_ok-links.links) c.in_err-allow.field-0.0 linked c.in_err-allow.ensures.fault)

pub returns-clause-graph : goal.returns-clause-graph
returns-clause-graph c =
    let graph : Graph = record { elements = c.allow.new.elements; links = c.in_ok-links.links; live = c.in_ok-live.live } in
    let elements = subst (λ (cs : List Chain). ElementsCome [] (elements_in cs) (Ok (all_made c.in_ok-elements.elements))) (ap (map (λ r. r.now)) c.as_slice.ensures.value ∙ c.in_ok-chains.ensures) c.in_ok-elements.ensures.made in
    let linked = subst (λ (cs : List Chain). LinksCome (all_made c.in_ok-elements.elements) [] (links_in 0 cs) (Ok (all_links c.in_ok-links.links))) (ap (map (λ r. r.now)) c.as_slice-2.ensures.value ∙ c.in_ok-chains.ensures) c.in_ok-links.ensures.made in
    let counted = subst (λ (ls : List PadLink). AreCounted (all_made c.count_pads.new.elements) ls) c.as_slice-3.ensures.value c.count_pads.ensures.counted in
    is_graph c.args.tree.now (all_made c.in_ok-elements.elements) (all_made c.count_pads.new.elements) elements c.count_pads.ensures.stay graph c.in_ok-allow.ensures.stay linked counted c.in_ok-allow.ensures.allowed

pub returns-clause-sound : goal.returns-clause-sound
returns-clause-sound c =
    let graph : Graph = record { elements = c.allow.new.elements; links = c.in_ok-links.links; live = c.in_ok-live.live } in
    let elements = subst (λ (cs : List Chain). ElementsCome [] (elements_in cs) (Ok (all_made c.in_ok-elements.elements))) (ap (map (λ r. r.now)) c.as_slice.ensures.value ∙ c.in_ok-chains.ensures) c.in_ok-elements.ensures.made in
    let linked = subst (λ (cs : List Chain). LinksCome (all_made c.in_ok-elements.elements) [] (links_in 0 cs) (Ok (all_links c.in_ok-links.links))) (ap (map (λ r. r.now)) c.as_slice-2.ensures.value ∙ c.in_ok-chains.ensures) c.in_ok-links.ensures.made in
    let counted = subst (λ (ls : List PadLink). AreCounted (all_made c.count_pads.new.elements) ls) c.as_slice-3.ensures.value c.count_pads.ensures.counted in
    is_sound c.args.tree.now (all_made c.in_ok-elements.elements) (all_made c.count_pads.new.elements) elements c.count_pads.ensures.stay graph c.in_ok-allow.ensures.stay linked counted c.in_ok-links.ensures.ordered
    (subst (λ (ls : List PadLink). AreLive (all_made c.allow.new.elements) ls c.in_ok-live.live.items) c.as_slice-4.ensures.value c.in_ok-live.ensures)
