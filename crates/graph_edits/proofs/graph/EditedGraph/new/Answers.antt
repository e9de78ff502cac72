use Rattle.std.proofs.Common.{List, Bool, length, ap, ◌∙◌}
use Rattle.std.specs.List.{list_any}
use Rattle.graph_edits.specs.Edited.{touches}
use Rattle.graph_core.specs.Graph.{made as made_in, links as links_in}
use Rattle.graph_order.proofs.Reached.{none_marked}
use Rattle.graph_order.proofs.Same.{same_links}
use Rattle.graph_order.specs.Marks.{is_marked}
use Rattle.graph_edits.proofs.Standing.{sinks_there, sources_there}
use Rattle.graph_edits.proofs.graph.EditedGraph.new.Goals as goal

pub touched_by-requires-clause-from : goal.touched_by-requires-clause-from
touched_by-requires-clause-from c =
    sources_there (made_in c.args.graph) (links_in c.args.graph) c.deref.result.now c.count-lined.result c.requires.sound.pads (c.deref.ensures.value ∙ c.into_parts-elements.ensures.links)
    (c.count-lined.ensures.count ∙ ap length c.into_parts-elements.ensures.elements)

pub touched_by-requires-clause-to : goal.touched_by-requires-clause-to
touched_by-requires-clause-to c =
    sinks_there (made_in c.args.graph) (links_in c.args.graph) c.deref.result.now c.count-lined.result c.requires.sound.pads (c.deref.ensures.value ∙ c.into_parts-elements.ensures.links)
    (c.count-lined.ensures.count ∙ ap length c.into_parts-elements.ensures.elements)

pub returns : goal.returns
returns c =
    let order = c.into_parts-elements.ensures.order c.requires.sound in
    record {
      edited = record {
        lined = c.count-lined.ensures.count ∙ ap length c.into_parts-elements.ensures.elements;
        elements = c.into_parts-elements.ensures.elements;
        removed = λ e. ap (λ (marks : List Bool). is_marked marks e) (c.in_ok-removed.ensures.items_if_clones_equal (λ y e. e)) ∙ none_marked c.count-lined.result e;
        links = c.into_parts-elements.ensures.links;
        ever = same_links _ _ order.2;
        count = order.1;
        forward = order.0;
        touched = λ e. c.in_ok-touched.ensures.touched e ∙ ap (list_any (touches e)) (c.deref.ensures.value ∙ c.into_parts-elements.ensures.links);
        ended = c.in_ok-ended.ensures.items;
      };
    }
