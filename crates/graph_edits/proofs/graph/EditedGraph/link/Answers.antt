use Rattle.std.proofs.Common.{◌++◌, ◌∷◌, [], ◌||◌, Bool, List, ap, ◌∙◌}
use Rattle.graph_edits.specs.Edited.{link_between, touches}
use Rattle.graph_pads.specs.declared.pad.PadLink.{PadLink}
use Rattle.graph_order.proofs.Same.{same_both, same_links}
use Rattle.graph_edits.proofs.Ordering.{linked_once, looped_once, touched_more, where_refused}
use Rattle.graph_edits.proofs.graph.EditedGraph.link.Goals as goal

pub returns-in_err-link_once-clause-stays : goal.returns-in_err-link_once-clause-stays
returns-in_err-link_once-clause-stays c = where_refused c.from_residual-in_err-link_once.result (λ g is. record {
  lined = is.lined;
  elements = is.elements;
  removed = is.removed;
  links = c.reserve.ensures.items ∙ is.links;
  ever = same_both _ _ _ (same_links _ _ c.in_err-link_once.ensures.stays.0) is.ever;
  count = c.link_once.ensures.count ∙ is.count;
  forward = c.link_once.ensures.forward is.forward;
  touched = is.touched;
  ended = c.reserve-2.ensures.items ∙ is.ended;
})

pub returns-in-Loops-clause-answer : goal.returns-in-Loops-clause-answer
returns-in-Loops-clause-answer c = λ g is.
    let told = looped_once c.args.self.now.order c.link_once.new.self g c.args.source c.args.sink is.ever c.in_ok-link_once.field-0 c.in_ok-link_once.ensures.answer is.forward c.in-Loops.is in (
      told.0,
      record {
        lined = is.lined;
        elements = is.elements;
        removed = is.removed;
        links = c.reserve.ensures.items ∙ is.links;
        ever = same_both _ _ _ (same_links _ _ (ap (λ order. order.links.items) told.1)) is.ever;
        count = c.link_once.ensures.count ∙ is.count;
        forward = c.link_once.ensures.forward is.forward;
        touched = is.touched;
        ended = c.reserve-2.ensures.items ∙ is.ended;
      },
    )

pub returns-in-Linked-clause-answer : goal.returns-in-Linked-clause-answer
returns-in-Linked-clause-answer c = λ g place is.
    let told = linked_once c.args.self.now.order c.link_once.new.self g c.args.source c.args.sink is.ever c.in_ok-link_once.field-0 c.in_ok-link_once.ensures.answer is.forward c.in-Linked.is in (
      told.0,
      record {
        lined = is.lined;
        elements = is.elements;
        removed = is.removed;
        links = c.push_reserved.ensures.items ∙ ap (λ (ls : List PadLink). ls ++ link_between c.args.source c.args.sink ∷ []) ((c.reserve.ensures.items ∙ is.links));
        ever = told.1;
        count = c.link_once.ensures.count ∙ is.count;
        forward = c.link_once.ensures.forward is.forward;
        touched = λ e. c.touch.ensures.touched e ∙ ap (λ (b : Bool). b || touches e (link_between c.args.source c.args.sink)) (is.touched e) ∙ touched_more g c.args.source c.args.sink e;
        ended = c.reserve-2.ensures.items ∙ is.ended;
      },
    )
