use Rattle.std.proofs.Common.{◌++◌, ◌∷◌, [], Bool, List, ap, arith, length, subst, sym, ◌∙◌}
use Rattle.std.proofs.lemmas.List.{length-append}
use Rattle.el_settings.specs.Asked.{makes_sinks}
use Rattle.graph_edits.specs.Lawful.{asked}
use Rattle.gst_value.proofs.Results.{handed_on}
use Rattle.graph_core.specs.Elements.{IsMade, IsUnmade, Made, made_in}
use Rattle.graph_core.specs.declared.fault.BuildFault.TheVariants.{OutOfMemory}
use Rattle.graph_order.specs.Marks.{is_marked}
use Rattle.graph_order.proofs.Same.{same_both, same_links}
use Rattle.graph_edits.proofs.Standing.{more_marks}
use Rattle.graph_edits.proofs.graph.EditedGraph.add.Goals as goal

pub returns-in_err-number-clause-fault : goal.returns-in_err-number-clause-fault
returns-in_err-number-clause-fault c =
    let put = c.in_err-number.ensures in
    handed_on c.from_residual-in_err-number.result OutOfMemory _ c.from_residual-in_err-number.ensures.1
    (λ g is. (
      IsUnmade.memory,
      record {
        lined = is.lined;
        elements = put.made_stays ∙ is.elements;
        removed = λ e. ap (λ (marks : List Bool). is_marked marks e) put.removed_stays ∙ is.removed e;
        links = is.links;
        ever = same_both _ _ _ (same_links _ _ put.links) is.ever;
        count = put.count_stays ∙ is.count;
        forward = put.forward is.forward;
        touched = λ e. ap (λ (marks : List Bool). is_marked marks e) put.touched_stays ∙ is.touched e;
        ended = is.ended;
      },
    ))

pub returns-clause-answer : goal.returns-clause-answer
returns-clause-answer c = λ g is.
    let put = c.in_ok-number.ensures in
    let m : Made = made_in c.in_ok-new.new in
    record {
      number = put.number ∙ ap length is.elements;
      element = m;
      made = subst (λ (ms : List Made). IsMade ms (asked c.args.kind.now c.args.props.now) m) is.elements c.in_ok-new.ensures.made;
      plain = sym (c.makes_sinks.ensures ∙ ap makes_sinks c.settings.ensures) ∙ c.if-makes_sinks.false;
      edited = record {
        lined = is.lined;
        elements = put.made ∙ ap (λ (ms : List Made). ms ++ m ∷ []) is.elements;
        removed = λ e. ap (λ (marks : List Bool). is_marked marks e) put.removed ∙ more_marks c.args.self.now.removed.items e ∙ is.removed e;
        links = is.links;
        ever = same_both _ _ _ (same_links _ _ put.links) is.ever;
        count = omega (arith, put.count, is.count, length-append g.made (m ∷ []));
        forward = put.forward is.forward;
        touched = λ e. ap (λ (marks : List Bool). is_marked marks e) put.touched ∙ more_marks c.args.self.now.touched.items e ∙ is.touched e;
        ended = is.ended;
      };
    }
