use Rattle.std.proofs.Common.{◌≡◌, ◌<◌, ℕ, List, [], Some, length, sym, ap, ◌∙◌, subst}
use Rattle.std.specs.Option.{option_map_or}
use Rattle.graph_core.specs.Elements.{Made}
use Rattle.graph_core.specs.GraphPlan.{pad_id}
use Rattle.graph_edits.specs.Graph.{made}
use Rattle.graph_pads.specs.Links.{source_before}
use Rattle.graph_pads.specs.declared.pad.PadPlace.{PadPlace}
use Rattle.gst_value.proofs.Basics.{some_same}
use Rattle.net_edits.specs.Nets.{NoneHas}
use Rattle.pad_core.specs.Crossing.{has_ended}
use Rattle.task_edits.specs.Seeing.{SeenAt}
use Rattle.graph_edits.specs.Edited.{is_ended}
use Rattle.edit_core.proofs.Lists.{no_some}
use Rattle.edit_core.proofs.Standing.{few_at, source_there}
use Rattle.edit_core.proofs.refusing.has_had_eos.Goals as goal

pub returns-in_default-source_number : goal.returns-in_default-source_number
returns-in_default-source_number g c = λ feeds e m tells is.
    let linked : source_before e.links c.args.sink ≡ Some c.in-Some.source = sym (c.source_before.ensures e is.edited) ∙ c.in-Some.is in
    let inside : c.in-Some.source.element < length (made c.args.graph.now) =
    subst (λ (ms : List Made). c.in-Some.source.element < length ms) (sym is.edited.elements) (source_there e is.stand is.made c.in-Some.source c.args.sink.element c.args.sink.pad linked) in
    absurd (no_some (sym (c.source_number.ensures.there inside (few_at e is.stand c.in-Some.source c.args.sink linked)) ∙ c.in_default-source_number.is))

pub returns : goal.returns
returns g c = λ feeds e m tells is.
    let linked : source_before e.links c.args.sink ≡ Some c.in-Some.source = sym (c.source_before.ensures e is.edited) ∙ c.in-Some.is in
    let inside : c.in-Some.source.element < length (made c.args.graph.now) =
    subst (λ (ms : List Made). c.in-Some.source.element < length ms) (sym is.edited.elements) (source_there e is.stand is.made c.in-Some.source c.args.sink.element c.args.sink.pad linked) in
    let number : c.in-Some-source_number.pad ≡ pad_id c.in-Some.source =
    some_same (sym c.in-Some-source_number.is ∙ c.source_number.ensures.there inside (few_at e is.stand c.in-Some.source c.args.sink linked)) in
    let name = is.named c.in-Some.source c.args.sink linked in
    let fresh : NoneHas c.args.tasks.now c.in-Some-source_number.pad → m.history c.in-Some-source_number.pad ≡ [] =
    subst (λ (p : ℕ). NoneHas c.args.tasks.now p → m.history p ≡ []) (sym number) (is.fresh name.0 c.in-Some.source name.1) in
    let seen : SeenAt m c.in-Some-source_number.pad c.see_pad.result = c.see_pad.ensures.at m tells is.net fresh in
    seen.tells.ended
    ∙ ap (λ (p : ℕ). has_ended (m.history p)) number
    ∙ ap (λ before. option_map_or (λ (source : PadPlace). has_ended (m.history (pad_id source))) before (is_ended e c.args.sink)) (sym linked)
