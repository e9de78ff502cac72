use Rattle.std.proofs.Common.{◌≡◌, ◌<◌, ℕ, List, [], Some, length, sym, ap, ◌∙◌, subst}
use Rattle.graph_core.specs.Elements.{Made}
use Rattle.graph_core.specs.GraphPlan.{pad_id, sink_at}
use Rattle.graph_edits.specs.Graph.{made}
use Rattle.graph_pads.specs.Links.{source_before}
use Rattle.gst_value.proofs.Basics.{some_same}
use Rattle.net_edits.specs.Nets.{NoneHas}
use Rattle.task_edits.specs.Seeing.{SeenAt}
use Rattle.edit_core.specs.Feeds.{given_by, has_given}
use Rattle.edit_core.proofs.Givers.{giver_before, giver_now}
use Rattle.edit_core.proofs.Lists.{no_some}
use Rattle.edit_core.proofs.Standing.{few_at, source_there}
use Rattle.edit_core.proofs.notes.giver.Goals as goal

pub returns-in_default : goal.returns-in_default
returns-in_default g c = λ e m tells is there before.
    giver_before c.args.feeds.now.feeds.items e m.history is.feeds_are is.kept is.stand c.args.element c.in_ok-feed.feed (sym c.of.ensures ∙ c.in_ok-feed.was) (sym before ∙ c.in_default.is)

-- the source pad that is linked has a number
pub returns-in_err-pad : goal.returns-in_err-pad
returns-in_err-pad g c = λ e m tells is there before.
    let linked : source_before e.links (sink_at c.args.element 0) ≡ Some c.in-Some.source = sym before ∙ c.in-Some.is in
    let inside : c.in-Some.source.element < length (made c.args.graph.now) =
    subst (λ (ms : List Made). c.in-Some.source.element < length ms) (sym is.edited.elements) (source_there e is.stand is.made c.in-Some.source c.args.element 0 linked) in
    absurd (no_some (sym (c.source_number.ensures.there inside (few_at e is.stand c.in-Some.source (sink_at c.args.element 0) linked)) ∙ c.in_err-pad.was))

pub returns : goal.returns
returns g c = λ e m tells is there before.
    let linked : source_before e.links (sink_at c.args.element 0) ≡ Some c.in-Some.source = sym before ∙ c.in-Some.is in
    let inside : c.in-Some.source.element < length (made c.args.graph.now) =
    subst (λ (ms : List Made). c.in-Some.source.element < length ms) (sym is.edited.elements) (source_there e is.stand is.made c.in-Some.source c.args.element 0 linked) in
    let number : c.in_ok-pad.pad ≡ pad_id c.in-Some.source =
    some_same (sym c.in_ok-pad.was ∙ c.source_number.ensures.there inside (few_at e is.stand c.in-Some.source (sink_at c.args.element 0) linked)) in
    let name = is.named c.in-Some.source (sink_at c.args.element 0) linked in
    let fresh : NoneHas c.args.tasks.now c.in_ok-pad.pad → m.history c.in_ok-pad.pad ≡ [] =
    subst (λ (p : ℕ). NoneHas c.args.tasks.now p → m.history p ≡ []) (sym number) (is.fresh name.0 c.in-Some.source name.1) in
    let seen : SeenAt m c.in_ok-pad.pad c.see_pad-seen.result = c.see_pad-seen.ensures.at m tells is.net fresh in
    c.given_by.ensures
    ∙ ap (given_by c.in_ok-feed.feed.first c.in_ok-pad.pad) c.has_given.ensures
    ∙ ap (λ (p : ℕ). given_by c.in_ok-feed.feed.first p (has_given c.in_ok-feed.feed c.see_pad-seen.result.items)) number
    ∙ giver_now c.args.feeds.now.feeds.items e m.history is.feeds_are is.kept is.stand c.args.element c.in_ok-feed.feed (sym c.of.ensures ∙ c.in_ok-feed.was) c.in-Some.source c.see_pad-seen.result.items
    linked (seen.tells.items ∙ ap (λ (p : ℕ). length (m.history p)) number)
