-- The histories of a moment are those of the evaluation of the graph, cut at the counts or whole.
use Rattle.std.proofs.Common.{refl, ◌∙◌}
use Rattle.flow_model.proofs.Wholes.{begins_of}
use Rattle.graph_parts.proofs.Wholes.{moment_is_graph, end_is_graph}
use Rattle.graph_tasks.specs.Ended.{HistoriesAreEvaluated, EndsAreWhole}

pub histories_are_evaluated : HistoriesAreEvaluated
histories_are_evaluated contents graph m sound run = moment_is_graph contents graph m sound run.plan (λ e there. begins_of m e (run.in_order e) (run.cells e))

pub ends_are_whole : EndsAreWhole
ends_are_whole contents graph m sound run left count p pad =
    let whole = end_is_graph contents graph m sound run.plan (λ e within. run.cells e)
    (record { pads = λ q there. left.idle q; inlets = λ e within. left.empty e }) in
    whole.pads count p pad ∙ rw pad refl
