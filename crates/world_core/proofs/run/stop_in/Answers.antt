use Rattle.std.proofs.Common.{List, subst, sym}
use Rattle.el_settings.specs.Asked.{makes_sinks}
use Rattle.graph_core.specs.Elements.{Made, all_made, has}
use Rattle.graph_core.specs.Graph.{is_live}
use Rattle.graph_order.specs.Marks.{is_marked}
use Rattle.graph_tasks.specs.Over.{joins_in}
use Rattle.net_turns.specs.Ends.{TellsOver}
use Rattle.world_core.specs.Stalled.{TellsTasks}
use Rattle.world_core.proofs.Stops.{not_so, over_alike, stops_at_fault, stops_over, stops_stalled}
use Rattle.world_core.proofs.run.stop_in.Goals as goal

pub returns-in-Err : goal.returns-in-Err
returns-in-Err g c =
    stops_at_fault c.args.graph.now c.args.tasks.now c.args.steps.now c.args.ran c.in-Err.stopped c.into_fault.result c.in-Err.is c.into_fault.ensures

pub returns-then-is_over : goal.returns-then-is_over
returns-then-is_over g c =
    stops_over c.args.graph.now c.args.tasks.now c.args.steps.now c.args.ran c.in_default.field-0 c.in_default.is
    (over_alike (is_marked c.live_marks.result.now) (is_live c.args.graph.now) (joins_in c.args.graph.now) c.args.tasks.now c.args.steps.now c.live_marks.ensures
    (subst (λ (made : List Made). TellsOver (is_marked c.live_marks.result.now) (has makes_sinks made) c.args.tasks.now c.args.steps.now) c.elements.ensures (c.is_over.ensures.0 c.if-is_over.true)))

pub returns : goal.returns
returns g c =
    stops_stalled c.args.graph.now c.args.tasks.now c.args.steps.now c.args.ran c.in_default.field-0 c.in_ok-stalled_tasks.field-0 c.in_default.is
    (not_so c.is_over.result c.if-is_over.false (λ over. c.is_over.ensures.1
    (over_alike (is_live c.args.graph.now) (is_marked c.live_marks.result.now) (has makes_sinks (all_made c.elements.result.now)) c.args.tasks.now c.args.steps.now (λ n. sym (c.live_marks.ensures n))
    (subst (λ (made : List Made). TellsOver (is_live c.args.graph.now) (has makes_sinks made) c.args.tasks.now c.args.steps.now) (sym c.elements.ensures) over))))
    (subst (λ (made : List Made). TellsTasks made c.args.tasks.now c.args.steps.now c.in_ok-stalled_tasks.field-0) c.elements-2.ensures c.in_ok-stalled_tasks.ensures)
