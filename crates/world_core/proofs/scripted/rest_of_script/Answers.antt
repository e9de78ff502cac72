use Rattle.graph_order.specs.Marks.{is_marked}
use Rattle.world_core.specs.Scripts.{ScriptStops}
use Rattle.world_core.proofs.Stops.{not_so}
use Rattle.world_core.proofs.scripted.rest_of_script.Goals as goal

pub returns-then-is_over_then : goal.returns-then-is_over_then
returns-then-is_over_then g c =
    ScriptStops.over (is_marked c.as_slice.result.now) (λ edited is n. rw c.as_slice.ensures.value (c.in_ok-live.ensures edited is n)) (c.is_over_then.ensures.0 c.if-is_over_then.true)

pub returns : goal.returns
returns g c =
    ScriptStops.stalled (is_marked c.as_slice.result.now) c.in_ok-stalled_turns.field-0 (λ edited is n. rw c.as_slice.ensures.value (c.in_ok-live.ensures edited is n))
    (not_so c.is_over_then.result c.if-is_over_then.false c.is_over_then.ensures.1) c.in_ok-stalled_turns.ensures
