use Rattle.el_settings.specs.Asked.{makes_sinks}
use Rattle.graph_core.specs.Elements.{all_made, has}
use Rattle.graph_order.specs.Marks.{is_marked}
use Rattle.world_core.proofs.StallOver.{LetOver}
use Rattle.world_core.proofs.stall.is_over.Given as goal

abbrev pub invariant-loop-place : goal.invariant-loop-place
invariant-loop-place g l = LetOver (is_marked l.live) (has makes_sinks (all_made l.elements)) l.tasks l.steps l.place
