use Rattle.std.proofs.Common.{◌≡◌}
use Rattle.graph_core.specs.Allowed.{AreCountedBelow, checked}
use Rattle.graph_core.specs.Elements.{all_made}
use Rattle.graph_core.proofs.counting.count_pads.Given as goal

abbrev pub invariant-loop-element : goal.invariant-loop-element
invariant-loop-element l = record {
  stay : checked (all_made l.elements) ≡ checked (all_made l.initial.elements);
  counted : AreCountedBelow l.element (all_made l.elements) l.links;
}
