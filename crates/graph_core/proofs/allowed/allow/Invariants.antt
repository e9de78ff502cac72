use Rattle.std.proofs.Common.{◌≡◌}
use Rattle.graph_core.specs.Allowed.{AreAllowedBelow, all_allowed}
use Rattle.graph_core.specs.Elements.{all_made}
use Rattle.graph_core.specs.Links.{all_links}
use Rattle.graph_core.proofs.allowed.allow.Given as goal

abbrev pub invariant-loop-element : goal.invariant-loop-element
invariant-loop-element l = record {
  stay : all_allowed (all_made l.elements) ≡ all_allowed (all_made l.initial.elements);
  allowed : AreAllowedBelow l.element (all_made l.elements) (all_links l.links);
}
