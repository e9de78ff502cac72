use Rattle.std.proofs.Common.{map, take}
use Rattle.flow_model.specs.Account.{IsMember}
use Rattle.graph_parts.specs.Bags.{number_of}
use Rattle.graph_tasks.proofs.source_pads.place_of.Given as goal

abbrev pub invariant-loop-place : goal.invariant-loop-place
invariant-loop-place l = IsMember l.element (map number_of (take l.place l.order)) → ⊥
