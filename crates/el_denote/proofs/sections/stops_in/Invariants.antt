use Rattle.std.proofs.Common.{◌≡◌, ◌≤◌, ◌+◌, drop}
use Rattle.flow_model.specs.Section.{flush_stops}
use Rattle.el_denote.proofs.sections.stops_in.Given as goal

abbrev pub invariant-loop-item : goal.invariant-loop-item
invariant-loop-item l = (l.count ≤ l.item-index) × (l.count + flush_stops (drop l.item-index l.items) ≡ flush_stops l.items)
