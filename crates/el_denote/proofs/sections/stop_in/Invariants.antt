use Rattle.std.proofs.Common.{◌≡◌, ◌≤◌, ◌-◌, drop}
use Rattle.el_denote.specs.Turns.{stop_of}
use Rattle.el_denote.proofs.sections.stop_in.Given as goal

abbrev pub invariant-loop-item : goal.invariant-loop-item
invariant-loop-item l = (l.passed ≤ l.number) × (stop_of (l.number - l.passed) (drop l.item-index l.items) ≡ stop_of l.number l.items)
