use Rattle.std.proofs.Common.{◌≡◌, drop}
use Rattle.std.specs.Prelude.{max}
use Rattle.el_denote.specs.Turns.{most_stops}
use Rattle.el_denote.proofs.sections.most_stops_of.Given as goal

abbrev pub invariant-loop-input : goal.invariant-loop-input
invariant-loop-input l = max l.most (most_stops (drop l.input-index l.inputs)) ≡ most_stops l.inputs
