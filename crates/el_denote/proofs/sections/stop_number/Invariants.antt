use Rattle.std.proofs.Common.{◌≡◌, drop}
use Rattle.el_denote.specs.Turns.{lowest_stop}
use Rattle.el_denote.proofs.sections.stop_number.Given as goal

abbrev pub invariant-loop-input : goal.invariant-loop-input
invariant-loop-input l = lowest_stop l.number (drop l.input-index l.inputs) ≡ lowest_stop l.number l.inputs
