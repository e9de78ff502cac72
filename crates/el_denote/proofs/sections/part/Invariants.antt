use Rattle.el_denote.proofs.Parting.{Gathers}
use Rattle.el_denote.proofs.sections.part.Given as goal

abbrev pub invariant-loop-item : goal.invariant-loop-item
invariant-loop-item l = Gathers l.number l.items l.item-index l.passed l.part
