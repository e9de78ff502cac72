use Rattle.std.proofs.Common.{[], take}
use Rattle.flow_model.specs.Rule.{Response}
use Rattle.el_set.specs.Stands.{Stands}
use Rattle.el_denote.specs.Stepping.{TookAll}
use Rattle.el_denote.proofs.denoting.evaluated.Given as goal

abbrev pub invariant-loop-item : goal.invariant-loop-item
invariant-loop-item l = (respond : Response) → Stands respond l.fn.element [] [] → TookAll respond l.running (take l.item-index l.items) l.out
