use Rattle.std.proofs.Common.{refl, ap, List}
use Rattle.task_pads.specs.Pads.{PadShape}
use Rattle.task_parts.proofs.Idling.{none_below}
use Rattle.task_parts.proofs.Outs.{shapes_of_rests}
use Rattle.task_parts.proofs.Turns.{settled_of, shape_with}
use Rattle.task_parts.proofs.part.Part.settle.Goals as goal

pub returns-clause-settled : goal.returns-clause-settled
returns-clause-settled g c = settled_of c.args.self.now _ refl refl c.gather-settled.ensures.spread

pub returns-clause-all : goal.returns-clause-all
returns-clause-all g c = c.gather-settled.ensures.all

pub returns-clause-shape : goal.returns-clause-shape
returns-clause-shape g c = ap (λ (ps : List PadShape). shape_with c.args.self.now.number ps) (shapes_of_rests c.gather-settled.new.pads.items c.args.self.now.pads.items c.gather-settled.ensures.rest)

pub invariant_of-self-2-clause-idle : goal.invariant_of-self-2-clause-idle
invariant_of-self-2-clause-idle g c = none_below c.first_waiting-self.result c.gather-settled.new.pads.items c.first_waiting-self.ensures.idle
