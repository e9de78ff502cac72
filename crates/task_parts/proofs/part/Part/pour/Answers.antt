use Rattle.std.proofs.Common.{refl, ap, List}
use Rattle.task_pads.specs.Pads.{PadShape}
use Rattle.task_parts.proofs.Outs.{shapes_of_rests}
use Rattle.task_parts.proofs.Turns.{settled_of, shape_with}
use Rattle.task_parts.proofs.part.Part.pour.Goals as goal

pub returns-then-is_err-clause-settled : goal.returns-then-is_err-clause-settled
returns-then-is_err-clause-settled g c = settled_of c.args.self.now _ refl refl c.gather.ensures.spread

pub returns-then-is_err-clause-shape : goal.returns-then-is_err-clause-shape
returns-then-is_err-clause-shape g c = ap (λ (ps : List PadShape). shape_with c.args.self.now.number ps) (shapes_of_rests c.gather.new.pads.items c.args.self.now.pads.items c.gather.ensures.rest)

pub returns-else-is_err-clause-settled : goal.returns-else-is_err-clause-settled
returns-else-is_err-clause-settled g c = settled_of c.args.self.now _ refl refl c.gather.ensures.spread

pub returns-else-is_err-clause-shape : goal.returns-else-is_err-clause-shape
returns-else-is_err-clause-shape g c = ap (λ (ps : List PadShape). shape_with c.args.self.now.number ps) (shapes_of_rests c.gather.new.pads.items c.args.self.now.pads.items c.gather.ensures.rest)
