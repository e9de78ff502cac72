use Rattle.std.proofs.Common.{List, ap, arith, length}
use Rattle.task_parts.specs.declared.part.Part.{Part}
use Rattle.net_groups.proofs.sizes.count_with.Goals as goal

pub returns-then-has_pad : goal.returns-then-has_pad
returns-then-has_pad g c = λ is. let e = ap (λ (ps : List (Part _ _ _)). length ps) c.parts.ensures in omega (arith, e)

pub returns : goal.returns
returns g c = λ is. absurd (c.has_pad.ensures.none c.if-has_pad.false is.wire is.is is.number_is)
