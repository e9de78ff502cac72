use Rattle.std.proofs.Common.{List, ap, arith, length, subst, sym}
use Rattle.task_parts.specs.declared.part.Part.{Part}
use Rattle.net_groups.specs.Places.{PartIs}
use Rattle.net_groups.proofs.sizes.count_beside.Goals as goal

pub returns-then-has_part : goal.returns-then-has_part
returns-then-has_part g c = λ place is. let e = ap (λ (ps : List (Part _ _ _)). length ps) c.parts-then-has_part.ensures in omega (arith, e)

pub returns : goal.returns
returns g c = λ place is. absurd (c.has_part.ensures.none c.if-has_part.false place (subst (λ (ps : List (Part _ _ _)). PartIs ps c.args.element place) (sym c.parts.ensures) is))
