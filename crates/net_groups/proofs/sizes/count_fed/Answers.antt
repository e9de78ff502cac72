use Rattle.std.proofs.Common.{List, ap, arith, length, subst, sym}
use Rattle.task_parts.specs.declared.head.Head.{Head}
use Rattle.task_parts.specs.declared.part.Part.{Part}
use Rattle.net_groups.specs.Places.{FeedsIt}
use Rattle.net_groups.proofs.sizes.count_fed.Goals as goal

pub returns-then-feeds : goal.returns-then-feeds
returns-then-feeds g c = λ is. let e = ap (λ (ps : List (Part _ _ _)). length ps) c.parts.ensures in omega (arith, e)

pub returns : goal.returns
returns g c = λ is. absurd (c.feeds.ensures.not c.if-feeds.false (subst (λ (h : Head _ _ _ _). FeedsIt h c.args.element) (sym c.head.ensures) is))
