use Rattle.std.proofs.Common.{List, subst, sym}
use Rattle.task_parts.specs.declared.head.Head.{Head}
use Rattle.task_parts.specs.declared.part.Part.{Part}
use Rattle.net_groups.specs.Places.{IsOfHead, PartHas}
use Rattle.net_groups.proofs.Finds.{pad_of_head, pad_of_part, no_pad}
use Rattle.net_groups.proofs.places.has_pad.Goals as goal

pub returns-then-is_of_head-clause-there : goal.returns-then-is_of_head-clause-there
returns-then-is_of_head-clause-there g c = λ is.
    pad_of_head g.O.Outlet c.args.task.now.head c.args.task.now.parts.items c.args.pad (subst (λ (h : Head _ _ _ _). IsOfHead h c.args.pad) c.head.ensures (c.is_of_head.ensures.is c.if-is_of_head.true))

pub returns-clause-there : goal.returns-clause-there
returns-clause-there g c = λ is.
    let z = c.have_pad.ensures.there is in
    pad_of_part g.O.Outlet c.args.task.now.head c.args.task.now.parts.items c.args.pad z.0 (subst (λ (ps : List (Part _ _ _)). PartHas ps c.args.pad z.0) c.parts.ensures z.1)

pub returns-clause-none : goal.returns-clause-none
returns-clause-none g c = λ none.
    no_pad g.O.Outlet c.args.task.now.head c.args.task.now.parts.items c.args.pad
    (λ is. c.is_of_head.ensures.not c.if-is_of_head.false (subst (λ (h : Head _ _ _ _). IsOfHead h c.args.pad) (sym c.head.ensures) is))
    (λ place has. c.have_pad.ensures.none none place (subst (λ (ps : List (Part _ _ _)). PartHas ps c.args.pad place) (sym c.parts.ensures) has))
