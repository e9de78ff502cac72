use Rattle.std.proofs.Common.{List, subst, sym}
use Rattle.task_parts.specs.declared.head.Head.{Head}
use Rattle.task_parts.specs.declared.part.Part.{Part}
use Rattle.edit_acts.specs.Sent.{HeadSends, PartSends}
use Rattle.edit_acts.proofs.Sending.{not_sent, sent_by_head, sent_by_part}
use Rattle.edit_acts.proofs.sent.sends.Goals as goal

pub returns-then-head_sends-clause-sends : goal.returns-then-head_sends-clause-sends
returns-then-head_sends-clause-sends g c = λ is.
    sent_by_head g.O.Outlet c.args.task.now.head c.args.task.now.parts.items c.args.element c.args.pad (subst (λ (h : Head _ _ _ _). HeadSends h c.args.element c.args.pad) c.head.ensures (c.head_sends.ensures.sends c.if-head_sends.true))

pub returns-clause-sends : goal.returns-clause-sends
returns-clause-sends g c = λ is.
    let z = c.parts_send.ensures.sends is in
    sent_by_part g.O.Outlet c.args.task.now.head c.args.task.now.parts.items c.args.element c.args.pad z.0 (subst (λ (ps : List (Part _ _ _)). PartSends ps c.args.element c.args.pad z.0) c.parts.ensures z.1)

pub returns-clause-none : goal.returns-clause-none
returns-clause-none g c = λ none.
    not_sent g.O.Outlet c.args.task.now.head c.args.task.now.parts.items c.args.element c.args.pad
    (λ sends. c.head_sends.ensures.none c.if-head_sends.false (subst (λ (h : Head _ _ _ _). HeadSends h c.args.element c.args.pad) (sym c.head.ensures) sends))
    (λ place sends. c.parts_send.ensures.none none place (subst (λ (ps : List (Part _ _ _)). PartSends ps c.args.element c.args.pad place) (sym c.parts.ensures) sends))
