use Rattle.std.proofs.Common.{List, subst, sym}
use Rattle.task_parts.specs.declared.head.Head.{Head}
use Rattle.task_parts.specs.declared.part.Part.{Part}
use Rattle.net_groups.specs.Behind.{FlaggedAt, OtherAt, SourceLeads}
use Rattle.net_groups.proofs.Entered.{flagged_enters, never_entered, other_enters, source_enters}
use Rattle.net_groups.proofs.splitting.is_entered.Goals as goal

pub returns-then-source_leads-clause-entered : goal.returns-then-source_leads-clause-entered
returns-then-source_leads-clause-entered g c = λ is.
    source_enters g.O.Outlet c.args.task.now.head c.args.task.now.parts.items c.args.flags.now c.args.element c.requires.size c.requires.tell c.args.task.now.closed
    (subst (λ (h : Head _ _ _ _). SourceLeads c.args.task.now.parts.items c.args.flags.now h) c.head.ensures (subst (λ (ps : List (Part _ _ _)). SourceLeads ps c.args.flags.now c.head.result.now) c.parts.ensures (c.source_leads.ensures.led c.if-source_leads.true)))

pub returns-then-others_lead-clause-entered : goal.returns-then-others_lead-clause-entered
returns-then-others_lead-clause-entered g c = λ is.
    let z = c.others_lead.ensures.led c.if-others_lead.true in
    other_enters g.O.Outlet c.args.task.now.head c.args.task.now.parts.items c.args.flags.now c.args.element c.requires.size c.requires.tell c.args.task.now.closed z.0
    (subst (λ (ps : List (Part _ _ _)). OtherAt ps c.args.flags.now z.0) c.parts-2.ensures z.1)

pub returns-clause-entered : goal.returns-clause-entered
returns-clause-entered g c = λ is.
    let z = c.flagged_lead.ensures.led is in
    flagged_enters g.O.Outlet c.args.task.now.head c.args.task.now.parts.items c.args.flags.now c.args.element c.requires.size c.requires.tell c.args.task.now.closed z.0
    (subst (λ (ps : List (Part _ _ _)). FlaggedAt ps c.args.flags.now c.args.element z.0) c.parts-3.ensures z.1)

pub returns-clause-free : goal.returns-clause-free
returns-clause-free g c = λ none.
    never_entered g.O.Outlet c.args.task.now.head c.args.task.now.parts.items c.args.flags.now c.args.element c.requires.size c.requires.tell c.args.task.now.closed
    (λ led. c.source_leads.ensures.none c.if-source_leads.false (subst (λ (ps : List (Part _ _ _)). SourceLeads ps c.args.flags.now c.head.result.now) (sym c.parts.ensures) (subst (λ (h : Head _ _ _ _). SourceLeads c.args.task.now.parts.items c.args.flags.now h) (sym c.head.ensures) led)))
    (λ place led. c.others_lead.ensures.none c.if-others_lead.false place (subst (λ (ps : List (Part _ _ _)). OtherAt ps c.args.flags.now place) (sym c.parts-2.ensures) led))
    (λ place led. c.flagged_lead.ensures.none none place (subst (λ (ps : List (Part _ _ _)). FlaggedAt ps c.args.flags.now c.args.element place) (sym c.parts-3.ensures) led))
