use Rattle.std.proofs.Common.{ap, inl, inr, ◌∙◌}
use Rattle.task_parts.specs.declared.fault.TaskFault.TheVariants.{TooLong}
use Rattle.task_parts.specs.Fault.{unread_fault}
use Rattle.task_parts.proofs.Tries.{gives_as}
use Rattle.task_parts.proofs.passing.give.Goals as goal

pub returns-in-Ok-Item-clause-gives : goal.returns-in-Ok-Item-clause-gives
returns-in-Ok-Item-clause-gives g c = inl (gives_as c.args.head.now c.give.new.self c.in-Ok-Item.field-0 _ c.in-Ok-Item.field-0-is c.in-Ok-Item.ensures.gives)

pub returns-in-Ok-FlushStop-clause-gives : goal.returns-in-Ok-FlushStop-clause-gives
returns-in-Ok-FlushStop-clause-gives g c = inr (gives_as c.args.head.now c.give.new.self c.in-Ok-FlushStop.field-0 _ c.in-Ok-FlushStop.field-0-is c.in-Ok-FlushStop.ensures.gives)

pub returns-in-Ok-Ended-clause-gives : goal.returns-in-Ok-Ended-clause-gives
returns-in-Ok-Ended-clause-gives g c = (gives_as c.args.head.now c.give.new.self c.in-Ok-Ended.field-0 _ c.in-Ok-Ended.field-0-is c.in-Ok-Ended.ensures.gives)

pub returns-in-Ok-AtLimit-clause-gives : goal.returns-in-Ok-AtLimit-clause-gives
returns-in-Ok-AtLimit-clause-gives g c = inl ((gives_as c.args.head.now c.give.new.self c.in-Ok-AtLimit.field-0 _ c.in-Ok-AtLimit.field-0-is c.in-Ok-AtLimit.ensures.gives), c.too_long.ensures ∙ ap (λ n. TooLong n 1099511627776 1) c.give.ensures.number)

pub returns-in-Err-clause-gives : goal.returns-in-Err-clause-gives
returns-in-Err-clause-gives g c = inr (c.in-Err.unread, c.unread.ensures ∙ ap (λ n. unread_fault n c.in-Err.unread) c.give.ensures.number, c.in-Err.ensures.kept, c.in-Err.ensures.cause, c.in-Err.ensures.short)
