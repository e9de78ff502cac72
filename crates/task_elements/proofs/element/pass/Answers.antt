use Rattle.std.proofs.Common.{None}
use Rattle.task_elements.proofs.Filters.{queue_takes, queue_refuses}
use Rattle.task_elements.proofs.Refusing.{told_cause, told_refusal}
use Rattle.task_elements.proofs.element.pass.Goals as goal

pub returns-in-Ok-clause-took : goal.returns-in-Ok-clause-took
returns-in-Ok-clause-took c =
    queue_takes c.args.queue.now c.feed.new.self c.args.item c.in-Ok.field-0 c.args.out.now c.feed.new.out c.requires.no_flush c.in-Ok.ensures.out c.in-Ok.ensures.fed c.in-Ok.ensures.flow

pub returns-in-Err-clause-refused : goal.returns-in-Err-clause-refused
returns-in-Err-clause-refused c = λ behavior took p.
    told_refusal behavior took 0 c.args.item c.in-Err.fault _ c.fault.ensures (queue_refuses c.args.queue.now c.args.item c.in-Err.fault c.in-Err.ensures.fault behavior took p)

pub returns-in-Err-clause-cause : goal.returns-in-Err-clause-cause
returns-in-Err-clause-cause c = told_cause c.in-Err.fault _ None c.fault.ensures
