use Rattle.task_elements.proofs.Tees.{tee_takes}
use Rattle.task_elements.proofs.element.spread.Goals as goal

pub returns-in-Ok-clause-took : goal.returns-in-Ok-clause-took
returns-in-Ok-clause-took c =
    tee_takes c.args.tee.now c.feed.new.self c.args.item c.in-Ok.field-0 c.requires.no_flush c.in-Ok.ensures.fed c.in-Ok.ensures.pads c.args.out.now c.feed.new.out c.in-Ok.ensures.out
