use Rattle.task_parts.proofs.Outs.{eaten}
use Rattle.task_parts.proofs.part.eat.Goals as goal

pub returns-clause-within : goal.returns-clause-within
returns-clause-within g c = eaten c.feed.result (g.E.TaskElement.stands c.args.element.now) (g.E.TaskElement.stands c.feed.new.self) _ _ c.args.pad c.args.item c.args.out.now c.feed.new.out c.feed.ensures.took c.feed.ensures.out c.feed.ensures.ports c.requires.within
