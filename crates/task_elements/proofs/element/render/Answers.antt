use Rattle.task_elements.proofs.Roles.{sink_takes}
use Rattle.task_elements.proofs.element.render.Goals as goal

pub returns-in-Ok-clause-took : goal.returns-in-Ok-clause-took
returns-in-Ok-clause-took g c = sink_takes g.K.Sink.bytes c.args.sink.now c.render.new.self c.args.item.now c.in-Ok.ensures.held
