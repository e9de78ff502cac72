use Rattle.flow_model.proofs.Bags.{tasks_together}
use Rattle.flow_model.proofs.moments.tasks_come_together.Goals as goal

pub returns : goal.returns
returns c = tasks_together
