use Rattle.std.proofs.Common.{sym, ◌∙◌}
use Rattle.graph_tasks.proofs.Takes.{without_one}
use Rattle.graph_tasks.proofs.taking.take_there.Goals as goal

pub returns-clause-left : goal.returns-clause-left
returns-clause-left g c = c.taken.ensures.left ∙ sym (without_one c.args.number c.args.slots.now.items)
