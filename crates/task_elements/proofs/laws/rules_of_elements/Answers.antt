use Rattle.task_elements.proofs.RuleLaws.{owes_plain, owes_in_order, opens_empty}
use Rattle.task_elements.proofs.laws.rules_of_elements.Goals as goal

pub returns-clause-plain : goal.returns-clause-plain
returns-clause-plain g c = owes_plain g.K.Sink.bytes

pub returns-clause-in_order : goal.returns-clause-in_order
returns-clause-in_order g c = owes_in_order g.K.Sink.bytes

pub returns-clause-opens : goal.returns-clause-opens
returns-clause-opens g c = opens_empty g.K.Sink.bytes
