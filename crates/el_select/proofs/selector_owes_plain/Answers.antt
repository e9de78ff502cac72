use Rattle.el_select.proofs.Owing.{rule_opens, rule_plain}
use Rattle.el_select.proofs.selector_owes_plain.Goals as goal

pub returns-clause-plain : goal.returns-clause-plain
returns-clause-plain c = rule_plain

pub returns-clause-opens : goal.returns-clause-opens
returns-clause-opens c = rule_opens
