use Rattle.graph_parts.proofs.Rules.{rules_go_on, owes_none_at_first, sections_are_one, sections_are_plain, owes_none_behind}
use Rattle.graph_parts.proofs.moment.rules_owe.Goals as goal

pub returns-clause-in_order : goal.returns-clause-in_order
returns-clause-in_order c = rules_go_on

pub returns-clause-first : goal.returns-clause-first
returns-clause-first c = owes_none_at_first

pub returns-clause-sections : goal.returns-clause-sections
returns-clause-sections c = sections_are_one

pub returns-clause-sections_plain : goal.returns-clause-sections_plain
returns-clause-sections_plain c = sections_are_plain

pub returns-clause-behind : goal.returns-clause-behind
returns-clause-behind c = owes_none_behind
