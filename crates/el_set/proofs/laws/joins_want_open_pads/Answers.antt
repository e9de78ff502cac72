use Rattle.el_set.proofs.JoinRules.{joins_have_pads, joins_want_within, joins_want_in_order, joins_want_none}
use Rattle.el_set.proofs.laws.joins_want_open_pads.Goals as goal

pub returns-clause-pads : goal.returns-clause-pads
returns-clause-pads c = joins_have_pads

pub returns-clause-within : goal.returns-clause-within
returns-clause-within c = joins_want_within

pub returns-clause-order : goal.returns-clause-order
returns-clause-order c = joins_want_in_order

pub returns-clause-none : goal.returns-clause-none
returns-clause-none c = joins_want_none
