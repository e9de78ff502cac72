use Rattle.task_elements.proofs.Wanting.{has_pads, one_pad, wants_none, wants_open, wants_within}
use Rattle.task_elements.proofs.laws.elements_want_open_pads.Goals as goal

pub returns-clause-pads : goal.returns-clause-pads
returns-clause-pads g c = has_pads g.K.Sink.bytes

pub returns-clause-single : goal.returns-clause-single
returns-clause-single g c = one_pad

pub returns-clause-within : goal.returns-clause-within
returns-clause-within g c = wants_within

pub returns-clause-none : goal.returns-clause-none
returns-clause-none g c = wants_none g.K.Sink.bytes

pub returns-clause-open : goal.returns-clause-open
returns-clause-open g c = wants_open g.K.Sink.bytes
