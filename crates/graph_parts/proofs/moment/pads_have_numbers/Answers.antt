use Rattle.graph_parts.proofs.Wholes.{pads_have_numbers, numbers_have_pads}
use Rattle.graph_parts.proofs.moment.pads_have_numbers.Goals as goal

pub returns-clause-numbers : goal.returns-clause-numbers
returns-clause-numbers c = pads_have_numbers

pub returns-clause-pads : goal.returns-clause-pads
returns-clause-pads c = numbers_have_pads
