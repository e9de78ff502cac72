use Rattle.flow_model.proofs.Acts.{unlinking_keeps, linking_keeps, linking_over_keeps, acting_keeps, ending_keeps, ending_over_keeps}
use Rattle.flow_model.proofs.Seeks.{seeking_keeps}
use Rattle.flow_model.proofs.moments.acts_keep.Goals as goal

pub returns-clause-unlinking : goal.returns-clause-unlinking
returns-clause-unlinking c = unlinking_keeps

pub returns-clause-linking : goal.returns-clause-linking
returns-clause-linking c = linking_keeps

pub returns-clause-linking_over : goal.returns-clause-linking_over
returns-clause-linking_over c = linking_over_keeps

pub returns-clause-acting : goal.returns-clause-acting
returns-clause-acting c = acting_keeps

pub returns-clause-ending : goal.returns-clause-ending
returns-clause-ending c = ending_keeps

pub returns-clause-ending_over : goal.returns-clause-ending_over
returns-clause-ending_over c = ending_over_keeps

pub returns-clause-seeking : goal.returns-clause-seeking
returns-clause-seeking c = seeking_keeps
