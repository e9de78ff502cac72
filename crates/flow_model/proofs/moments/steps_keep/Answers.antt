use Rattle.flow_model.proofs.Steps.{passing_keeps, sending_keeps, leaving_keeps, taking_keeps}
use Rattle.flow_model.proofs.moments.steps_keep.Goals as goal

pub returns-clause-passing : goal.returns-clause-passing
returns-clause-passing c = passing_keeps

pub returns-clause-sending : goal.returns-clause-sending
returns-clause-sending c = sending_keeps

pub returns-clause-leaving : goal.returns-clause-leaving
returns-clause-leaving c = leaving_keeps

pub returns-clause-taking : goal.returns-clause-taking
returns-clause-taking c = taking_keeps
