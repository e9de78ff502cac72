use Rattle.line_read.proofs.OneAnswer.{never_both, one_refusal, one_request}
use Rattle.line_read.proofs.laws.one_answer.Goals as goal

pub returns : goal.returns
returns c = record { both = never_both c.one_answer.ensures.both; refusal = one_refusal c.one_answer.ensures.fault; request = one_request c.one_answer.ensures.graph }
