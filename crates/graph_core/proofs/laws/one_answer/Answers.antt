use Rattle.graph_core.proofs.OneAnswer.{never_both, one_fault, one_graph}
use Rattle.graph_core.proofs.laws.one_answer.Goals as goal

pub returns : goal.returns
returns c = record { both = never_both c.one_answer.ensures; fault = one_fault c.one_answer.ensures; graph = one_graph c.one_answer.ensures }
