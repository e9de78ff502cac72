use Rattle.graph_parts.proofs.Wholes.{moment_is_graph, end_is_graph}
use Rattle.graph_parts.proofs.moment.moments_are_of_the_graph.Goals as goal

pub returns-clause-running : goal.returns-clause-running
returns-clause-running c = moment_is_graph

pub returns-clause-ended : goal.returns-clause-ended
returns-clause-ended c = end_is_graph
