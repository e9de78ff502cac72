use Rattle.graph_edits.proofs.Ordering.{loops_told}
use Rattle.graph_edits.proofs.graph.EditedGraph.loops.Goals as goal

pub returns : goal.returns
returns c = λ g is. loops_told c.args.self.now.order g c.args.source c.args.sink is.ever c.leads.result c.leads.ensures
