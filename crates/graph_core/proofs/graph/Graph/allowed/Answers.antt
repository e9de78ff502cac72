use Rattle.graph_core.proofs.Answering.{answers_where}
use Rattle.graph_core.specs.Graph.{links, made}
use Rattle.graph_core.proofs.graph.Graph.allowed.Goals as goal

pub returns-clause-too_many : goal.returns-clause-too_many
returns-clause-too_many c = λ sound. answers_where (made c.args.self.now) (links c.args.self.now) c.args.source c.allowed_caps.result (c.allowed_caps.ensures sound.order sound.pads sound.counted)
