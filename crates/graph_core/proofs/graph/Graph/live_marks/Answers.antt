use Rattle.std.proofs.Common.{Bool, List, ap}
use Rattle.graph_order.specs.Marks.{is_marked}
use Rattle.graph_core.proofs.graph.Graph.live_marks.Goals as goal

pub returns : goal.returns
returns c = λ element. ap (λ (marks : List Bool). is_marked marks element) c.as_slice.ensures.value
