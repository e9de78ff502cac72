use Rattle.std.proofs.Common.{◌<◌, ◌∙◌, Option, IfSome, ap, subst, sym}
use Rattle.graph_core.specs.Ends.{pads_at}
use Rattle.graph_core.specs.Graph.{links, made}
use Rattle.graph_pads.specs.Links.{sink_behind}
use Rattle.graph_pads.specs.declared.pad.Direction.TheVariants.{Sink}
use Rattle.graph_pads.specs.declared.pad.PadPlace.{PadPlace}
use Rattle.graph_core.proofs.Joining.{sink_found}
use Rattle.graph_core.proofs.graph.Graph.sink_behind.Goals as goal

pub returns-clause-there : goal.returns-clause-there
returns-clause-there c = λ sound.
    let same = c.sink_behind.ensures ∙ ap (λ ls. sink_behind ls c.args.source) c.as_slice.ensures.value in
    subst (λ (o : Option PadPlace). IfSome o (λ (p : PadPlace). p.pad < pads_at (made c.args.self.now) Sink p.element)) (sym same) (sink_found (made c.args.self.now) (links c.args.self.now) c.args.source sound.pads)
