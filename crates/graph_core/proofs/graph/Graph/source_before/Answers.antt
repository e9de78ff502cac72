use Rattle.std.proofs.Common.{◌<◌, ◌∙◌, Option, IfSome, ap, subst, sym}
use Rattle.graph_core.specs.Ends.{pads_at}
use Rattle.graph_core.specs.Graph.{links, made}
use Rattle.graph_pads.specs.Links.{source_before}
use Rattle.graph_pads.specs.declared.pad.Direction.TheVariants.{Source}
use Rattle.graph_pads.specs.declared.pad.PadPlace.{PadPlace}
use Rattle.graph_core.proofs.Joining.{source_found}
use Rattle.graph_core.proofs.graph.Graph.source_before.Goals as goal

pub returns-clause-there : goal.returns-clause-there
returns-clause-there c = λ sound.
    let same = c.source_before.ensures ∙ ap (λ ls. source_before ls c.args.sink) c.as_slice.ensures.value in
    subst (λ (o : Option PadPlace). IfSome o (λ (p : PadPlace). p.pad < pads_at (made c.args.self.now) Source p.element)) (sym same) (source_found (made c.args.self.now) (links c.args.self.now) c.args.sink sound.pads)
