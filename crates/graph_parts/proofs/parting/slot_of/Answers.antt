use Rattle.std.proofs.Common.{Option, subst}
use Rattle.graph_parts.specs.Ends.{sink_end, source_end}
use Rattle.graph_parts.specs.Filled.{IsGiverFor, IsMadeFor}
use Rattle.graph_parts.proofs.OwnFiles.{given_with, made_with}
use Rattle.graph_parts.proofs.parting.slot_of.Goals as goal

pub returns : goal.returns
returns g c = record {
  element_is =
      made_with g.K.Sink c.args.settings.now (sink_end c.args.end) c.element_for.result
      (subst (λ (file : Option g.row.K.Denot). IsMadeFor g.K.Sink c.args.settings.now file c.element_for.result) c.part_end-source.ensures.sink c.element_for.ensures);
  source_is =
      given_with g.S.Source c.args.settings.now (source_end c.args.end) c.args.number c.source_for.result
      (subst (λ (file : Option g.row.S.Denot). IsGiverFor g.S.Source c.args.settings.now file c.args.number c.source_for.result) c.part_end-source.ensures.source c.source_for.ensures);
  left_is = c.part_end-source.ensures.left;
}
