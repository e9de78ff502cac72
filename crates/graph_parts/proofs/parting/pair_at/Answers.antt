use Rattle.std.proofs.Common.{List, Option, None, set, ap, ◌∙◌, subst}
use Rattle.graph_core.specs.Elements.{all_made}
use Rattle.run_files.specs.declared.end.End.{End}
use Rattle.graph_parts.specs.Blanks.{IsBlankFor}
use Rattle.graph_parts.specs.Ends.{at}
use Rattle.graph_parts.specs.Filled.{IsFilled}
use Rattle.graph_parts.proofs.BlanksLeft.{in_settings, of_settings}
use Rattle.graph_parts.proofs.Slots.{set_again}
use Rattle.graph_parts.proofs.parting.pair_at.Goals as goal

pub slot_of-element-requires-clause-blank : goal.slot_of-element-requires-clause-blank
slot_of-element-requires-clause-blank g c κs within = in_settings (λ settings. IsBlankFor settings c.args.blank) (all_made c.args.elements.now) c.args.number c.settings.result.now c.settings.ensures c.requires.blank

pub returns : goal.returns
returns g c = record {
  left = c.slot_of-element.result.left;
  filled =
      of_settings (λ settings. IsFilled g.S.Source g.K.Sink settings c.args.number (at c.args.ends.now.items c.args.number) c.slot_of-element.result.element c.slot_of-element.result.source c.slot_of-element.result.left)
      (all_made c.args.elements.now) c.args.number c.settings.result.now c.settings.ensures
      (subst (λ (end : Option (End g.row.S.Denot g.row.K.Denot)). IsFilled g.S.Source g.K.Sink c.settings.result.now c.args.number end c.slot_of-element.result.element c.slot_of-element.result.source c.slot_of-element.result.left)
      c.taken-end.ensures.taken c.slot_of-element.ensures);
  ends =
      c.place_at.ensures ∙ ap (λ (ends : List (Option (End g.row.S.Denot g.row.K.Denot))). set ends c.args.number c.slot_of-element.result.left) c.taken-end.ensures.left
      ∙ set_again c.args.ends.now.items c.args.number None c.slot_of-element.result.left;
}
