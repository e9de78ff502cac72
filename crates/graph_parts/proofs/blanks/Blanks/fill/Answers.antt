use Rattle.std.proofs.Common.{◌∙◌, sym, arith}
use Rattle.graph_core.specs.Elements.{all_made}
use Rattle.graph_parts.specs.Blanks.{blanks_in}
use Rattle.graph_parts.proofs.BlanksLeft.{all_from, first_blank, rest_blanks}
use Rattle.graph_parts.proofs.Filling.{all_filled, none_filled, one_filled}
use Rattle.graph_parts.proofs.blanks.Blanks.fill.Goals as goal

pub loop-number-init : goal.loop-number-init
loop-number-init g c = record {
  from = all_from (all_made c.args.made.now) (blanks_in c.args.self) c.requires.blanks;
  to = none_filled g.S.Source g.K.Sink (all_made c.args.made.now) c.args.ends.items c.args.self.elements.items c.args.self.sources.items (sym c.args.self.elements.ok.0 ∙ c.args.self.no_elements) (sym c.args.self.sources.ok.0 ∙ c.args.self.no_sources);
  elements = omega (arith, c.args.self.room_for_elements, c.args.self.no_elements);
  sources = omega (arith, c.args.self.room_for_sources, c.args.self.no_sources);
}

pub pair_at-element-requires-clause-blank : goal.pair_at-element-requires-clause-blank
pair_at-element-requires-clause-blank g c κs within = first_blank (all_made c.args.made.now) c.loop-number.number c.loop-number.blanks.items c.pop_front.new.self.items c.in-Some.blank c.in-Some.ensures.items c.loop-number.invariant.from

pub loop-number-preserved : goal.loop-number-preserved
loop-number-preserved g c = record {
  from = rest_blanks (all_made c.args.made.now) c.loop-number.number c.loop-number.blanks.items c.pop_front.new.self.items c.in-Some.blank c.in-Some.ensures.items c.loop-number.invariant.from;
  to = one_filled g.S.Source g.K.Sink (all_made c.args.made.now) c.args.ends.items c.loop-number.number
      c.loop-number.elements.items c.push_reserved.new.self.items c.loop-number.sources.items c.push_reserved-in-loop-number.new.self.items c.loop-number.left.items c.pair_at-element.new.ends.items
      c.pair_at-element.result.element c.pair_at-element.result.source
      c.loop-number.invariant.to c.pair_at-element.ensures c.push_reserved.ensures.items c.push_reserved-in-loop-number.ensures.items;
  elements = omega (arith, c.loop-number.invariant.elements, c.in-Some.ensures.cases, c.push_reserved.ensures.len, c.push_reserved.ensures.capacity);
  sources = omega (arith, c.loop-number.invariant.sources, c.in-Some.ensures.cases, c.push_reserved-in-loop-number.ensures.len, c.push_reserved-in-loop-number.ensures.capacity);
}

pub returns-in_default : goal.returns-in_default
returns-in_default g c = absurd (omega (arith, c.loop-number.invariant.from.count, c.loop-number.blanks.ok.0, c.in_default.ensures.cases.0))

pub returns : goal.returns
returns g c = all_filled g.S.Source g.K.Sink (all_made c.args.made.now) c.args.ends.items c.loop-number.number c.loop-number.elements.items c.loop-number.sources.items c.loop-number.left.items (omega arith) c.loop-number.invariant.to
