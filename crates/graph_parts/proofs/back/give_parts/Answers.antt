use Rattle.std.proofs.Common.{arith}
use Rattle.graph_core.specs.Elements.{all_made}
use Rattle.graph_parts.specs.Back.{IsPart}
use Rattle.graph_parts.specs.Put.{Among}
use Rattle.graph_parts.specs.Single.{IsNone, IsSingle}
use Rattle.graph_parts.proofs.Giving.{ends_joined, ends_none, joins_none, lengths_joined, lengths_none, part_joins}
use Rattle.graph_parts.proofs.Putting.{among_none}
use Rattle.graph_parts.proofs.back.give_parts.Goals as goal

pub loop-part-preserved : goal.loop-part-preserved
loop-part-preserved g c = record {
  ends = λ final put. c.loop-part.invariant.ends final
      (ends_joined (all_made c.args.elements.now) IsNone IsNone IsNone (IsSingle c.number-number.result c.into_element.result) (Among IsPart c.pop.new.self.items) (Among IsPart c.loop-part.parts.items)
      c.loop-part.ends.items c.give_element.new.ends.items final joins_none
      (part_joins c.loop-part.parts.items c.pop.new.self.items c.in-Some.part c.number-number.result c.into_element.result c.in-Some.ensures.items c.number-number.ensures c.into_element.ensures) c.give_element.ensures.ends put);
  lengths = λ final put. c.loop-part.invariant.lengths final
      (lengths_joined (IsSingle c.number-number.result c.into_element.result) (Among IsPart c.pop.new.self.items) (Among IsPart c.loop-part.parts.items)
      c.loop-part.lengths.items c.give_element.new.lengths.items final
      (part_joins c.loop-part.parts.items c.pop.new.self.items c.in-Some.part c.number-number.result c.into_element.result c.in-Some.ensures.items c.number-number.ensures c.into_element.ensures) c.give_element.ensures.lengths put);
}

pub returns-clause-ends : goal.returns-clause-ends
returns-clause-ends g c = c.loop-part.invariant.ends c.loop-part.ends.items (ends_none (all_made c.args.elements.now) IsNone (Among IsPart c.loop-part.parts.items) c.loop-part.ends.items (λ n source none. none) (among_none IsPart c.loop-part.parts.items (omega (arith, c.loop-part.parts.ok.0, c.in_default.ensures.cases.0))))

pub returns-clause-lengths : goal.returns-clause-lengths
returns-clause-lengths g c = c.loop-part.invariant.lengths c.loop-part.lengths.items (lengths_none (Among IsPart c.loop-part.parts.items) c.loop-part.lengths.items (among_none IsPart c.loop-part.parts.items (omega (arith, c.loop-part.parts.ok.0, c.in_default.ensures.cases.0))))
