use Rattle.std.proofs.Common.{[], ◌∷◌, ◌++◌, Option, ap, ◌∙◌, arith}
use Rattle.graph_core.specs.Elements.{all_made}
use Rattle.task_elements.specs.declared.element.StreamElement.{StreamElement}
use Rattle.graph_parts.specs.Single.{IsAt, IsNone, IsSingle}
use Rattle.graph_parts.proofs.Giving.{ends_joined, ends_none, joins_none, lengths_joined, lengths_none}
use Rattle.graph_parts.proofs.Putting.{at_joins, at_none, hole_joins}
use Rattle.graph_parts.proofs.back.give_rest.Goals as goal

pub loop-slot-preserved : goal.loop-slot-preserved
loop-slot-preserved g c = record {
  ends = λ final put. c.loop-slot.invariant.ends final
      (ends_joined (all_made c.args.elements.now) IsNone IsNone IsNone IsNone (IsAt c.pop.new.self.items) (IsAt c.loop-slot.rest.items) c.loop-slot.ends.items c.loop-slot.ends.items final joins_none
      (hole_joins c.loop-slot.rest.items c.pop.new.self.items (c.in-Some.ensures.items ∙ ap (λ (slot : Option (StreamElement g.row.K.Denot)). c.pop.new.self.items ++ slot ∷ []) c.in_default-slot.is))
      (ends_none (all_made c.args.elements.now) IsNone IsNone c.loop-slot.ends.items (λ n x none. none) (λ n x none. none)) put);
  lengths = λ final put. c.loop-slot.invariant.lengths final
      (lengths_joined IsNone (IsAt c.pop.new.self.items) (IsAt c.loop-slot.rest.items) c.loop-slot.lengths.items c.loop-slot.lengths.items final
      (hole_joins c.loop-slot.rest.items c.pop.new.self.items (c.in-Some.ensures.items ∙ ap (λ (slot : Option (StreamElement g.row.K.Denot)). c.pop.new.self.items ++ slot ∷ []) c.in_default-slot.is))
      (lengths_none IsNone c.loop-slot.lengths.items (λ n x none. none)) put);
}

pub loop-slot-preserved-in-Some-slot : goal.loop-slot-preserved-in-Some-slot
loop-slot-preserved-in-Some-slot g c = record {
  ends = λ final put. c.loop-slot.invariant.ends final
      (ends_joined (all_made c.args.elements.now) IsNone IsNone IsNone (IsSingle _ c.in-Some-slot.element) (IsAt c.pop.new.self.items) (IsAt c.loop-slot.rest.items) c.loop-slot.ends.items c.give_element.new.ends.items final joins_none
      (at_joins c.loop-slot.rest.items c.pop.new.self.items c.in-Some-slot.element _ (c.in-Some.ensures.items ∙ ap (λ (slot : Option (StreamElement g.row.K.Denot)). c.pop.new.self.items ++ slot ∷ []) c.in-Some-slot.is) (omega (arith, c.len.ensures, c.pop.new.self.ok.0)))
      c.give_element.ensures.ends put);
  lengths = λ final put. c.loop-slot.invariant.lengths final
      (lengths_joined (IsSingle _ c.in-Some-slot.element) (IsAt c.pop.new.self.items) (IsAt c.loop-slot.rest.items) c.loop-slot.lengths.items c.give_element.new.lengths.items final
      (at_joins c.loop-slot.rest.items c.pop.new.self.items c.in-Some-slot.element _ (c.in-Some.ensures.items ∙ ap (λ (slot : Option (StreamElement g.row.K.Denot)). c.pop.new.self.items ++ slot ∷ []) c.in-Some-slot.is) (omega (arith, c.len.ensures, c.pop.new.self.ok.0)))
      c.give_element.ensures.lengths put);
}

pub returns-clause-ends : goal.returns-clause-ends
returns-clause-ends g c = c.loop-slot.invariant.ends c.loop-slot.ends.items
    (ends_none (all_made c.args.elements.now) IsNone (IsAt c.loop-slot.rest.items) c.loop-slot.ends.items (λ n x none. none) (at_none c.loop-slot.rest.items (omega (arith, c.loop-slot.rest.ok.0, c.in_default.ensures.cases.0))))

pub returns-clause-lengths : goal.returns-clause-lengths
returns-clause-lengths g c = c.loop-slot.invariant.lengths c.loop-slot.lengths.items
    (lengths_none (IsAt c.loop-slot.rest.items) c.loop-slot.lengths.items (at_none c.loop-slot.rest.items (omega (arith, c.loop-slot.rest.ok.0, c.in_default.ensures.cases.0))))
