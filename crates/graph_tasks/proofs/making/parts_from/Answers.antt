use Rattle.std.proofs.Common.{◌∙◌, sym, arith}
use Rattle.graph_tasks.proofs.Fillings.{parts_end, parts_step}
use Rattle.graph_tasks.proofs.making.parts_from.Goals as goal
use Rattle.gst_value.proofs.Places.{none_left as is_empty}

pub loop-part-preserved : goal.loop-part-preserved
loop-part-preserved g c = record {
  room = omega (arith, c.loop-part.invariant.room, c.in-Some.ensures.cases, c.push_reserved.ensures.len, c.push_reserved.ensures.capacity);
  so = parts_step g.E.TaskElement c.args.wired.items c.args.elements.now.items c.in-Some.part c.loop-part.rest.items c.pop_front.new.self.items c.loop-part.elements.items c.part_from.new.elements.items
      c.loop-part.parts.items c.push_reserved.new.self.items c.part_from.result c.in-Some.ensures.items c.part_from.ensures.left c.part_from.ensures.part c.push_reserved.ensures.items c.loop-part.invariant.so;
}

pub returns-clause-parts : goal.returns-clause-parts
returns-clause-parts g c = (parts_end g.E.TaskElement c.args.wired.items c.args.elements.now.items c.loop-part.rest.items c.loop-part.elements.items c.loop-part.parts.items
    (is_empty c.loop-part.rest.items (sym c.loop-part.rest.ok.0 ∙ c.in_default.ensures.cases.0)) c.loop-part.invariant.so).0

pub returns-clause-left : goal.returns-clause-left
returns-clause-left g c = (parts_end g.E.TaskElement c.args.wired.items c.args.elements.now.items c.loop-part.rest.items c.loop-part.elements.items c.loop-part.parts.items
    (is_empty c.loop-part.rest.items (sym c.loop-part.rest.ok.0 ∙ c.in_default.ensures.cases.0)) c.loop-part.invariant.so).1
