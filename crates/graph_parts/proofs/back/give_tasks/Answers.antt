use Rattle.std.proofs.Common.{arith}
use Rattle.graph_core.specs.Elements.{all_made}
use Rattle.graph_parts.specs.Back.{HasHead, HasPart, HasSource}
use Rattle.graph_parts.specs.Put.{Among}
use Rattle.graph_parts.proofs.Giving.{ends_joined, ends_none, lengths_joined, lengths_none}
use Rattle.graph_parts.proofs.Putting.{among_joins, among_none}
use Rattle.graph_parts.proofs.back.give_tasks.Goals as goal

pub loop-task-preserved : goal.loop-task-preserved
loop-task-preserved g c = record {
  ends = λ final put. c.loop-task.invariant.ends final
      (ends_joined (all_made c.args.elements.now) (HasHead c.in-Some.task) (HasSource c.pop.new.self.items) (HasSource c.loop-task.tasks.items) (HasPart c.in-Some.task) (Among HasPart c.pop.new.self.items) (Among HasPart c.loop-task.tasks.items)
      c.loop-task.ends.items c.give_task.new.ends.items final (among_joins HasHead c.loop-task.tasks.items c.pop.new.self.items c.in-Some.task c.in-Some.ensures.items)
      (among_joins HasPart c.loop-task.tasks.items c.pop.new.self.items c.in-Some.task c.in-Some.ensures.items) c.give_task.ensures.ends put);
  lengths = λ final put. c.loop-task.invariant.lengths final
      (lengths_joined (HasPart c.in-Some.task) (Among HasPart c.pop.new.self.items) (Among HasPart c.loop-task.tasks.items)
      c.loop-task.lengths.items c.give_task.new.lengths.items final (among_joins HasPart c.loop-task.tasks.items c.pop.new.self.items c.in-Some.task c.in-Some.ensures.items) c.give_task.ensures.lengths put);
}

pub returns-clause-ends : goal.returns-clause-ends
returns-clause-ends g c = c.loop-task.invariant.ends c.loop-task.ends.items
    (ends_none (all_made c.args.elements.now) (HasSource c.loop-task.tasks.items) (Among HasPart c.loop-task.tasks.items) c.loop-task.ends.items (among_none HasHead c.loop-task.tasks.items (omega (arith, c.loop-task.tasks.ok.0, c.in_default.ensures.cases.0))) (among_none HasPart c.loop-task.tasks.items (omega (arith, c.loop-task.tasks.ok.0, c.in_default.ensures.cases.0))))

pub returns-clause-lengths : goal.returns-clause-lengths
returns-clause-lengths g c = c.loop-task.invariant.lengths c.loop-task.lengths.items (lengths_none (Among HasPart c.loop-task.tasks.items) c.loop-task.lengths.items (among_none HasPart c.loop-task.tasks.items (omega (arith, c.loop-task.tasks.ok.0, c.in_default.ensures.cases.0))))
