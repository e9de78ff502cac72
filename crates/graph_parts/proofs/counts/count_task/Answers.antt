use Rattle.std.proofs.Common.{List, subst}
use Rattle.task_parts.specs.declared.head.Head.{Head}
use Rattle.task_parts.specs.declared.part.Part.{Part}
use Rattle.graph_parts.specs.Counts.{HeadCounted, PartCounted}
use Rattle.graph_parts.specs.Put.{Among, PutBack}
use Rattle.graph_parts.proofs.Counting.{task_counted}
use Rattle.graph_parts.proofs.counts.count_task.Goals as goal

pub returns : goal.returns
returns g c =
    task_counted c.args.task.now c.args.counts.now.items c.count_head.new.counts.items c.count_parts.new.counts.items
    (subst (λ (head : Head g.row.S.Denot g.row.I.Denot g.row.O.Denot g.S.TaskSource). PutBack (HeadCounted head) c.args.counts.now.items c.count_head.new.counts.items) c.head.ensures c.count_head.ensures)
    (subst (λ (parts : List (Part g.row.E.Denot g.row.O.Denot g.E.TaskElement)). PutBack (Among PartCounted parts) c.count_head.new.counts.items c.count_parts.new.counts.items) c.parts.ensures c.count_parts.ensures)
