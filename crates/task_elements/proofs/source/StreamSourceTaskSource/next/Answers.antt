use Rattle.task_elements.proofs.Sources.{gives, stops}
use Rattle.task_elements.proofs.source.StreamSourceTaskSource.next.Goals as goal

pub returns-clause-gives : goal.returns-clause-gives
returns-clause-gives g c = rw c.answer.ensures (gives g.S.Source.content c.args.self.now.source c.next.new.self c.next.result c.next.ensures.content_stays c.next.ensures.gave)

pub returns-clause-short : goal.returns-clause-short
returns-clause-short g c = rw c.answer.ensures (stops g.S.Source.content c.args.self.now.source c.next.result c.next.ensures.short)
