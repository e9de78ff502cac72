use Rattle.el_sink.proofs.Disks.{flow_by_list}
use Rattle.el_sink.proofs.file_sink.FileSink.render.Goals as goal

pub returns-clause-flow : goal.returns-clause-flow
returns-clause-flow g c = flow_by_list _ _ c.take_item.result _ c.take_item.ensures.flow
