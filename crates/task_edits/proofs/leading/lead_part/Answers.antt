use Rattle.task_edits.proofs.Padding.{led_part}
use Rattle.task_edits.proofs.leading.lead_part.Goals as goal

pub returns : goal.returns
returns g c = led_part c.args.part.now c.lead.new.self c.args.port c.args.behind c.lead.result c.lead.ensures
