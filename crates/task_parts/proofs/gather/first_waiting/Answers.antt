use Rattle.task_parts.proofs.Idling.{below_none}
use Rattle.task_parts.proofs.gather.first_waiting.Goals as goal

pub loop-port-init : goal.loop-port-init
loop-port-init g c = below_none c.args.from c.args.pads.now c.requires.from
