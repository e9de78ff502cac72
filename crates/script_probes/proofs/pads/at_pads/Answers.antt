-- One probe more stands at the pad at which its command waits.
use Rattle.std.proofs.Common.{refl, arith}
use Rattle.script_probes.specs.Queues.{queue_at}
use Rattle.script_probes.proofs.Waiting.{placed}
use Rattle.script_probes.proofs.pads.at_pads.Goals as goal

pub loop-stop-preserved : goal.loop-stop-preserved
loop-stop-preserved c = λ pad.
    placed c.args.commands.now c.args.stops.now c.loop-stop.stop-index _ (record { command = 0; buffers = 0 }) c.index-commands-stop.result pad (queue_at c.loop-stop.elements pad) (queue_at c.put_stop.new.elements pad)
    (omega arith) refl (c.requires c.loop-stop.stop-index (record { command = 0; buffers = 0 }) (omega arith)) c.index-commands-stop.is (c.loop-stop.invariant pad) (c.in_ok-put_stop.ensures pad)
