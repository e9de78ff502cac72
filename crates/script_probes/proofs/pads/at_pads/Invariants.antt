use Rattle.std.proofs.Common.{◌≡◌, take, filter}
use Rattle.gst_value.specs.declared.name.PadName.{PadName}
use Rattle.script_probes.specs.Queues.{is_at, queue_at}
use Rattle.script_probes.proofs.pads.at_pads.Given as goal

abbrev pub invariant-loop-stop : goal.invariant-loop-stop
invariant-loop-stop l = (pad : PadName) → queue_at l.elements pad ≡ filter (is_at l.commands pad) (take l.stop-index l.stops)
