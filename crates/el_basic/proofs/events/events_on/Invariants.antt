use Rattle.std.proofs.Common.{◌≡◌, take, map}
use Rattle.flow_model.specs.Feeding.{on_pad}
use Rattle.flow_model.specs.Item.{Ev}
use Rattle.el_basic.proofs.events.events_on.Given as goal

abbrev pub invariant-loop-event : goal.invariant-loop-event
invariant-loop-event l = l.queue.items ≡ on_pad l.pad (map Ev (take l.event-index l.events))
