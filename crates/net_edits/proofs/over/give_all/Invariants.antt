use Rattle.std.proofs.Common.{◌≡◌, ◌<◌, ◌+◌, ◌++◌, map}
use Rattle.std.specs.VecDeque.{deque_len}
use Rattle.flow_model.specs.Item.{Ev}
use Rattle.inlet_row.specs.Row.{feeds_of, room_of}
use Rattle.inlet_row.specs.declared.feeding.Feeding.TheVariants.{Given}
use Rattle.net_edits.proofs.over.give_all.Given as goal

abbrev pub invariant-loop-event : goal.invariant-loop-event
invariant-loop-event g l = record {
  feeds : feeds_of l.row ++ map (λ event. Given (Ev event)) l.events.items ≡ feeds_of l.fn.row ++ map (λ event. Given (Ev event)) l.fn.events.items;
  room : deque_len l.events < room_of l.row;
  same : room_of l.row + deque_len l.fn.events ≡ room_of l.fn.row + deque_len l.events;
}

abbrev pub decreases-loop-event : goal.decreases-loop-event
decreases-loop-event g l = deque_len l.events
