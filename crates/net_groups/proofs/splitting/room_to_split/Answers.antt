use Rattle.std.proofs.Common.{◌∙◌, List, arith, subst, sym}
use Rattle.net_task.specs.declared.task.Task.{Task}
use Rattle.net_groups.specs.Splits.{HasRoomBeside}
use Rattle.net_groups.proofs.splitting.room_to_split.Goals as goal

pub returns-clause-room : goal.returns-clause-room
returns-clause-room g c = record {
  more = let a = c.in_ok-reserve.ensures.ok in let b = c.in_ok-reserve.ensures.len in omega (arith, a, b);
  beside = subst (λ (ts : List (Task _ _ _ _ _ _ _ _ _)). HasRoomBeside ts c.args.element c.in_ok-room.room) (c.as_slice.ensures.value ∙ sym c.in_ok-reserve.ensures.items) c.in_ok-room.ensures.room;
}
