use Rattle.std.proofs.Common.{◌≡◌, ◌≤◌, length}
use Rattle.net_task.specs.Frame.{frame_of}
use Rattle.net_task.proofs.SoFar.{SoFar, WasBefore}
use Rattle.net_task.proofs.task.Task.try_parts.Given as goal

abbrev pub invariant-loop-place : goal.invariant-loop-place
invariant-loop-place g l =
    SoFar (g.O.Outlet.tells l.fn.lanes) (g.O.Outlet.tells l.lanes) l.fn.self l.self (WasBefore (frame_of l.fn.self) l.place) l.tried
    × (l.place-end ≡ length l.self.parts.items)
    × (l.self.from ≤ l.place)
