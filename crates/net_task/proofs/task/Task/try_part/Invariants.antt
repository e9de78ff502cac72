use Rattle.std.proofs.Common.{◌≤◌}
use Rattle.net_task.specs.Frame.{frame_of}
use Rattle.net_task.specs.Tries.{SettledAt}
use Rattle.net_task.proofs.SoFar.{PadsAre, SoFar, WasBelow}
use Rattle.net_task.proofs.task.Task.try_part.Given as goal

abbrev pub invariant-loop-port : goal.invariant-loop-port
invariant-loop-port g l =
    SoFar (g.O.Outlet.tells l.fn.lanes) (g.O.Outlet.tells l.lanes) l.fn.self l.self (WasBelow (frame_of l.fn.self) l.place l.port) l.tried
    × PadsAre l.self.parts.items l.place l.port-end
    × SettledAt l.self.parts.items l.place
    × (l.self.from ≤ l.fn.self.from)
    × (l.port ≤ l.port-end)
