use Rattle.std.proofs.Common.{◌≡◌, List, Some}
use Rattle.lane_core.specs.Lane.{Lane}
use Rattle.world_core.proofs.LeftOver.{FirstHoldNothing}
use Rattle.world_core.proofs.stall.hold_nothing.Given as goal

abbrev pub invariant-loop-place : goal.invariant-loop-place
invariant-loop-place g l = (t : List Lane) → g.O.Outlet.tells l.lanes ≡ Some t → FirstHoldNothing g.I.Inlet t l.tasks l.steps l.place
