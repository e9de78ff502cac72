use Rattle.std.proofs.Common.{◌≡◌, length}
use Rattle.inlet_row.specs.Row.{feeds_of}
use Rattle.inlet_row.proofs.Moving.{Between}
use Rattle.inlet_row.proofs.row.InletRow.next.Given as goal

abbrev pub invariant-loop-self : goal.invariant-loop-self
invariant-loop-self g l = record {
  between : Between g.I.Inlet (g.I.Out.Outlet.tells l.fn.lanes) (g.I.Out.Outlet.tells l.lanes) l.fn.self l.self;
  into : l.into ≡ l.fn.into;
}

abbrev pub decreases-loop-self : goal.decreases-loop-self
decreases-loop-self g l = length (feeds_of l.self)
