use Rattle.std.proofs.Common.{subst, Option, List}
use Rattle.lane_core.specs.Lane.{Lane}
use Rattle.inlet_row.specs.Take.{Moves}
use Rattle.inlet_row.specs.Taken.{taken_of}
use Rattle.inlet_row.proofs.Results.{between_after, gave_after, holds_after, keeps_lanes}
use Rattle.inlet_row.proofs.row.InletRow.take.Goals as goal

pub returns-clause-table : goal.returns-clause-table
returns-clause-table g c = keeps_lanes g.I.Inlet _ _ _ _ (taken_of c.next.result c.next.new.into) c.next.ensures.moves c.requires.table

pub returns-clause-gave : goal.returns-clause-gave
returns-clause-gave g c = λ got h. gave_after g.I.Inlet _ _ _ _ (taken_of c.next.result c.next.new.into) got c.next.ensures.moves h

pub returns-clause-between : goal.returns-clause-between
returns-clause-between g c = λ sents got apart h. between_after g.I.Inlet _ _ sents _ _ (taken_of c.next.result c.next.new.into) got c.next.ensures.moves apart h

pub returns-clause-holds : goal.returns-clause-holds
returns-clause-holds g c =
    λ t sents got told apart h.
    holds_after
    g.I.Inlet
    t
    sents
    _
    c.args.self.now
    c.next.new.self
    (taken_of c.next.result c.next.new.into)
    got
    (subst (λ (tells : Option (List Lane)). Moves g.I.Inlet tells (g.I.Out.Outlet.tells c.next.new.lanes) c.args.self.now c.next.new.self (taken_of c.next.result c.next.new.into)) told c.next.ensures.moves)
    apart
    h
