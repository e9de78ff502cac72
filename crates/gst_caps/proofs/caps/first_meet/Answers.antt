use Rattle.std.proofs.Common.{sym, ◌∙◌}
use Rattle.gst_caps.proofs.Meeting.{rows_found}
use Rattle.gst_caps.proofs.caps.first_meet.Goals as goal

pub returns-in-Some : goal.returns-in-Some
returns-in-Some c =
    rows_found c.args.first.now c.args.second.now c.loop-one.one-index c.one-item.result c.in-Some.found c.loop-one-test.true c.one-item.is c.loop-one.invariant (sym c.in-Some.is ∙ c.in_ok-found.ensures)
