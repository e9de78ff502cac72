use Rattle.std.proofs.Common.{refl}
use Rattle.lane_core.proofs.memory.MemInletInlet.meet.Goals as goal

pub returns-clause-meets : goal.returns-clause-meets
returns-clause-meets c sent got s r between =
    let at = between c.args.lanes.now refl in
    record { rest = at.0.items; whole = at.2; into = c.in_ok-pour.ensures.into at.0 at.1; inlet = s; outlet = s }
