use Rattle.std.proofs.Common.{refl, arith}
use Rattle.lane_core.proofs.memory.MemOutletOutlet.put.Goals as goal

pub len_of-held-requires : goal.len_of-held-requires
len_of-held-requires c = let at = c.requires.table c.args.lanes.now refl in (at.0, at.1)

pub overflow_sub-self : goal.overflow_sub-self
overflow_sub-self c = let at = c.requires.table c.args.lanes.now refl in let len = c.len_of-held.ensures at.0 at.1 in omega arith

pub put-requires : goal.put-requires
put-requires c = let at = c.requires.table c.args.lanes.now refl in let len = c.len_of-held.ensures at.0 at.1 in (at.0, at.1, omega arith)

pub returns-then-held-self-clause-room : goal.returns-then-held-self-clause-room
returns-then-held-self-clause-room c was counted =
    let at = c.requires.table c.args.lanes.now refl in
    let len = c.len_of-held.ensures at.0 at.1 in
    omega arith
