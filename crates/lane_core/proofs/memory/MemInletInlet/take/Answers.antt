use Rattle.std.proofs.Common.{◌≤◌, ◌^◌, length, ap, refl, ◌∙◌, arith}
use Rattle.lane_core.proofs.memory.MemInletInlet.take.Goals as goal

pub unreachable-requires : goal.unreachable-requires
unreachable-requires c =
    let at = c.requires.table c.args.lanes.now refl in
    let none = (c.in_default.ensures at.0 at.1).0 in
    let len = c.len_of-held.ensures at.0 at.1 ∙ ap length none in
    let bounded : c.args.self.now.count ≤ 2 ^ 62 = c.args.self.now.bounded in
    omega arith
