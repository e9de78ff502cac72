use Rattle.std.proofs.Common.{length, arith, ap}
use Rattle.turn_order.proofs.Remainders.{among_more}
use Rattle.turn_order.proofs.turns.Turns.next.Goals as goal

pub returns-in-None-clause-among : goal.returns-in-None-clause-among
returns-in-None-clause-among c =
    λ order count n some more h.
    among_more order count n c.in-Listed.numbers c.args.self.now c.saturating_add-self.result c.in-Listed.is (omega (arith, c.in-None.ensures.lookup, ap length c.as_slice.ensures)) (omega (arith, more, c.saturating_add-self.ensures)) h
