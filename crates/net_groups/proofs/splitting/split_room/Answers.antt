use Rattle.std.proofs.Common.{ℕ, arith, subst, sym}
use Rattle.net_groups.specs.Splits.{IsRoom}
use Rattle.net_groups.proofs.splitting.split_room.Goals as goal

pub returns-clause-room : goal.returns-clause-room
returns-clause-room g c = record {
  flags = (c.in_ok-flags.ensures.items, let a = c.in_ok-flags.ensures.exact in omega (arith, a));
  halves = subst (λ (n : ℕ). IsRoom c.in_ok-halves.halves c.args.count n) (sym c.in_ok-halves.ensures.size) c.in_ok-halves.ensures;
}

pub returns-clause-pads : goal.returns-clause-pads
returns-clause-pads g c = c.in_ok-halves.ensures.size
