use Rattle.std.proofs.Common.{arith}
use Rattle.net_groups.proofs.joining.room_to_join.Goals as goal

pub returns : goal.returns
returns g c = record {
  empty = c.in_ok-parts.ensures.empty;
  both = λ k j f p.
      let a = c.most_fed.ensures k f in
      let b = c.most_with.ensures j p in
      let r = c.in_ok-parts.ensures.room in
      omega (arith, a, b, r);
}
