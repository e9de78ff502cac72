use Rattle.std.proofs.Common.{arith}
use Rattle.net_groups.proofs.Finds.{bare_next, none_bare}
use Rattle.net_groups.proofs.splitting.empty_rows.Goals as goal

pub loop-init : goal.loop-init
loop-init g c = record {
  size = c.in_ok-rows.ensures.len;
  room = let a = c.in_ok-rows.ensures.exact in omega (arith, a);
  bare = none_bare c.in_ok-rows.rows.items c.in_ok-rows.ensures.items;
}

pub loop-preserved : goal.loop-preserved
loop-preserved g c = record {
  size = let a = c.loop.invariant.size in let b = c.push_reserved.ensures.len in omega (arith, a, b);
  room = let a = c.loop.invariant.room in let b = c.push_reserved.ensures.capacity in omega (arith, a, b);
  bare = bare_next c.loop.rows.items c.push_reserved.new.self.items c.new.result c.push_reserved.ensures.items c.new.ensures.feeds c.loop.invariant.bare;
}
