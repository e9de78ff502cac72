use Rattle.std.proofs.Common.{◌≡◌, ◌≤◌, vec_len, vec_capacity}
use Rattle.net_groups.specs.Places.{AreBare}
use Rattle.net_groups.proofs.splitting.empty_rows.Given as goal

abbrev pub invariant-loop : goal.invariant-loop
invariant-loop g l = record {
  size : vec_len l.rows ≡ l.counter;
  room : l.fn.pads ≤ vec_capacity l.rows;
  bare : AreBare l.rows.items;
}
