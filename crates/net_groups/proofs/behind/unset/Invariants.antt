use Rattle.std.proofs.Common.{◌≡◌, ◌≤◌, length, vec_capacity}
use Rattle.net_groups.specs.Behind.{NoneSet}
use Rattle.net_groups.proofs.behind.unset.Given as goal

abbrev pub invariant-loop : goal.invariant-loop
invariant-loop l = record {
  size : length l.flags.items ≡ l.counter;
  room : l.fn.count ≤ vec_capacity l.flags;
  none : NoneSet l.flags.items;
}
