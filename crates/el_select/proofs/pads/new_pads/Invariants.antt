use Rattle.std.proofs.Common.{◌≡◌, [], replicate, vec_len}
use Rattle.el_select.specs.Selects.{KnowEach}
use Rattle.el_select.proofs.pads.new_pads.Given as goal

abbrev pub invariant-loop : goal.invariant-loop
invariant-loop l = record {
  know : KnowEach l.pads.items (replicate l.counter []);
  count : vec_len l.pads ≡ l.counter;
}
