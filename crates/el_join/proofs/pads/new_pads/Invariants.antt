use Rattle.std.proofs.Common.{◌≡◌, [], replicate, vec_len}
use Rattle.el_join.specs.Joins.{facts_of, waiting_of}
use Rattle.el_join.specs.Pads.{no_facts}
use Rattle.el_join.proofs.pads.new_pads.Given as goal

abbrev pub invariant-loop : goal.invariant-loop
invariant-loop l = record {
  facts : facts_of l.pads.items ≡ replicate l.counter no_facts;
  waiting : waiting_of l.pads.items ≡ replicate l.counter [];
  count : vec_len l.pads ≡ l.counter;
}
