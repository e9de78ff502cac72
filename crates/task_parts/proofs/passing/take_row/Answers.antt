use Rattle.std.proofs.Common.{refl, arith, inl, inr}
use Rattle.task_pads.proofs.Lists.{some_at}
use Rattle.task_parts.proofs.passing.take_row.Goals as goal

pub returns-then-port-len-clause-asked : goal.returns-then-port-len-clause-asked
returns-then-port-len-clause-asked g c = inr (record { past = omega (arith, c.if-port-len.true, c.len.ensures, c.args.head.now.rows.ok.0); number = refl; rows = refl; table = refl; empty = refl })

pub take-requires-clause-table : goal.take-requires-clause-table
take-requires-clause-table g c κs within = c.requires.ready c.args.port c.index_mut.result.now (some_at c.args.head.now.rows.items c.args.port c.index_mut.result.now (omega (arith, c.if-port-len.false, c.len.ensures, c.args.head.now.rows.ok.0)) c.index_mut.ensures.value)

pub returns-clause-asked : goal.returns-clause-asked
returns-clause-asked g c = inl (record {
  was = c.index_mut.result.now;
  is = c.take.new.self;
  set = record { number = refl; at = some_at c.args.head.now.rows.items c.args.port c.index_mut.result.now (omega (arith, c.if-port-len.false, c.len.ensures, c.args.head.now.rows.ok.0)) c.index_mut.ensures.value; set = refl };
  gave = c.take.ensures.gave;
  stays = c.take.ensures.table;
  moves = c.take.ensures.moves;
  between = c.take.ensures.between;
  holds = c.take.ensures.holds;
})
