use Rattle.part_tests.proofs.inlet_row_tests.take_some.Goals as goal

pub returns-in_err-push-clause-lanes : goal.returns-in_err-push-clause-lanes
returns-in_err-push-clause-lanes g c n h = c.take-answer.ensures.table.lanes n (c.loop.invariant.lanes n h)

pub loop-preserved : goal.loop-preserved
loop-preserved g c = record { row = c.take-answer.ensures.table.within; lanes = λ n h. c.take-answer.ensures.table.lanes n (c.loop.invariant.lanes n h) }
