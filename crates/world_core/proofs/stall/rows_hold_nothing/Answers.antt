use Rattle.std.proofs.Common.{refl, arith}
use Rattle.world_core.proofs.LeftOver.{rows_all, rows_more, rows_not}
use Rattle.world_core.proofs.stall.rows_hold_nothing.Goals as goal

pub loop-port-init : goal.loop-port-init
loop-port-init g c = λ t told k row low at. absurd (omega (arith, low))

pub returns-then-not-is_empty : goal.returns-then-not-is_empty
returns-then-not-is_empty g c = λ t told. (
  λ so. absurd cc,
  λ all. absurd (rows_not g.I.Inlet t c.args.rows.now c.loop-port.port c.index-rows-port.result c.is_empty.result c.loop-port-test.true c.index-rows-port.is (c.is_empty.ensures t told) c.if-not-is_empty.true all),
)

pub loop-port-preserved : goal.loop-port-preserved
loop-port-preserved g c = λ t told.
    rows_more g.I.Inlet t c.args.rows.now c.loop-port.port c.index-rows-port.result c.is_empty.result c.loop-port-test.true c.index-rows-port.is (c.is_empty.ensures t told) c.if-not-is_empty.false
    (c.loop-port.invariant t told)

pub returns : goal.returns
returns g c = λ t told. (
  λ so. rows_all g.I.Inlet t c.args.rows.now c.loop-port.port c.loop-port-test.false (c.loop-port.invariant t told),
  λ all. refl,
)
