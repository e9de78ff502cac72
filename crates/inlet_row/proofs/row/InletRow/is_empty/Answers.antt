use Rattle.std.proofs.Common.{refl, sym, ◌∙◌, arith}
use Rattle.inlet_row.specs.Row.{feeds_of}
use Rattle.inlet_row.proofs.Emptying.{held_next, held_past, held_some}
use Rattle.inlet_row.proofs.row.InletRow.is_empty.Goals as goal

pub loop-place-init : goal.loop-place-init
loop-place-init g c = λ t told. refl

pub returns-then-not-is_empty : goal.returns-then-not-is_empty
returns-then-not-is_empty g c = λ t told. (
  λ so. absurd cc,
  λ none. sym c.if-not-is_empty.true ∙ (c.is_empty.ensures t told).1
      (held_some g.I.Inlet t (feeds_of c.args.self.now) c.loop-place.place c.index.result.now (omega (arith, c.loop-place-test.true, c.len-place-end.ensures)) c.index.ensures (c.loop-place.invariant t told) none),
)

pub loop-place-preserved : goal.loop-place-preserved
loop-place-preserved g c = λ t told.
    held_next g.I.Inlet t (feeds_of c.args.self.now) c.loop-place.place c.index.result.now (omega (arith, c.loop-place-test.true, c.len-place-end.ensures)) c.index.ensures (c.loop-place.invariant t told)
    ((c.is_empty.ensures t told).0 c.if-not-is_empty.false)

pub returns : goal.returns
returns g c = λ t told. (
  λ so. held_past g.I.Inlet t (feeds_of c.args.self.now) c.loop-place.place (omega (arith, c.loop-place-test.false, c.len-place-end.ensures)) (c.loop-place.invariant t told),
  λ none. refl,
)
