use Rattle.std.proofs.Common.{refl, arith}
use Rattle.el_mix.proofs.Holding.{first_some, first_small, first_none, first_within, none_ahead}
use Rattle.el_mix.proofs.waiting.Waiting.first.Goals as goal

pub slice_bounds-result-count : goal.slice_bounds-result-count
slice_bounds-result-count c =
    omega (arith, first_within c.self.inside.gone c.self.inside.bodies_ahead c.self.inside.bytes_ahead c.self.inside.bodies.items c.in-Some.body.now c.as_slice.result.now c.self.invariant (omega (arith, c.in-Some.ensures.variant.0 refl, c.self.inside.bodies.ok.0)) c.in-Some.ensures.lookup c.as_slice.ensures.bytes)

pub returns-in-Some-clause-first : goal.returns-in-Some-clause-first
returns-in-Some-clause-first c =
    first_some c.self.inside.gone c.self.inside.bodies_ahead c.self.inside.bytes_ahead c.self.inside.bodies.items c.in-Some.body.now c.as_slice.result.now c.args.self.now (omega (arith, c.in-Some.ensures.variant.0 refl, c.self.inside.bodies.ok.0)) c.in-Some.ensures.lookup c.as_slice.ensures.bytes c.self.view_is

pub returns-in-Some-clause-small : goal.returns-in-Some-clause-small
returns-in-Some-clause-small c = first_small c.self.inside.bytes_ahead c.as_slice.result.now (rw c.as_slice.ensures.bytes c.as_slice.ensures.small)

pub returns-in-None-clause-first : goal.returns-in-None-clause-first
returns-in-None-clause-first c =
    first_none c.self.inside.gone c.self.inside.bodies_ahead c.self.inside.bytes_ahead c.self.inside.bodies.items c.args.self.now (none_ahead c.self.inside.bodies.items c.self.inside.bodies_ahead _ c.self.inside.bodies.ok.0 c.in-None.ensures.variant.1) c.self.view_is
