use Rattle.std.proofs.Common.{length, refl, ap, arith}
use Rattle.el_mix.proofs.Holding.{first_within, pass_whole, pass_part, pass_none, whole_holds, part_holds, none_ahead}
use Rattle.el_mix.proofs.waiting.Waiting.pass.Goals as goal

pub returns-in_default : goal.returns-in_default
returns-in_default c =
    pass_none c.self.inside.gone c.self.inside.bodies_ahead c.self.inside.bytes_ahead c.args.bytes c.self.inside.bodies.items c.args.self.now (none_ahead c.self.inside.bodies.items c.self.inside.bodies_ahead _ c.self.inside.bodies.ok.0 c.in_default.ensures.variant.1) c.self.view_is

pub overflow_sub-left : goal.overflow_sub-left
overflow_sub-left c =
    omega (arith, first_within c.self.inside.gone c.self.inside.bodies_ahead c.self.inside.bytes_ahead c.self.inside.bodies.items c.in-Some.body.now c.as_slice.result.now c.self.invariant (omega (arith, c.in-Some.ensures.variant.0 refl, c.self.inside.bodies.ok.0)) c.in-Some.ensures.lookup c.as_slice.ensures.bytes)

pub overflow_add-self : goal.overflow_add-self
overflow_add-self c = omega (arith, c.in-Some.ensures.variant.0 refl, c.self.inside.bodies.small.0, c.self.inside.bodies.small.1)

pub invariant_of-self : goal.invariant_of-self
invariant_of-self c = whole_holds c.self.inside.gone c.self.inside.bodies_ahead c.self.inside.bytes_ahead c.self.inside.bodies.items c.self.invariant (omega (arith, c.in-Some.ensures.variant.0 refl, c.self.inside.bodies.ok.0))

pub overflow_add-self-else-left-bytes : goal.overflow_add-self-else-left-bytes
overflow_add-self-else-left-bytes c = omega (arith, c.as_slice.ensures.small, ap length c.as_slice.ensures.bytes, c.if-left-bytes.false)

pub invariant_of-self-else-left-bytes : goal.invariant_of-self-else-left-bytes
invariant_of-self-else-left-bytes c =
    part_holds c.self.inside.gone c.self.inside.bodies_ahead c.self.inside.bytes_ahead c.args.bytes c.self.inside.bodies.items c.in-Some.body.now c.as_slice.result.now c.self.invariant (omega (arith, c.in-Some.ensures.variant.0 refl, c.self.inside.bodies.ok.0)) c.in-Some.ensures.lookup c.as_slice.ensures.bytes c.if-left-bytes.false

pub returns-then-left-bytes : goal.returns-then-left-bytes
returns-then-left-bytes c =
    pass_whole c.self.inside.gone c.self.inside.bodies_ahead c.self.inside.bytes_ahead c.args.bytes c.self.inside.bodies.items c.in-Some.body.now c.as_slice.result.now c.args.self.now (omega (arith, c.in-Some.ensures.variant.0 refl, c.self.inside.bodies.ok.0)) c.in-Some.ensures.lookup c.as_slice.ensures.bytes c.if-left-bytes.true c.self.view_is

pub returns-else-left-bytes : goal.returns-else-left-bytes
returns-else-left-bytes c =
    pass_part c.self.inside.gone c.self.inside.bodies_ahead c.self.inside.bytes_ahead c.args.bytes c.self.inside.bodies.items c.in-Some.body.now c.as_slice.result.now c.args.self.now (omega (arith, c.in-Some.ensures.variant.0 refl, c.self.inside.bodies.ok.0)) c.in-Some.ensures.lookup c.as_slice.ensures.bytes c.if-left-bytes.false c.self.view_is
