use Rattle.std.proofs.Common.{◌≡◌, ◌+◌, ◌++◌, List, get_or, take, refl, sym, ap, ◌∙◌, subst, arith, add-one}
use Rattle.flow_model.specs.Item.{Item}
use Rattle.el_set.specs.Joins.{may_take}
use Rattle.el_denote.specs.Turns.{section_turns}
use Rattle.el_denote.proofs.Looping.{pads_first, pads_next, pads_fault, pads_all}
use Rattle.el_denote.proofs.Ordering.{first_ordered}
use Rattle.el_denote.proofs.joined.take_pads.Goals as goal

pub loop-input-init : goal.loop-input-init
loop-input-init c = (refl, refl, λ settings turns r. pads_first settings c.args.number c.args.join.now turns c.args.inputs.now c.args.put.now r, c.requires.fed, first_ordered c.args.join.now)

pub take_pad-requires-clause-pad : goal.take_pad-requires-clause-pad
take_pad-requires-clause-pad c = omega (arith, c.requires.pads, c.loop-input.invariant.0, c.loop-input.invariant.1, c.loop-input-test.true)

pub take_pad-requires-clause-few : goal.take_pad-requires-clause-few
take_pad-requires-clause-few c = omega (arith, c.requires.few, c.loop-input.invariant.1, c.loop-input-test.true)

pub overflow_add-pad : goal.overflow_add-pad
overflow_add-pad c = omega (arith, c.requires.few, c.loop-input.invariant.1, c.loop-input-test.true)

pub returns-in-Err-clause-fault : goal.returns-in-Err-clause-fault
returns-in-Err-clause-fault c = λ settings turns r.
    let p = c.loop-input.invariant.2 settings turns r in
    pads_fault settings c.args.number turns c.args.inputs.now c.loop-input.input-index c.loop-input.pad _ c.in-Err.fault c.loop-input.invariant.1 c.loop-input-test.true (subst (λ (ys : List Item). ys ≡ get_or c.args.inputs.now c.loop-input.input-index ys) (sym c.as_slice.ensures) c.input-item.is)
    (c.in-Err.ensures.fault settings p.0 (turns ++ section_turns c.args.number 0 (take c.loop-input.input-index c.args.inputs.now)) (p.1 ∙ sym c.loop-input.invariant.1) p.2)

pub loop-input-preserved : goal.loop-input-preserved
loop-input-preserved c = (
  c.take_pad.ensures.pads ∙ c.loop-input.invariant.0,
  ap (λ n. n + 1) c.loop-input.invariant.1,
  λ settings turns r.
      let p = c.loop-input.invariant.2 settings turns r in
      pads_next settings c.args.number c.in-Ok.more c.take_pad.new.join p.0 turns c.args.inputs.now c.loop-input.input-index c.loop-input.pad _ c.take_pad.new.put p.1 c.loop-input.invariant.1 c.loop-input-test.true
      (subst (λ (ys : List Item). ys ≡ get_or c.args.inputs.now c.loop-input.input-index ys) (sym c.as_slice.ensures) c.input-item.is)
      (c.in-Ok.ensures.taken settings p.0 (turns ++ section_turns c.args.number 0 (take c.loop-input.input-index c.args.inputs.now)) (p.1 ∙ sym c.loop-input.invariant.1) p.2),
  c.in-Ok.ensures.fed,
  ap (λ n. may_take n c.take_pad.new.join) (add-one c.loop-input.pad) ∙ c.in-Ok.ensures.order,
)

pub returns-clause-taken : goal.returns-clause-taken
returns-clause-taken c = λ settings turns r.
    pads_all settings c.args.number c.loop-input.gaps c.loop-input.join turns c.args.inputs.now c.loop-input.input-index c.loop-input.put c.loop-input-test.false (c.loop-input.invariant.2 settings turns r)
