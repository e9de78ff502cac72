use Rattle.std.proofs.Common.{◌∙◌, refl, sym}
use Rattle.el_denote.proofs.Looping.{at_empty, at_next, at_last, joined_ok, joined_err, joined_last}
use Rattle.el_denote.proofs.joined.evaluated.Goals as goal

pub loop-number-init : goal.loop-number-init
loop-number-init c = (refl, λ settings at. at_empty settings c.args.inputs.now c.args.element _ c.new-out.ensures at, c.requires.fed)

pub take_flushed-requires-clause-pads : goal.take_flushed-requires-clause-pads
take_flushed-requires-clause-pads c = c.requires.pads ∙ sym c.loop-number.invariant.0

pub returns-in-Err : goal.returns-in-Err
returns-in-Err c = λ settings kind at.
    joined_err settings c.args.inputs.now c.loop-number.number c.most_stops_of-last.result c.in-Err.fault c.most_stops_of-last.ensures c.loop-number-test.true
    (c.in-Err.ensures.fault settings (c.loop-number.invariant.1 settings at))

pub loop-number-preserved : goal.loop-number-preserved
loop-number-preserved c = (
  c.take_flushed.ensures.pads ∙ c.loop-number.invariant.0,
  λ settings at. at_next settings c.args.inputs.now c.loop-number.number c.take_flushed.new.join c.take_flushed.new.out (c.in-Ok.ensures.taken settings (c.loop-number.invariant.1 settings at)),
  c.in-Ok.ensures.fed,
)

pub take_section-requires-clause-pads : goal.take_section-requires-clause-pads
take_section-requires-clause-pads c = c.requires.pads ∙ sym c.loop-number.invariant.0

pub returns-in-Ok-take_section : goal.returns-in-Ok-take_section
returns-in-Ok-take_section c = λ settings kind at.
    joined_ok settings c.args.inputs.now c.most_stops_of-last.result c.take_section.new.join c.take_section.new.out kind
    (c.requires.pads ∙ sym (c.take_section.ensures.pads ∙ c.loop-number.invariant.0)) c.most_stops_of-last.ensures
    (c.in-Ok-take_section.ensures.taken settings
    (at_last settings c.args.inputs.now c.loop-number.number c.most_stops_of-last.result c.loop-number.running c.loop-number.out c.loop-number.auto.number-end c.loop-number-test.false
    (c.loop-number.invariant.1 settings at)))

pub returns : goal.returns
returns c = λ settings kind at.
    joined_last settings c.args.inputs.now c.most_stops_of-last.result c.in-Err-take_section.fault c.most_stops_of-last.ensures
    (c.in-Err-take_section.ensures.fault settings
    (at_last settings c.args.inputs.now c.loop-number.number c.most_stops_of-last.result c.loop-number.running c.loop-number.out c.loop-number.auto.number-end c.loop-number-test.false
    (c.loop-number.invariant.1 settings at)))
