use Rattle.std.proofs.Common.{◌∙◌, sym, arith}
use Rattle.el_denote.proofs.Looping.{few_sinks, first_at}
use Rattle.el_denote.proofs.Ordering.{first_fed, made_is}
use Rattle.el_denote.proofs.joined.joined.Goals as goal

pub evaluated-requires-clause-fed : goal.evaluated-requires-clause-fed
evaluated-requires-clause-fed c =
    first_fed c.args.settings.now c.in-Some.element (made_is c.args.settings.now c.in_ok-element.field-0 c.in-Some.element c.in_ok-element.ensures c.in-Some.is)

pub evaluated-requires-clause-pads : goal.evaluated-requires-clause-pads
evaluated-requires-clause-pads c =
    let made = made_is c.args.settings.now c.in_ok-element.field-0 c.in-Some.element c.in_ok-element.ensures c.in-Some.is in
    c.requires.inputs ∙ sym made.pads

pub evaluated-requires-clause-few : goal.evaluated-requires-clause-few
evaluated-requires-clause-few c = omega (arith, c.requires.inputs, few_sinks c.args.settings.now c.requires.kind)

pub returns : goal.returns
returns c =
    c.evaluated.ensures c.args.settings.now c.requires.kind
    (first_at c.args.settings.now c.args.inputs.now c.in-Some.element (made_is c.args.settings.now c.in_ok-element.field-0 c.in-Some.element c.in_ok-element.ensures c.in-Some.is))
