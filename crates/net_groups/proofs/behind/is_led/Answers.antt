use Rattle.net_groups.proofs.Flags.{not_led}
use Rattle.net_groups.specs.Behind.{led}
use Rattle.net_groups.proofs.behind.is_led.Goals as goal

pub returns-clause-led : goal.returns-clause-led
returns-clause-led g c = λ is. led (c.flagged_lead.ensures.led is)

pub returns-clause-none : goal.returns-clause-none
returns-clause-none g c = λ none is. not_led c.args.parts.now c.args.flags.now c.args.element c.args.number c.if-number-element.false (c.flagged_lead.ensures.none none) is
