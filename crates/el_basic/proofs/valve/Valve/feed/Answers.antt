use Rattle.el_basic.proofs.Valving.{valve_behind, valve_takes}
use Rattle.el_basic.proofs.valve.Valve.feed.Goals as goal

pub returns-then-self-clause-puts : goal.returns-then-self-clause-puts
returns-then-self-clause-puts c = valve_behind c.args.self.now c.args.item c.args.out.now c.requires.no_flush c.if-self.true

pub returns-clause-puts : goal.returns-clause-puts
returns-clause-puts c =
    let did = c.in_ok-take.ensures in
    valve_takes c.args.self.now _ c.args.item c.args.out.now _ c.requires.no_flush c.if-self.false did.out did.sticky did.drops did.lately (did.ended c.if-self.false)
