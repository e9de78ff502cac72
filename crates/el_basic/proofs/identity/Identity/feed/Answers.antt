use Rattle.el_basic.proofs.Passing.{passed_item, passed_behind}
use Rattle.el_basic.proofs.identity.Identity.feed.Goals as goal

pub returns-then-self-clause-fed : goal.returns-then-self-clause-fed
returns-then-self-clause-fed c = passed_behind c.args.self.now c.args.item c.requires.no_flush c.if-self.true

pub returns-clause-fed : goal.returns-clause-fed
returns-clause-fed c = passed_item c.args.self.now _ c.args.item c.requires.no_flush c.if-self.false c.is_eos-ends.ensures
