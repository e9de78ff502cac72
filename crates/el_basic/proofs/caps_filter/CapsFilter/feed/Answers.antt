use Rattle.el_basic.proofs.Filtering.{filtered_item, filtered_behind}
use Rattle.el_basic.proofs.caps_filter.CapsFilter.feed.Goals as goal

pub returns-then-self-clause-fed : goal.returns-then-self-clause-fed
returns-then-self-clause-fed c = filtered_behind c.args.self.now c.args.item c.requires.no_flush c.if-self.true

pub returns-clause-fed : goal.returns-clause-fed
returns-clause-fed c =
    let did = c.in_ok-pass.ensures in
    filtered_item c.args.self.now _ c.args.item c.requires.no_flush c.if-self.false did.passes did.filter did.current (did.eos c.if-self.false)
