use Rattle.std.proofs.Common.{◌++◌, sym, ap, ◌∙◌, append-nil}
use Rattle.el_basic.proofs.Spreading.{spread_item, spread_behind, on_no_pads}
use Rattle.el_basic.proofs.tee.Tee.feed.Goals as goal

pub returns-then-self-clause-out : goal.returns-then-self-clause-out
returns-then-self-clause-out c = sym (ap (λ outs. c.args.out.now ++ outs) (on_no_pads c.args.self.now.pads) ∙ append-nil c.args.out.now)

pub returns-then-self-clause-fed : goal.returns-then-self-clause-fed
returns-then-self-clause-fed c = spread_behind c.args.self.now c.args.item c.requires.no_flush c.if-self.true

pub returns-clause-fed : goal.returns-clause-fed
returns-clause-fed c =
    let did = c.in_ok-pass.ensures in
    spread_item c.args.self.now _ c.args.item c.requires.no_flush c.if-self.false c.is_eos-ends.ensures did.pads did.sticky
