use Rattle.std.proofs.Common.{refl, sym, ◌∙◌}
use Rattle.el_select.proofs.Knowing.{pad_at}
use Rattle.el_select.proofs.Selecting.{selects_pad}
use Rattle.el_select.proofs.selector.Selector.select.Goals as goal

pub returns-clause-selects : goal.returns-clause-selects
returns-clause-selects c =
    let at = pad_at c.args.self.now.pads c.args.pad c.index.result.now c.requires.pad c.index.ensures in
    let begun = sym c.is_over.ensures ∙ c.if-is_over.false in
    (begun, selects_pad c.args.self.now _ c.args.pad c.index.result.now c.args.out.now c.put_events.new.out at c.requires.pad begun refl refl c.in_ok-put_events.ensures.ok)
