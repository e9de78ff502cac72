use Rattle.std.proofs.Common.{true, false, refl, sym, ◌∙◌}
use Rattle.el_select.proofs.Knowing.{pad_at}
use Rattle.el_select.proofs.Standing.{puts_behind, puts_elsewhere}
use Rattle.el_select.proofs.Telling.{flow_told, over_at}
use Rattle.el_select.proofs.selector.Selector.feed.Goals as goal

pub returns-then-index-clause-puts : goal.returns-then-index-clause-puts
returns-then-index-clause-puts c =
    let at = pad_at c.args.self.now.pads c.args.pad c.index.result.now c.requires.pad c.index.ensures in
    puts_behind c.args.self.now c.args.pad c.args.item c.index.result.now c.args.out.now c.requires.no_flush at c.requires.pad c.if-index.true

pub returns-then-index-clause-flow : goal.returns-then-index-clause-flow
returns-then-index-clause-flow c =
    let at = pad_at c.args.self.now.pads c.args.pad c.index.result.now c.requires.pad c.index.ensures in
    flow_told c.args.self.now c.args.pad c.index.result.now true at c.if-index.true

pub returns-then-place-self-clause-puts : goal.returns-then-place-self-clause-puts
returns-then-place-self-clause-puts c =
    let at = pad_at c.args.self.now.pads c.args.pad c.index_mut.result.now c.requires.pad c.index_mut.ensures.value in
    puts_elsewhere c.args.self.now _ c.args.pad c.args.item c.index_mut.result.now c.take.new.self c.args.out.now c.requires.no_flush at (λ e. c.if-place-self.true (sym e)) refl refl
    c.take.ensures

pub returns-then-place-self-clause-flow : goal.returns-then-place-self-clause-flow
returns-then-place-self-clause-flow c =
    let at = pad_at c.args.self.now.pads c.args.pad c.index.result.now c.requires.pad c.index.ensures in
    flow_told c.args.self.now c.args.pad c.index.result.now false at c.if-index.false

pub pass-requires-clause-open : goal.pass-requires-clause-open
pass-requires-clause-open c =
    let at = pad_at c.args.self.now.pads c.args.pad c.index.result.now c.requires.pad c.index.ensures in
    over_at c.args.self.now c.index.result.now c.args.pad at c.if-place-self.false ∙ c.if-index.false

pub returns-clause-flow : goal.returns-clause-flow
returns-clause-flow c =
    let at = pad_at c.args.self.now.pads c.args.pad c.index.result.now c.requires.pad c.index.ensures in
    flow_told c.args.self.now c.args.pad c.index.result.now false at c.if-index.false
