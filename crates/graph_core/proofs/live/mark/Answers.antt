use Rattle.std.proofs.Common.{◌≡◌, ◌∙◌, Bool, List, true, false, ap, arith, sym}
use Rattle.graph_order.proofs.Reached.{set_fewer}
use Rattle.graph_order.specs.Marks.{is_marked}
use Rattle.graph_core.proofs.Marking.{mark_spreads}
use Rattle.graph_core.proofs.live.mark.Goals as goal

pub returns-clause-spreads : goal.returns-clause-spreads
returns-clause-spreads c = λ links was link so.
    let from = c.args.link.source.element in
    let on : is_marked c.args.marks.now.items from ≡ true = ap (λ (ms : List Bool). is_marked ms from) (sym c.deref.ensures.value) ∙ sym c.is_marked.ensures ∙ c.if-not-is_marked.false in
    mark_spreads links was c.args.marks.now.items from c.args.link.sink.element (omega (arith, c.if-sink-len.false, c.len.ensures, c.args.marks.now.ok.0)) link on so

pub returns-clause-fewer : goal.returns-clause-fewer
returns-clause-fewer c = λ yes.
    let to = c.args.link.sink.element in
    let off : is_marked c.args.marks.now.items to ≡ false = ap (λ (ms : List Bool). is_marked ms to) (sym c.deref-2.ensures.value) ∙ sym c.is_marked-2.ensures ∙ c.if-is_marked.false in
    set_fewer c.args.marks.now.items to (omega (arith, c.if-sink-len.false, c.len.ensures, c.args.marks.now.ok.0)) off
