use Rattle.std.proofs.Common.{◌∙◌, List, ap, arith, length, subst, sym}
use Rattle.graph_core.specs.Live.{IsSpread}
use Rattle.graph_pads.specs.declared.pad.PadLink.{PadLink}
use Rattle.graph_edits.proofs.LiveElements.{live_marked}
use Rattle.graph_edits.proofs.graph.EditedGraph.live_elements.Goals as goal

pub returns : goal.returns
returns c = λ g is.
    let sources = c.in_ok-live.ensures in
    let marks = c.in_ok-live.live.items in
    live_marked g marks c.spread_marks.new.marks.items (sym c.in_ok-live.live.ok.0 ∙ sources.size ∙ ap length is.elements)
    (λ e within. sources.marked g is e (omega (arith, within, ap length is.elements)))
    (subst (λ (links : List PadLink). IsSpread links marks c.spread_marks.new.marks.items) (c.deref.ensures.value ∙ is.links) c.spread_marks.ensures)
