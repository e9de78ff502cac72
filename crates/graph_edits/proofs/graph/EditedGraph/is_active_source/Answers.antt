use Rattle.std.proofs.Common.{◌&&◌, ◌∙◌, Bool, ap, sym}
use Rattle.el_settings.specs.Asked.{is_source}
use Rattle.graph_edits.specs.Edited.{is_active}
use Rattle.graph_edits.proofs.LiveElements.{has_settings}
use Rattle.graph_edits.proofs.graph.EditedGraph.is_active_source.Goals as goal

pub returns : goal.returns
returns c = λ g is.
    let e = c.args.element in
    let source = c.is_source-is_source.ensures ∙ sym (has_settings is_source g.made e c.settings.result.now (c.settings.ensures g is)) in
    ap (λ (active : Bool). active && c.is_source-is_source.result) (c.is_active.ensures g is) ∙ ap (λ (b : Bool). is_active g e && b) source
