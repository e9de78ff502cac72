use Rattle.std.proofs.Common.{List, ℕ, None, ap, position, sym, ◌∙◌}
use Rattle.std.specs.List.{range_with_len}
use Rattle.graph_edits.specs.Names.{element_named}
use Rattle.graph_pads.specs.Pads.{pad_count}
use Rattle.graph_edits.proofs.Standing.{found_there, has_name, named_is}
use Rattle.graph_edits.specs.Graph.{made}
use Rattle.graph_edits.proofs.graph.EditedGraph.pad.Goals as goal

pub returns-in_default-2-clause-found : goal.returns-in_default-2-clause-found
returns-in_default-2-clause-found c = λ g is.
    let direction = c.args.direction in
    let s = c.settings-settings.result.now in
    named_is c.args.self.now g direction c.args.name.now c.in-Some.element s None is (c.in-Some.ensures.found g is ∙ ap (element_named g) c.as_str.ensures) c.settings-settings.ensures
    (sym c.in_default-2.is ∙ c.in_ok-pad.ensures ∙ ap (λ (text : List ℕ). position (has_name direction s text) (range_with_len 0 (pad_count direction s))) c.as_str-2.ensures)

pub returns-clause-there : goal.returns-clause-there
returns-clause-there c =
    found_there (made c.args.self.now) c.args.direction c.as_str-2.result.now c.in-Some.element c.settings-settings.result.now c.settings-settings.ensures c.in-Some-2.pad
    (sym c.in-Some-2.is ∙ c.in_ok-pad.ensures)
