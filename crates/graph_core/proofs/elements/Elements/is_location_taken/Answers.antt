use Rattle.std.proofs.Common.{ap, sym, ◌∙◌, string_bytes}
use Rattle.std.specs.List.{list_any}
use Rattle.graph_core.proofs.ByName.{taken_made}
use Rattle.graph_core.specs.Elements.{clash}
use Rattle.graph_core.specs.declared.element.Element.{Element}
use Rattle.graph_core.proofs.elements.Elements.is_location_taken.Goals as goal

pub returns : goal.returns
returns c = c.some_clash.ensures ∙ ap (list_any (λ (x : Element). clash x.settings c.args.settings.now)) (c.as_slice.ensures ∙ c.values.ensures.rest) ∙ sym (taken_made string_bytes c.args.settings.now c.args.self.now.by_name.entries)
