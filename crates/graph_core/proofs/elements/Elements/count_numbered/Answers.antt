use Rattle.std.proofs.Common.{◌≡◌, ◌&&◌, bytes_eq, map, count_by, sym, ◌∙◌, string_bytes, rules}
use Rattle.graph_core.proofs.ByName.{numbered_made}
use Rattle.graph_core.specs.declared.element.Element.{Element}
use Rattle.graph_core.proofs.elements.Elements.count_numbered.Goals as goal

pub returns : goal.returns
returns c =
    let counted : c.count.result ≡ count_by (λ (x : Element). x.is_numbered && bytes_eq x.kind c.args.kind.now) (map (λ e. e.1) c.args.self.now.by_name.entries) = search rules in
    counted ∙ sym (numbered_made string_bytes c.args.kind.now c.args.self.now.by_name.entries)
