-- A new name stands behind the others.
use Rattle.std.proofs.Common.{map, ap, ◌∙◌, string_bytes}
use Rattle.graph_core.proofs.ByName.{made_by, push_made}
use Rattle.graph_core.proofs.elements.Elements.put.Goals as goal

pub returns-clause-made : goal.returns-clause-made
returns-clause-made c = ap (map (made_by string_bytes)) c.in_ok-insert.ensures.entries ∙ push_made c.args.new.name c.args.new.element c.args.self.now.by_name.entries c.requires.free
