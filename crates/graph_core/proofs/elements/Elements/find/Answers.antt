-- A name is found among the elements where it is found among the names.
use Rattle.std.proofs.Common.{sym, ◌∙◌, string_bytes}
use Rattle.graph_core.proofs.ByName.{position_made}
use Rattle.graph_core.proofs.elements.Elements.find.Goals as goal

pub returns-in-Some : goal.returns-in-Some
returns-in-Some c = sym c.in-Some.is ∙ c.get_index_of.ensures.index ∙ sym (position_made string_bytes c.args.name.now c.args.self.now.by_name.entries)

pub returns-in-None : goal.returns-in-None
returns-in-None c = sym c.in-None.is ∙ c.get_index_of.ensures.index ∙ sym (position_made string_bytes c.args.name.now c.args.self.now.by_name.entries)
