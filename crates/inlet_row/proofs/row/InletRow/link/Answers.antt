use Rattle.inlet_row.proofs.Appending.{links}
use Rattle.inlet_row.proofs.row.InletRow.link.Goals as goal

pub returns-clause-links : goal.returns-clause-links
returns-clause-links g c = links g.I.Inlet c.args.self.now _ c.args.number c.args.inlet c.push_back_reserved.ensures.items
