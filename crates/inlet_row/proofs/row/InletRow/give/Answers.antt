use Rattle.inlet_row.proofs.Appending.{gives}
use Rattle.inlet_row.proofs.row.InletRow.give.Goals as goal

pub returns-clause-gives : goal.returns-clause-gives
returns-clause-gives g c = gives g.I.Inlet c.args.self.now _ c.args.item c.push_back_reserved.ensures.items
