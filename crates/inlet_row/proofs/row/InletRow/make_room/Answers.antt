use Rattle.inlet_row.proofs.Appending.{stays}
use Rattle.inlet_row.proofs.row.InletRow.make_room.Goals as goal

pub returns-clause-stays : goal.returns-clause-stays
returns-clause-stays g c = stays g.I.Inlet c.args.self.now _ c.reserve.ensures.items
