use Rattle.std.proofs.Common.{◌≤◌, ◌+◌, arith, length, subst}
use Rattle.std.proofs.lemmas.Option.{slice_get_within}
use Rattle.inlet_row.specs.Row.{room_of}
use Rattle.inlet_row.specs.declared.row.InletRow.{InletRow}
use Rattle.net_edits.proofs.Exchanged.{exchanged_has, exchanged_size, grown_by, row_taken}
use Rattle.net_edits.proofs.Rowed.{feeds_has}
use Rattle.net_edits.proofs.over.open_at.Goals as goal

pub take_row-row-requires-clause-place : goal.take_row-row-requires-clause-place
take_row-row-requires-clause-place g c κs within =
    let has = c.requires.room.1.has in
    let low = slice_get_within c.args.tasks.now.items c.args.place has.fed.task has.fed.at in
    omega (arith, low, c.args.tasks.now.ok.0)

pub take_row-row-requires-clause-row : goal.take_row-row-requires-clause-row
take_row-row-requires-clause-row g c κs within = feeds_has c.args.tasks.now.items c.args.place c.requires.room.0 c.args.port (c.requires.room.1.row, c.requires.room.1.has)

pub open_row-requires-clause-room : goal.open_row-requires-clause-room
open_row-requires-clause-room g c κs within =
    subst (λ (row : InletRow _). length c.args.events + 1 ≤ room_of row)
    (row_taken c.args.tasks.now.items c.take_row-row.new.tasks.items c.args.place c.args.port c.take_row-row.ensures.taken.0 c.take_row-row.result c.take_row-row.ensures.taken.1 c.requires.room.0 c.requires.room.1.row c.requires.room.1.has)
    c.requires.room.1.room

pub exchange_at-requires-clause-place : goal.exchange_at-requires-clause-place
exchange_at-requires-clause-place g c κs within =
    let has = c.requires.room.1.has in
    let low = slice_get_within c.args.tasks.now.items c.args.place has.fed.task has.fed.at in
    let size = exchanged_size c.args.tasks.now.items c.take_row-row.new.tasks.items c.args.place c.args.port c.take_row-row.ensures.taken.0 c.take_row-row.result c.take_row-row.ensures.taken.1 in
    omega (arith, size, low, c.take_row-row.new.tasks.ok.0)

pub exchange_at-requires-clause-row : goal.exchange_at-requires-clause-row
exchange_at-requires-clause-row g c κs within =
    exchanged_has c.args.tasks.now.items c.take_row-row.new.tasks.items c.args.place c.args.port c.take_row-row.ensures.taken.0 c.take_row-row.result c.take_row-row.ensures.taken.1

pub returns-clause-grown : goal.returns-clause-grown
returns-clause-grown g c =
    grown_by c.args.tasks.now.items c.take_row-row.new.tasks.items c.exchange_at.new.tasks.items c.args.place c.args.port c.take_row-row.ensures.taken.0 c.take_row-row.result c.open_row.new.row c.exchange_at.result
    c.take_row-row.ensures.taken.1 c.exchange_at.ensures.exchanged _ c.open_row.ensures
