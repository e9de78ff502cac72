use Rattle.std.proofs.Common.{arith}
use Rattle.net_edits.proofs.Exchanged.{exchanged_has, exchanged_size, grown_by}
use Rattle.net_edits.proofs.over.end_at.Goals as goal

pub exchange_at-requires-clause-place : goal.exchange_at-requires-clause-place
exchange_at-requires-clause-place g c κs within =
    let size = exchanged_size c.args.tasks.now.items c.take_row-row.new.tasks.items c.args.place c.args.port c.take_row-row.ensures.taken.0 c.take_row-row.result c.take_row-row.ensures.taken.1 in
    omega (arith, size, c.requires.place, c.args.tasks.now.ok.0, c.take_row-row.new.tasks.ok.0)

pub exchange_at-requires-clause-row : goal.exchange_at-requires-clause-row
exchange_at-requires-clause-row g c κs within =
    exchanged_has c.args.tasks.now.items c.take_row-row.new.tasks.items c.args.place c.args.port c.take_row-row.ensures.taken.0 c.take_row-row.result c.take_row-row.ensures.taken.1

pub returns-clause-grown : goal.returns-clause-grown
returns-clause-grown g c =
    grown_by c.args.tasks.now.items c.take_row-row.new.tasks.items c.exchange_at.new.tasks.items c.args.place c.args.port c.take_row-row.ensures.taken.0 c.take_row-row.result c.end_row-ended.new.row c.exchange_at.result
    c.take_row-row.ensures.taken.1 c.exchange_at.ensures.exchanged _ c.end_row-ended.ensures
