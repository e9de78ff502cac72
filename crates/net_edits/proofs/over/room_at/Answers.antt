use Rattle.std.proofs.Common.{◌∙◌, arith, [], append-nil, sym}
use Rattle.std.proofs.lemmas.Result.{on_ok_weaker}
use Rattle.inlet_row.specs.Row.{feeds_of}
use Rattle.net_edits.proofs.Exchanged.{exchanged_has, exchanged_size, grown_by, row_put}
use Rattle.net_edits.proofs.over.room_at.Goals as goal

pub exchange_at-requires-clause-place : goal.exchange_at-requires-clause-place
exchange_at-requires-clause-place g c κs within =
    let size = exchanged_size c.args.tasks.now.items c.take_row-row.new.tasks.items c.args.place c.args.port c.take_row-row.ensures.taken.0 c.take_row-row.result c.take_row-row.ensures.taken.1 in
    omega (arith, size, c.requires.place, c.args.tasks.now.ok.0, c.take_row-row.new.tasks.ok.0)

pub exchange_at-requires-clause-row : goal.exchange_at-requires-clause-row
exchange_at-requires-clause-row g c κs within =
    exchanged_has c.args.tasks.now.items c.take_row-row.new.tasks.items c.args.place c.args.port c.take_row-row.ensures.taken.0 c.take_row-row.result c.take_row-row.ensures.taken.1

pub returns-clause-kept : goal.returns-clause-kept
returns-clause-kept g c =
    grown_by c.args.tasks.now.items c.take_row-row.new.tasks.items c.exchange_at.new.tasks.items c.args.place c.args.port c.take_row-row.ensures.taken.0 c.take_row-row.result c.make_room-made.new.self c.exchange_at.result
    c.take_row-row.ensures.taken.1 c.exchange_at.ensures.exchanged [] (c.make_room-made.ensures.feeds ∙ sym (append-nil (feeds_of c.take_row-row.result)))

pub returns-clause-enough : goal.returns-clause-enough
returns-clause-enough g c =
    on_ok_weaker c.make_room-made.result
    (λ enough element feeds. record {
      row = c.make_room-made.new.self;
      has = row_put c.take_row-row.new.tasks.items c.exchange_at.new.tasks.items c.args.place c.args.port c.make_room-made.new.self c.exchange_at.result c.exchange_at.ensures.exchanged element c.take_row-row.ensures.taken.0
          (row_put c.args.tasks.now.items c.take_row-row.new.tasks.items c.args.place c.args.port c.take_row-row.ensures.taken.0 c.take_row-row.result c.take_row-row.ensures.taken.1 element feeds.0 feeds.1);
      room = enough;
    }) c.make_room-made.ensures.room
