use Rattle.std.proofs.Common.{refl, ap, arith}
use Rattle.task_pads.specs.Behind.{items_of}
use Rattle.task_pads.specs.Pads.{seen_in}
use Rattle.task_pads.proofs.Sent.{passed_came, passed_table, passed_ready}
use Rattle.task_pads.proofs.Waiting.{first_at}
use Rattle.task_pads.proofs.crossing.cross.Goals as goal

pub returns-in-Crosses-clause-came : goal.returns-in-Crosses-clause-came
returns-in-Crosses-clause-came g c =
    let front = first_at c.args.waiting.now.items c.in-Some.first.now (omega (arith, c.args.waiting.now.ok.0, c.in-Some.ensures.variant.0 refl)) c.in-Some.ensures.lookup in
    passed_came g.O.Outlet (seen_in c.args.src.now c.args.waiting.now.items c.args.behind.now) c.offer.new.src c.in-Some.first.now.item (items_of front.0) c.args.sibling (ap items_of front.1) c.in-Crosses.ensures (omega arith, omega (arith, c.count.ensures))
    (seen_in c.pass.new.src c.pass.new.waiting.items c.pass.new.behind) (g.O.Outlet.tells c.args.lanes.now) (g.O.Outlet.tells c.pass.new.lanes) c.pass.result c.requires.linked c.pass.ensures

pub returns-in-Crosses-clause-table : goal.returns-in-Crosses-clause-table
returns-in-Crosses-clause-table g c =
    passed_table g.O.Outlet (seen_in c.offer.new.src c.args.waiting.now.items c.args.behind.now) (seen_in c.pass.new.src c.pass.new.waiting.items c.pass.new.behind) (g.O.Outlet.tells c.args.lanes.now)
    (g.O.Outlet.tells c.pass.new.lanes) c.pass.result c.pass.ensures

pub returns-in-Crosses-clause-ready : goal.returns-in-Crosses-clause-ready
returns-in-Crosses-clause-ready g c =
    passed_ready g.O.Outlet (seen_in c.offer.new.src c.args.waiting.now.items c.args.behind.now) (seen_in c.pass.new.src c.pass.new.waiting.items c.pass.new.behind) (g.O.Outlet.tells c.args.lanes.now)
    (g.O.Outlet.tells c.pass.new.lanes) c.pass.result c.pass.ensures c.requires.table
