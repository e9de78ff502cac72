use Rattle.std.proofs.Common.{ap, length, arith}
use Rattle.std.proofs.lemmas.Option.{slice_get_read}
use Rattle.el_join.proofs.Pouring.{going_same, passes_at}
use Rattle.el_join.proofs.pads.pass_on.Goals as goal

pub go_on-requires-clause-room : goal.go_on-requires-clause-room
go_on-requires-clause-room c =
    let at = slice_get_read c.args.pads.now.items c.args.pads.now.len c.args.turn.now c.index_mut.result.now c.args.pads.now.ok.0 c.requires.turn c.index_mut.ensures.value in
    let same = ap length (going_same c.args.turn.now c.args.sums.now c.args.pads.now.items c.index_mut.result.now c.end.new.self at) in
    omega (arith, same, c.requires.room, c.pour_front.ensures.len, c.pour_front.ensures.capacity)

pub returns-clause-passes : goal.returns-clause-passes
returns-clause-passes c = λ r is.
    let at = slice_get_read c.args.pads.now.items c.args.pads.now.len c.args.turn.now c.index_mut.result.now c.args.pads.now.ok.0 c.requires.turn c.index_mut.ensures.value in
    passes_at c.args.pads.now.items c.go_on.new.pads.items c.args.turn.now c.go_on.new.turn c.args.sums.now c.go_on.new.sums c.index_mut.result.now c.end.new.self c.args.opening.items
    c.args.into.now.items c.pour_front.new.into.items c.go_on.new.into.items at c.end.ensures.facts c.end.ensures.waiting c.pour_front.ensures.into c.go_on.ensures.goes r is
