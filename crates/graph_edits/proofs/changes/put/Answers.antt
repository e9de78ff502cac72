use Rattle.std.proofs.Common.{◌≡◌, rules}
use Rattle.graph_order.specs.Forward.{count_of}
use Rattle.graph_order.proofs.Parted.{forward_same}
use Rattle.graph_edits.proofs.changes.put.Goals as goal

pub returns-in_err-make_room-clause-forward : goal.returns-in_err-make_room-clause-forward
returns-in_err-make_room-clause-forward c =
    let same : count_of c.make_room.new.self ≡ count_of c.args.order.now = search rules in
    forward_same c.args.order.now c.make_room.new.self c.make_room.ensures.forward same c.make_room.ensures.same

pub returns-in_err-put-clause-forward : goal.returns-in_err-put-clause-forward
returns-in_err-put-clause-forward c =
    let same : count_of c.make_room.new.self ≡ count_of c.args.order.now = search rules in
    forward_same c.args.order.now c.make_room.new.self c.make_room.ensures.forward same c.make_room.ensures.same

pub returns-clause-forward : goal.returns-clause-forward
returns-clause-forward c = λ h.
    let same : count_of c.make_room.new.self ≡ count_of c.args.order.now = search rules in
    c.add_reserved.ensures.forward (forward_same c.args.order.now c.make_room.new.self c.make_room.ensures.forward same c.make_room.ensures.same h)
