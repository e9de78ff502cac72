use Rattle.std.proofs.Common.{◌∷◌, refl, ap, ◌∙◌}
use Rattle.flow_model.specs.Item.{Item}
use Rattle.task_pads.specs.Behind.{items_of}
use Rattle.task_pads.proofs.Sent.{taken_back, refused, stored}
use Rattle.task_pads.proofs.crossing.send.Goals as goal

pub returns-in-Full : goal.returns-in-Full
returns-in-Full g c = (
  c.in-Some.out.item,
  items_of c.pop_front.new.self.items,
  ap items_of c.in-Some.ensures.items,
  ap items_of c.push_front_reserved.ensures.items ∙ ap (λ (x : Item). x ∷ items_of c.pop_front.new.self.items) c.in-Full.ensures.answer.0,
  refl,
  taken_back c.args.src.now c.take_back.new.self c.requires.loose c.take_back.ensures.state c.take_back.ensures.history c.take_back.ensures.crossed,
  refused g.O.Outlet c.args.outlet.now c.put.new.self c.in-Some.out.item c.in-Full.item (g.O.Outlet.tells c.args.lanes.now) (g.O.Outlet.tells c.put.new.lanes) c.in-Full.ensures.answer.0
      c.in-Full.ensures.same c.in-Full.ensures.answer.1 c.in-Full.ensures.answer.2 c.in-Full.ensures.room c.in-Full.ensures.sent c.in-Full.ensures.table c.in-Full.ensures.received,
)

pub returns-in-Stored : goal.returns-in-Stored
returns-in-Stored g c = (
  c.in-Some.out.item,
  ap items_of c.in-Some.ensures.items,
  refl,
  stored g.O.Outlet c.args.outlet.now c.put.new.self c.in-Some.out.item (g.O.Outlet.tells c.args.lanes.now) (g.O.Outlet.tells c.put.new.lanes) c.in-Stored.ensures.same c.in-Stored.ensures.answer.0
      c.in-Stored.ensures.answer.1 c.in-Stored.ensures.room c.in-Stored.ensures.sent c.in-Stored.ensures.table c.in-Stored.ensures.received,
)
