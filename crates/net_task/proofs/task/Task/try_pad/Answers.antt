use Rattle.net_task.proofs.Closed.{closed_part, if_ok, if_err}
use Rattle.net_task.proofs.Trying.{part_caused, part_failed, part_framed, part_kept, part_lanes, part_lanes_same, part_ready, part_settles, part_spends, part_tabled, part_tried}
use Rattle.net_task.proofs.SoFar.{front_idle}
use Rattle.net_task.proofs.task.Task.try_pad.Goals as goal

pub cross_part-requires-clause-closed : goal.cross_part-requires-clause-closed
cross_part-requires-clause-closed g c = λ κs w part at. closed_part c.args.self.now.head c.args.self.now.parts.items c.args.place part c.args.self.now.closed at

pub returns-clause-tries : goal.returns-clause-tries
returns-clause-tries g c = if_ok c.cross_part.result _ (λ answer q. record {
  ready = part_ready g.I.Inlet g.O.Outlet c.args.self.now.head c.args.self.now.parts.items c.cross_part.new.parts.items c.args.place c.args.port _ _ c.cross_part.result c.cross_part.ensures.crosses c.cross_part.ensures.shape c.requires.ready answer q;
  spends = part_spends g.I.Inlet g.O.Outlet c.args.self.now.head c.args.self.now.parts.items c.cross_part.new.parts.items c.args.place c.args.port _ _ c.cross_part.result c.cross_part.ensures.crosses c.cross_part.ensures.shape answer q;
  table = part_tabled g.I.Inlet g.O.Outlet c.args.self.now.head c.args.self.now.parts.items c.cross_part.new.parts.items c.args.place c.args.port _ _ c.cross_part.result c.cross_part.ensures.crosses c.cross_part.ensures.shape answer q;
  kept = part_kept g.I.Inlet g.O.Outlet c.args.self.now.head c.args.self.now.parts.items c.cross_part.new.parts.items c.args.place c.args.port _ _ c.cross_part.result c.cross_part.ensures.crosses c.cross_part.ensures.shape answer q;
  lanes = part_lanes g.I.Inlet g.O.Outlet c.args.self.now.head c.args.self.now.parts.items c.cross_part.new.parts.items c.args.place c.args.port _ _ c.cross_part.result c.cross_part.ensures.crosses c.cross_part.ensures.shape;
  tries = λ m a. part_tried g.I.Inlet g.O.Outlet c.args.self.now.head c.args.self.now.parts.items c.cross_part.new.parts.items c.args.place c.args.port _ _ c.cross_part.result c.cross_part.ensures.crosses c.cross_part.ensures.shape (λ outlet was sent. (g.met.O.Outlet g.world.𝓛 g.world.𝓜 g.world.𝓡 ((λ s x. x), (λ x. x), (λ x. x), λ x. x)).counts outlet was sent) m a c.requires.settled answer q;
})

pub returns-clause-settled : goal.returns-clause-settled
returns-clause-settled g c = if_ok c.cross_part.result _ (part_settles g.I.Inlet g.O.Outlet c.args.self.now.head c.args.self.now.parts.items c.cross_part.new.parts.items c.args.place c.args.port _ _ c.cross_part.result c.cross_part.ensures.crosses c.cross_part.ensures.shape c.requires.settled)

pub returns-clause-faults : goal.returns-clause-faults
returns-clause-faults g c = if_err c.cross_part.result _ (λ fault q. record { cause = part_caused g.I.Inlet g.O.Outlet c.args.self.now.head c.args.self.now.parts.items c.cross_part.new.parts.items c.args.place c.args.port _ _ c.cross_part.result c.cross_part.ensures.crosses c.cross_part.ensures.shape fault q; table = part_lanes_same g.I.Inlet g.O.Outlet c.args.self.now.head c.args.self.now.parts.items c.cross_part.new.parts.items c.args.place c.args.port _ _ c.cross_part.result c.cross_part.ensures.crosses c.cross_part.ensures.shape fault q; fails = λ m a. part_failed g.I.Inlet g.O.Outlet c.args.self.now.head c.args.self.now.parts.items c.cross_part.new.parts.items c.args.place c.args.port _ _ c.cross_part.result c.cross_part.ensures.crosses c.cross_part.ensures.shape (λ outlet was sent. (g.met.O.Outlet g.world.𝓛 g.world.𝓜 g.world.𝓡 ((λ s x. x), (λ x. x), (λ x. x), λ x. x)).counts outlet was sent) m a fault q })

pub returns-clause-frame : goal.returns-clause-frame
returns-clause-frame g c = part_framed g.I.Inlet g.O.Outlet c.args.self.now.head c.args.self.now.parts.items c.cross_part.new.parts.items c.args.place c.args.port _ _ c.cross_part.result c.cross_part.ensures.crosses c.cross_part.ensures.shape

pub invariant_of-self-clause-idle : goal.invariant_of-self-clause-idle
invariant_of-self-clause-idle g c = front_idle c.args.self.now.from c.cross_part.new.from c.args.self.now.parts.items c.cross_part.new.parts.items c.cross_part.ensures.front c.args.self.now.idle
