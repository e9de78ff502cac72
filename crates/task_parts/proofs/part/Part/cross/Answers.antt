use Rattle.std.proofs.Common.{refl, arith, subst, ap, ◌∙◌, Bool}
use Rattle.task_pads.specs.Crossing.{IsCrossing}
use Rattle.task_parts.specs.Gathered.{linked_else}
use Rattle.task_pads.proofs.Lists.{some_at}
use Rattle.task_parts.proofs.Idling.{below_set, crossed_idle}
use Rattle.task_parts.proofs.part.Part.cross.Goals as goal

pub cross-requires-clause-table : goal.cross-requires-clause-table
cross-requires-clause-table g c κs within =
    c.requires.ready c.args.port c.index_mut.result.now (some_at c.args.self.now.pads.items c.args.port c.index_mut.result.now (omega (arith, c.requires.port, c.args.self.now.pads.ok.0)) c.index_mut.ensures.value)

pub returns : goal.returns
returns g c = record {
  was = c.index_mut.result.now;
  is = c.cross.new.self;
  pad = record {
    number = refl;
    element = refl;
    out = refl;
    at = some_at c.args.self.now.pads.items c.args.port c.index_mut.result.now (omega (arith, c.requires.port, c.args.self.now.pads.ok.0)) c.index_mut.ensures.value;
    set = refl;
    shape = c.cross.ensures.shape;
  };
  crossed = subst (λ (b : Bool). IsCrossing g.O.Outlet c.index_mut.result.now c.cross.new.self (g.O.Outlet.tells c.args.lanes.now) (g.O.Outlet.tells c.cross.new.lanes) b c.cross.result)
      (c.is_linked_else-sibling.ensures ∙ ap (linked_else c.args.port) c.as_slice.ensures.value) c.cross.ensures.crossing;
  probe = c.cross.ensures.probe;
  table = c.cross.ensures.table;
  ready = c.cross.ensures.ready;
}

pub invariant_of-self-clause-idle : goal.invariant_of-self-clause-idle
invariant_of-self-clause-idle g c =
    below_set c.args.self.now.first c.args.port c.args.self.now.pads.items c.index_mut.result.now c.cross.new.self
    (some_at c.args.self.now.pads.items c.args.port c.index_mut.result.now (omega (arith, c.requires.port, c.args.self.now.pads.ok.0)) c.index_mut.ensures.value) (crossed_idle g.O.Outlet c.index_mut.result.now c.cross.new.self (g.O.Outlet.tells c.args.lanes.now) (g.O.Outlet.tells c.cross.new.lanes) _ c.cross.result c.cross.ensures.crossing) c.args.self.now.idle
