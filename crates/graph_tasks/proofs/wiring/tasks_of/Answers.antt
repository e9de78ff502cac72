use Rattle.std.proofs.Common.{◌≡◌, ◌∙◌, Some, length, take, ap, refl, arith}
use Rattle.std.specs.Prelude.{slice_get}
use Rattle.std.specs.List.{flat_map}
use Rattle.std.proofs.lemmas.Option.{slice_get_read}
use Rattle.graph_core.specs.Graph.{made as made_in, links as links_in}
use Rattle.graph_parts.specs.Bags.{cells}
use Rattle.graph_parts.specs.declared.bag.Bag.{Bag}
use Rattle.graph_parts.proofs.LaneSlots.{size_more}
use Rattle.graph_tasks.specs.Wiring.{cell_lanes, inlets_of}
use Rattle.graph_tasks.proofs.Gathering.{bag_given, bags_begin, bags_more}
use Rattle.graph_tasks.proofs.wiring.tasks_of.Goals as goal

pub loop-bag-init : goal.loop-bag-init
loop-bag-init g c = record {
  size = ap length c.in_ok-tasks.ensures.items;
  few = omega (arith, c.in_ok-tasks.ensures.len);
  room = omega (arith, c.in_ok-tasks.ensures.capacity);
  so = λ outs ins given.
      bags_begin g.I.Inlet g.O.Outlet (made_in c.args.graph.now) (links_in c.args.graph.now) c.args.bags.now c.in_ok-tasks.tasks.items c.args.outlets.now.items c.args.inlets.now.items c.in_ok-tasks.ensures.items outs ins;
}

pub push_back_reserved-requires : goal.push_back_reserved-requires
push_back_reserved-requires g c = omega arith

pub loop-bag-preserved : goal.loop-bag-preserved
loop-bag-preserved g c = record {
  size = size_more _ _ _ c.loop-bag.bag-index c.push_back_reserved.ensures.items c.loop-bag.invariant.size;
  few = omega (arith, c.push_back_reserved.ensures.len);
  room = omega (arith, c.push_back_reserved.ensures.capacity);
  so = λ outs ins given.
      let before = c.loop-bag.invariant.so outs ins given in
      let at : slice_get c.args.bags.now c.loop-bag.bag-index ≡ Some c.bag-item.result =
      slice_get_read c.args.bags.now (length c.args.bags.now) c.loop-bag.bag-index c.bag-item.result refl (omega arith) c.bag-item.is in
      bags_more g.I.Inlet g.O.Outlet (made_in c.args.graph.now) (links_in c.args.graph.now) c.args.bags.now c.loop-bag.bag-index c.bag-item.result c.loop-bag.tasks.items c.push_back_reserved.new.self.items
      c.in_ok-task.task c.task_of.new.outlets.items c.task_of.new.inlets.items at c.loop-bag.invariant.size before.each
      (c.in_ok-task.ensures (flat_map (λ (bag : Bag). cell_lanes (cells bag)) (take c.loop-bag.bag-index c.args.bags.now)) (flat_map (λ (bag : Bag). inlets_of (made_in c.args.graph.now) bag.head) (take c.loop-bag.bag-index c.args.bags.now)) before.outlets before.inlets
      (bag_given (made_in c.args.graph.now) (links_in c.args.graph.now) c.args.bags.now given c.loop-bag.bag-index c.bag-item.result at))
      c.push_back_reserved.ensures.items;
}

pub returns : goal.returns
returns g c = λ outs ins given. record {
  count = c.loop-bag.invariant.size ∙ omega arith;
  each = λ k bag task at to. (c.loop-bag.invariant.so outs ins given).each k task to bag at;
}
