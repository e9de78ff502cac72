use Rattle.std.proofs.Common.{◌≡◌, ◌++◌, Some, length, take, ap, refl, arith}
use Rattle.std.specs.Prelude.{slice_get}
use Rattle.std.proofs.lemmas.Option.{slice_get_read}
use Rattle.graph_core.specs.Graph.{made as made_in, links as links_in}
use Rattle.graph_parts.proofs.LaneSlots.{size_more}
use Rattle.graph_tasks.specs.Wiring.{cell_lanes}
use Rattle.graph_tasks.proofs.Gathering.{cell_given, parts_begin, parts_made, parts_more}
use Rattle.graph_tasks.proofs.wiring.parts_of.Goals as goal

pub loop-own-init : goal.loop-own-init
loop-own-init g c = record {
  size = ap length c.in_ok-parts.ensures.items;
  few = omega (arith, c.in_ok-parts.ensures.len);
  room = omega (arith, c.in_ok-parts.ensures.capacity);
  so = λ gone left given. parts_begin g.O.Outlet (made_in c.args.graph.now) (links_in c.args.graph.now) c.args.order.now gone c.in_ok-parts.parts.items c.args.outlets.now.items c.in_ok-parts.ensures.items left;
}

pub push_back_reserved-requires : goal.push_back_reserved-requires
push_back_reserved-requires g c = omega arith

pub loop-own-preserved : goal.loop-own-preserved
loop-own-preserved g c = record {
  size = size_more _ _ _ c.loop-own.own-index c.push_back_reserved.ensures.items c.loop-own.invariant.size;
  few = omega (arith, c.push_back_reserved.ensures.len);
  room = omega (arith, c.push_back_reserved.ensures.capacity);
  so = λ gone left given.
      let before = c.loop-own.invariant.so gone left given in
      let at : slice_get c.args.order.now c.loop-own.own-index ≡ Some c.own-item.result =
      slice_get_read c.args.order.now (length c.args.order.now) c.loop-own.own-index c.own-item.result refl (omega arith) c.own-item.is in
      parts_more g.O.Outlet (made_in c.args.graph.now) (links_in c.args.graph.now) c.args.order.now gone c.loop-own.own-index c.own-item.result c.loop-own.parts.items c.push_back_reserved.new.self.items
      (record { number = c.own-item.result.element; pads = c.in_ok-pads.pads }) c.pads_of.new.outlets.items at c.loop-own.invariant.size before.each refl
      (c.in_ok-pads.ensures (gone ++ cell_lanes (take c.loop-own.own-index c.args.order.now)) before.left
      (cell_given (made_in c.args.graph.now) (links_in c.args.graph.now) c.args.order.now gone c.loop-own.own-index c.own-item.result at given))
      c.push_back_reserved.ensures.items;
}

pub returns : goal.returns
returns g c = λ gone left given.
    parts_made g.O.Outlet (made_in c.args.graph.now) (links_in c.args.graph.now) c.args.order.now gone c.loop-own.own-index c.loop-own.parts.items c.loop-own.outlets.items c.loop-own.invariant.size (omega arith)
    (c.loop-own.invariant.so gone left given)
