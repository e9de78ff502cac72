use Rattle.std.proofs.Common.{◌≡◌, ◌++◌, Some, length, take, ap, refl, arith}
use Rattle.std.specs.Prelude.{slice_get}
use Rattle.std.proofs.lemmas.Option.{slice_get_read}
use Rattle.graph_core.specs.Graph.{made as made_in, links as links_in}
use Rattle.graph_parts.proofs.LaneSlots.{size_more}
use Rattle.graph_tasks.specs.Wiring.{pad_lanes}
use Rattle.graph_tasks.proofs.Gathering.{pad_given, pads_begin, pads_made, pads_more}
use Rattle.graph_tasks.proofs.source_pads.pads_of.Goals as goal

pub loop-port-init : goal.loop-port-init
loop-port-init g c = record {
  size = ap length c.new-pads.ensures.items;
  so = λ gone left given. pads_begin g.O.Outlet (made_in c.args.graph.now) (links_in c.args.graph.now) c.args.own.now gone c.new-pads.result.items c.args.outlets.now.items c.new-pads.ensures.items left;
}

pub loop-port-preserved : goal.loop-port-preserved
loop-port-preserved g c = record {
  size = size_more _ _ _ c.loop-port.port c.in_ok-push.ensures.items c.loop-port.invariant.size;
  so = λ gone left given.
      let before = c.loop-port.invariant.so gone left given in
      let at : slice_get c.args.own.now.pads.items c.loop-port.port ≡ Some c.index.result.now =
      slice_get_read c.args.own.now.pads.items (length c.args.own.now.pads.items) c.loop-port.port c.index.result.now refl
      (omega (arith, c.loop-port-test.true, c.len-port-end.ensures, c.args.own.now.pads.ok.0)) c.index.ensures in
      pads_more g.O.Outlet (made_in c.args.graph.now) (links_in c.args.graph.now) c.args.own.now gone c.loop-port.port c.index.result.now c.loop-port.pads.items c.push.new.self.items c.pad_of.result
      c.pad_of.new.outlets.items at c.loop-port.invariant.size before.each
      (c.pad_of.ensures (gone ++ pad_lanes (take c.loop-port.port c.args.own.now.pads.items)) before.left
      (pad_given (made_in c.args.graph.now) (links_in c.args.graph.now) c.args.own.now gone c.loop-port.port c.index.result.now at given))
      c.in_ok-push.ensures.items;
}

pub returns : goal.returns
returns g c = λ gone left given.
    pads_made g.O.Outlet (made_in c.args.graph.now) (links_in c.args.graph.now) c.args.own.now gone c.loop-port.port c.loop-port.pads.items c.loop-port.outlets.items given c.loop-port.invariant.size
    (omega (arith, c.loop-port-test.false, c.loop-port.auto.port-end, c.len-port-end.ensures, c.args.own.now.pads.ok.0)) (c.loop-port.invariant.so gone left given)
