use Rattle.std.proofs.Common.{◌≡◌, ◌<◌, ◌∙◌, length, ap, arith}
use Rattle.graph_core.specs.Graph.{made as made_in, links as links_in}
use Rattle.graph_parts.proofs.LaneSlots.{size_more}
use Rattle.graph_tasks.specs.Tasks.{sink_count}
use Rattle.graph_tasks.specs.Wiring.{feeds_with}
use Rattle.graph_tasks.proofs.Numbers.{few_pads, with_pad}
use Rattle.graph_tasks.proofs.Rowing.{rows_begin, rows_made, rows_more}
use Rattle.graph_tasks.proofs.rows.rows_of.Goals as goal

pub loop-pad-init : goal.loop-pad-init
loop-pad-init g c = record {
  size = ap length c.new-rows.ensures.items;
  so = λ heads left apart. rows_begin g.I.Inlet (made_in c.args.graph.now) (links_in c.args.graph.now) c.args.number heads c.new-rows.result.items c.args.inlets.now.items c.new-rows.ensures.items left;
}

pub loop-pad-preserved : goal.loop-pad-preserved
loop-pad-preserved g c = record {
  size = size_more _ _ _ c.loop-pad.pad c.in_ok-push.ensures.items c.loop-pad.invariant.size;
  so = λ heads left apart.
      let within : c.loop-pad.pad < sink_count (made_in c.args.graph.now) c.args.number = omega (arith, c.loop-pad-test.true, c.loop-pad.auto.pad-end, c.sink_pads-pad-end.ensures) in
      rows_more g.I.Inlet (made_in c.args.graph.now) (links_in c.args.graph.now) c.args.number heads c.loop-pad.pad within apart c.pad_number-lane.result c.loop-pad.rows.items c.push.new.self.items c.in_ok-row_of.field-0
      c.loop-pad.inlets.items c.taken.new.slots.items c.loop-pad.invariant.size
      (c.pad_number-lane.ensures (with_pad (made_in c.args.graph.now) c.args.number c.loop-pad.pad within) (few_pads (made_in c.args.graph.now) c.args.number c.loop-pad.pad within))
      (c.loop-pad.invariant.so heads left apart) (c.in_ok-row_of.ensures ∙ ap (feeds_with c.pad_number-lane.result) c.taken.ensures.taken) c.taken.ensures.left c.in_ok-push.ensures.items;
}

pub returns : goal.returns
returns g c = λ heads left apart.
    let whole : c.loop-pad.pad ≡ sink_count (made_in c.args.graph.now) c.args.number = omega (arith, c.loop-pad-test.false, c.loop-pad.auto.pad-end, c.sink_pads-pad-end.ensures) in
    rows_made g.I.Inlet (made_in c.args.graph.now) (links_in c.args.graph.now) c.args.number heads c.loop-pad.pad c.loop-pad.rows.items c.loop-pad.inlets.items c.loop-pad.invariant.size whole
    (c.loop-pad.invariant.so heads left apart)
