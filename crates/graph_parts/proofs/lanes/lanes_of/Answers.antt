use Rattle.std.proofs.Common.{◌≡◌, ◌++◌, [], List, length, map, option_to_list, ap, ◌∙◌, arith}
use Rattle.graph_core.specs.Graph.{made as made_in, links as links_in}
use Rattle.lane_core.specs.Lane.{Lane, lane_of}
use Rattle.graph_parts.specs.Lanes.{lane_room, sink_numbers}
use Rattle.graph_parts.proofs.Memory.{MemInletAt, MemOutletAt}
use Rattle.graph_parts.proofs.Rooms.{table_before, table_more, table_size}
use Rattle.graph_parts.proofs.LaneSlots.{no_slots, one_slot, size_more}
use Rattle.graph_parts.proofs.lanes.lanes_of.Goals as goal

pub loop-number-init : goal.loop-number-init
loop-number-init c = record {
  table = c.new-table.ensures;
  inlet_count = ap length c.new-inlets.ensures.items;
  outlet_count = ap length c.new-outlets.ensures.items;
  inlet = no_slots (MemInletAt (made_in c.args.graph.now) (links_in c.args.graph.now)) _ c.new-inlets.ensures.items;
  outlet = no_slots (MemOutletAt (made_in c.args.graph.now) (links_in c.args.graph.now)) _ c.new-outlets.ensures.items;
}

pub ends_of-requires-clause-before : goal.ends_of-requires-clause-before
ends_of-requires-clause-before c = ap length c.loop-number.invariant.table ∙ table_size (made_in c.args.graph.now) (links_in c.args.graph.now) c.loop-number.number

pub loop-number-preserved : goal.loop-number-preserved
loop-number-preserved c = record {
  table =
      c.in_ok-outlet.ensures.table
      ∙ ap (λ (t : List Lane). t ++ map (lane_of []) (option_to_list (lane_room (made_in c.args.graph.now) (links_in c.args.graph.now) c.loop-number.number))) c.loop-number.invariant.table
      ∙ table_more (made_in c.args.graph.now) (links_in c.args.graph.now) c.loop-number.number;
  inlet_count = size_more _ _ _ c.loop-number.number c.in_ok-push-2.ensures.items c.loop-number.invariant.inlet_count;
  outlet_count = size_more _ _ _ c.loop-number.number c.in_ok-push.ensures.items c.loop-number.invariant.outlet_count;
  inlet = one_slot (MemInletAt (made_in c.args.graph.now) (links_in c.args.graph.now)) _ _ _ c.loop-number.number c.in_ok-push-2.ensures.items c.loop-number.invariant.inlet_count c.loop-number.invariant.inlet c.in_ok-outlet.ensures.inlet;
  outlet = one_slot (MemOutletAt (made_in c.args.graph.now) (links_in c.args.graph.now)) _ _ _ c.loop-number.number c.in_ok-push.ensures.items c.loop-number.invariant.outlet_count c.loop-number.invariant.outlet c.in_ok-outlet.ensures.outlet;
}

pub returns : goal.returns
returns c =
    let whole : c.loop-number.number ≡ sink_numbers (made_in c.args.graph.now) = omega arith in
    record {
      table_is = c.loop-number.invariant.table ∙ ap (table_before (made_in c.args.graph.now) (links_in c.args.graph.now)) whole;
      inlet_count = c.loop-number.invariant.inlet_count ∙ whole;
      outlet_count = c.loop-number.invariant.outlet_count ∙ whole;
      inlet = c.loop-number.invariant.inlet;
      outlet = c.loop-number.invariant.outlet;
    }
