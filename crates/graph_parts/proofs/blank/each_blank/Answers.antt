use Rattle.std.proofs.Common.{length, ap, arith}
use Rattle.graph_core.specs.Graph.{made as made_in}
use Rattle.graph_parts.specs.Blanks.{BlankAt, IsBlankFor}
use Rattle.graph_parts.proofs.BlanksLeft.{of_settings}
use Rattle.graph_parts.proofs.blank.each_blank.Goals as goal
use Rattle.graph_parts.proofs.LaneSlots.{no_slots, one_slot, size_more}

pub loop-number-init : goal.loop-number-init
loop-number-init c = record {
  count = ap length c.new-blanks.ensures.items;
  each = no_slots (BlankAt (made_in c.args.graph.now)) _ c.new-blanks.ensures.items;
}

pub loop-number-preserved : goal.loop-number-preserved
loop-number-preserved c = record {
  count = size_more _ _ _ c.loop-number.number c.in_ok-push_back.ensures.items c.loop-number.invariant.count;
  each = one_slot (BlankAt (made_in c.args.graph.now)) _ _ _ c.loop-number.number c.in_ok-push_back.ensures.items c.loop-number.invariant.count c.loop-number.invariant.each
      (of_settings (λ settings. IsBlankFor settings c.in_ok-blank.blank) (made_in c.args.graph.now) c.loop-number.number _ c.settings.ensures c.in_ok-blank.ensures);
}

pub returns : goal.returns
returns c = record {
  count = let count = c.loop-number.invariant.count in omega (arith, count);
  each = c.loop-number.invariant.each;
}
