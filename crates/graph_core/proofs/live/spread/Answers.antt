use Rattle.std.proofs.Common.{◌≡◌, get_or, sym}
use Rattle.graph_order.proofs.Reached.{get_or-irrelevant, same_more, fewer_more}
use Rattle.graph_pads.specs.declared.pad.PadLink.{PadLink}
use Rattle.graph_core.proofs.Marking.{is_way, closed_further}
use Rattle.graph_core.proofs.live.spread.Goals as goal

pub loop-link-preserved : goal.loop-link-preserved
loop-link-preserved c =
    let now = c.loop-link.invariant in
    let one = c.mark-is_new.ensures in
    let within = c.loop-link-test.true in
    let nowhere : PadLink = record { source = record { element = 0; pad = 0 }; sink = record { element = 0; pad = 0 } } in
    let link : PadLink = get_or c.args.links.now c.loop-link.link-index nowhere in
    let here : link ≡ get_or c.args.links.now c.loop-link.link-index link = sym (get_or-irrelevant c.args.links.now c.loop-link.link-index link nowhere within) in
    record {
      spreads = λ was h. one.spreads c.args.links.now was (is_way c.args.links.now c.loop-link.link-index link within here) (now.spreads was h);
      same = same_more c.loop-link.is_new c.mark-is_new.result c.args.marks.now.items c.loop-link.marks.items c.mark-is_new.new.marks.items now.same one.same;
      closed = closed_further c.loop-link.is_new c.mark-is_new.result c.args.links.now c.loop-link.link-index link c.loop-link.marks.items c.mark-is_new.new.marks.items within here now.closed one.same one.closed;
      fewer = fewer_more c.loop-link.is_new c.mark-is_new.result c.args.marks.now.items c.loop-link.marks.items c.mark-is_new.new.marks.items now.same now.fewer one.same one.fewer;
    }
