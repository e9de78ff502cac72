use Rattle.std.proofs.Common.{◌∙◌, sym}
use Rattle.std.proofs.Common.{◌≡◌, get_or}
use Rattle.graph_order.specs.declared.link.Link.{Link}
use Rattle.graph_order.proofs.Reached.{get_or-irrelevant, same_more, fewer_more, closed_with, link_at}
use Rattle.graph_order.proofs.marks.spread.Goals as goal

pub loop-link-preserved : goal.loop-link-preserved
loop-link-preserved c =
    let now = c.loop-link.invariant in
    let one = c.mark-is_new.ensures in
    let within = c.loop-link-test.true in
    let link : Link = get_or c.args.links.now c.loop-link.link-index (record { from = 0; to = 0 }) in
    let here : link ≡ get_or c.args.links.now c.loop-link.link-index link = sym (get_or-irrelevant c.args.links.now c.loop-link.link-index link (record { from = 0; to = 0 }) within) in
    record {
      size = one.size ∙ now.size;
      reached = λ a h. one.reached a c.args.links.now (link_at c.args.links.now c.loop-link.link-index link within here) (now.reached a h);
      stay = λ e m. one.stay e (now.stay e m);
      same = same_more c.loop-link.is_new c.mark-is_new.result c.args.marks.now.items c.loop-link.marks.items c.mark-is_new.new.marks.items now.same one.same;
      closed = closed_with c.loop-link.is_new c.mark-is_new.result c.args.links.now c.loop-link.link-index link c.loop-link.marks.items c.mark-is_new.new.marks.items within here now.closed one.same one.closed;
      fewer = fewer_more c.loop-link.is_new c.mark-is_new.result c.args.marks.now.items c.loop-link.marks.items c.mark-is_new.new.marks.items now.same now.fewer one.same one.fewer;
    }
