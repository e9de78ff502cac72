use Rattle.std.proofs.Common.{arith}
use Rattle.net_groups.proofs.Flags.{gone_next, kept_next}
use Rattle.net_groups.proofs.behind.deal.Goals as goal

pub loop-item-preserved : goal.loop-item-preserved
loop-item-preserved g c =
    let a = c.in-Some.ensures.len in
    let b = c.loop-item.invariant.size in
    let d = c.loop-item.invariant.kept_room in
    let e = c.loop-item.invariant.gone_room in
    let p = c.put.ensures.kept_len in
    let q = c.put.ensures.gone_len in
    let r = c.put.ensures.kept_room in
    let t = c.put.ensures.gone_room in
    record {
      size = omega (arith, a, b);
      kept = kept_next c.args.flags.now c.loop-item.place c.in-Some.item c.loop-item.rest.items c.pop_front.new.self.items c.loop-item.kept.items c.put.new.kept.items _ (omega (arith, a, b)) c.in-Some.ensures.items c.put.ensures.kept c.loop-item.invariant.kept;
      gone = gone_next c.args.flags.now c.loop-item.place c.in-Some.item c.loop-item.rest.items c.pop_front.new.self.items c.loop-item.gone.items c.put.new.gone.items _ (omega (arith, a, b)) c.in-Some.ensures.items c.put.ensures.gone c.loop-item.invariant.gone;
      kept_room = omega (arith, a, d, p, r);
      gone_room = omega (arith, a, e, q, t);
    }
