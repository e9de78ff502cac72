use Rattle.std.proofs.Common.{◌≡◌, arith, false, replicate}
use Rattle.graph_order.proofs.Reached.{start_reached, none_marked, set_same, ways_marked}
use Rattle.graph_order.proofs.marks.reached.Goals as goal

pub loop-init : goal.loop-init
loop-init c =
    let items : c.in_ok-marks.marks.items ≡ replicate c.args.count false = c.in_ok-marks.ensures.items_if_clones_equal (λ y e. e) in
    record {
      size = c.in_ok-marks.ensures.len;
      reached = start_reached c.args.links.now c.args.from c.in_ok-marks.marks.items (λ e. rw items (none_marked c.args.count e));
      start = set_same c.in_ok-marks.marks.items c.args.from (omega (arith, c.requires.start, c.in_ok-marks.ensures.len, c.in_ok-marks.marks.ok.0));
    }

pub returns-clause-all : goal.returns-clause-all
returns-clause-all c = λ e way. ways_marked c.args.links.now c.spread.new.marks.items c.args.from e (c.spread.ensures.closed c.loop-test.false) (c.spread.ensures.stay c.args.from c.loop.invariant.start) way
