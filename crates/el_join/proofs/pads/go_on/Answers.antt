use Rattle.std.proofs.Common.{refl, sym, ◌∙◌, arith}
use Rattle.std.proofs.lemmas.Option.{slice_get_read}
use Rattle.el_join.specs.Totals.{with_tally}
use Rattle.el_join.proofs.Pouring.{poured_first, poured_next, poured_stop, poured_end, room_next, room_here, room_end, goes_on, stops_there, behind_is}
use Rattle.el_join.proofs.pads.go_on.Goals as goal

pub loop-turn-init : goal.loop-turn-init
loop-turn-init c = record { poured = poured_first c.args.pads.now.items c.args.turn.now c.args.sums.now c.args.into.now.items; within = c.requires.turn; room = c.requires.room; same = refl }

pub pour-requires : goal.pour-requires
pour-requires c =
    let at = slice_get_read c.loop-turn.pads.items c.loop-turn.pads.len c.loop-turn.turn c.index_mut.result.now c.loop-turn.pads.ok.0 (omega (arith, c.loop-turn-test.true, c.len.ensures)) c.index_mut.ensures.value in
    record { room = room_here c.loop-turn.turn c.loop-turn.sums c.loop-turn.pads.items c.index_mut.result.now at c.loop-turn.into.len c.loop-turn.into.cap c.loop-turn.invariant.room }

pub loop-turn-preserved : goal.loop-turn-preserved
loop-turn-preserved c =
    let at = slice_get_read c.loop-turn.pads.items c.loop-turn.pads.len c.loop-turn.turn c.index_mut.result.now c.loop-turn.pads.ok.0 (omega (arith, c.loop-turn-test.true, c.len.ensures)) c.index_mut.ensures.value in
    let is = sym c.pour.ensures.behind ∙ c.in-Some.is in
    let over = goes_on c.index_mut.result.now.facts.ended (with_tally c.loop-turn.sums c.index_mut.result.now.facts.tally) c.in-Some.behind is in
    let to = behind_is c.index_mut.result.now.facts.ended (with_tally c.loop-turn.sums c.index_mut.result.now.facts.tally) c.in-Some.behind is in
    record {
      poured = poured_next c.args.pads.now.items c.args.turn.now c.args.sums.now c.args.into.now.items c.loop-turn.pads.items c.loop-turn.turn c.loop-turn.sums c.loop-turn.into.items c.loop-turn.invariant.poured
          c.index_mut.result.now c.pour.new.self at c.pour.ensures.facts c.pour.ensures.taken c.pour.ensures.free c.pour.new.into.items c.pour.ensures.into c.in-Some.behind over to;
      within = omega arith;
      room = rw c.pour.ensures.capacity
          (room_next c.loop-turn.turn c.loop-turn.sums c.loop-turn.pads.items c.index_mut.result.now c.pour.new.self at c.loop-turn.into.len c.pour.new.into.len c.loop-turn.into.cap c.in-Some.behind over to
          c.pour.ensures.len c.loop-turn.invariant.room);
      same = c.loop-turn.invariant.same;
    }

pub push_reserved-requires : goal.push_reserved-requires
push_reserved-requires c =
    room_end c.loop-turn.turn c.loop-turn.sums c.loop-turn.pads.items c.loop-turn.into.len c.loop-turn.into.cap
    (omega (arith, c.loop-turn.pads.ok.0, c.loop-turn-test.false, c.len.ensures)) c.loop-turn.invariant.room

pub returns-in_default-clause-goes : goal.returns-in_default-clause-goes
returns-in_default-clause-goes c =
    let at = slice_get_read c.loop-turn.pads.items c.loop-turn.pads.len c.loop-turn.turn c.index_mut.result.now c.loop-turn.pads.ok.0 (omega (arith, c.loop-turn-test.true, c.len.ensures)) c.index_mut.ensures.value in
    poured_stop c.args.pads.now.items c.args.turn.now c.args.sums.now c.args.into.now.items c.loop-turn.pads.items c.loop-turn.turn c.loop-turn.sums c.loop-turn.into.items c.loop-turn.invariant.poured
    c.index_mut.result.now c.pour.new.self at c.pour.ensures.facts c.pour.ensures.taken c.pour.ensures.free c.pour.new.into.items c.pour.ensures.into
    (stops_there c.index_mut.result.now.facts.ended (with_tally c.loop-turn.sums c.index_mut.result.now.facts.tally) (sym c.pour.ensures.behind ∙ c.in_default.is))

pub returns-clause-goes : goal.returns-clause-goes
returns-clause-goes c =
    poured_end c.args.pads.now.items c.args.turn.now c.args.sums.now c.args.into.now.items c.loop-turn.pads.items c.loop-turn.turn c.loop-turn.sums c.loop-turn.into.items c.loop-turn.invariant.poured
    c.push_reserved.new.self.items (omega (arith, c.loop-turn.pads.ok.0, c.loop-turn-test.false, c.len.ensures, c.loop-turn.invariant.within)) c.push_reserved.ensures.items
