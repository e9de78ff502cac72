use Rattle.std.proofs.Common.{◌<◌, ◌∙◌, inl, inr, sym, arith}
use Rattle.turn_loop.proofs.Coming.{come_tried, come_turn, failed_at, failed_trying}
use Rattle.turn_loop.proofs.running.advance.Goals as goal

pub returns-then-count-eq0-clause-come : goal.returns-then-count-eq0-clause-come
returns-then-count-eq0-clause-come g c =
    come_tried g.T.TakesTurns c.try_each.result c.args.all.now c.try_each.new.self c.args.turns.now c.args.idle.now c.try_each.ensures.tried (inr (sym c.count-count.ensures ∙ c.if-count-eq0.true))

pub returns-then-count-eq0-clause-failed : goal.returns-then-count-eq0-clause-failed
returns-then-count-eq0-clause-failed g c =
    failed_trying g.T.TakesTurns c.try_each.result c.args.all.now c.try_each.new.self c.args.turns.now c.args.idle.now c.try_each.ensures.failed (inr (sym c.count-count.ensures ∙ c.if-count-eq0.true))

pub returns-then-idle-eq-IDLE_TURNS-clause-come : goal.returns-then-idle-eq-IDLE_TURNS-clause-come
returns-then-idle-eq-IDLE_TURNS-clause-come g c =
    come_tried g.T.TakesTurns c.try_each-then-idle-eq-IDLE_TURNS.result c.args.all.now c.try_each-then-idle-eq-IDLE_TURNS.new.self c.args.turns.now c.args.idle.now
    c.try_each-then-idle-eq-IDLE_TURNS.ensures.tried (inl c.if-idle-eq-IDLE_TURNS.true)

pub returns-then-idle-eq-IDLE_TURNS-clause-failed : goal.returns-then-idle-eq-IDLE_TURNS-clause-failed
returns-then-idle-eq-IDLE_TURNS-clause-failed g c =
    failed_trying g.T.TakesTurns c.try_each-then-idle-eq-IDLE_TURNS.result c.args.all.now c.try_each-then-idle-eq-IDLE_TURNS.new.self c.args.turns.now c.args.idle.now
    c.try_each-then-idle-eq-IDLE_TURNS.ensures.failed (inl c.if-idle-eq-IDLE_TURNS.true)

pub returns-in-Ok-clause-come : goal.returns-in-Ok-clause-come
returns-in-Ok-clause-come g c =
    let some : 0 < c.count-count.result = omega (arith, c.if-count-eq0.false) in
    come_turn g.T.TakesTurns c.args.turns.now c.next_among-place.new.self c.count-count.result c.next_among-place.result some (c.next_among-place.ensures.within some)
    (c.next_among-place.ensures.place_at some) (c.next_among-place.ensures.at some)
    c.args.all.now c.step.new.self c.args.idle.now c.idle_turns.result c.in-Ok.moved c.count-count.ensures (omega (arith, c.requires.idle, c.if-idle-eq-IDLE_TURNS.false)) c.idle_turns.ensures c.in-Ok.ensures.stepped

pub returns-in-Err-clause-failed : goal.returns-in-Err-clause-failed
returns-in-Err-clause-failed g c =
    let some : 0 < c.count-count.result = omega (arith, c.if-count-eq0.false) in
    failed_at g.T.TakesTurns c.args.turns.now c.next_among-place.new.self c.count-count.result c.next_among-place.result some (c.next_among-place.ensures.within some)
    (c.next_among-place.ensures.place_at some) (c.next_among-place.ensures.at some)
    c.args.all.now c.step.new.self c.args.idle.now c.in-Err.fault c.count-count.ensures (omega (arith, c.requires.idle, c.if-idle-eq-IDLE_TURNS.false)) c.in-Err.ensures.failed
