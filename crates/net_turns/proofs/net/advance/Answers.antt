use Rattle.std.proofs.Common.{◌+◌, ◌∙◌, ap, cond, refl, arith}
use Rattle.net_turns.proofs.Turning.{idle_within, less_left, come_turn, come_stop, ok_tries, err_tries}
use Rattle.net_turns.proofs.net.advance.Goals as goal

pub returns-then-idle-eq-IDLE_TURNS-clause-come : goal.returns-then-idle-eq-IDLE_TURNS-clause-come
returns-then-idle-eq-IDLE_TURNS-clause-come g c =
    ok_tries c.args.tasks.now c.try_each.new.tasks _ _ c.args.turns.now c.args.idle.now _ c.if-idle-eq-IDLE_TURNS.true refl c.try_each.ensures.count c.try_each.result c.try_each.ensures.tried

pub returns-then-idle-eq-IDLE_TURNS-clause-stopped : goal.returns-then-idle-eq-IDLE_TURNS-clause-stopped
returns-then-idle-eq-IDLE_TURNS-clause-stopped g c =
    err_tries c.args.tasks.now c.try_each.new.tasks _ (g.O.Outlet.tells c.args.lanes.now) c.args.turns.now c.args.idle.now 0 c.if-idle-eq-IDLE_TURNS.true refl
    c.try_each.ensures.count c.try_each.result c.try_each.ensures.met

pub returns-in-Ok-clause-goes : goal.returns-in-Ok-clause-goes
returns-in-Ok-clause-goes g c = c.in-Ok.ensures.goes

pub returns-in-Ok-clause-come : goal.returns-in-Ok-clause-come
returns-in-Ok-clause-come g c =
    λ order start first told h.
    come_turn order start first told c.args.tasks.now c.step_at.new.tasks _ _ c.args.turns.now c.next_among-place.new.self c.args.idle.now c.idle_turns.result
    c.in-Ok.step c.next_among-place.result h c.requires.some
    (omega (arith, c.requires.idle, c.if-idle-eq-IDLE_TURNS.false)) (c.next_among-place.ensures.place c.requires.some) (c.next_among-place.ensures.among c.requires.some)
    (c.idle_turns.ensures ∙ ap (λ b. cond b 0 (c.args.idle.now + 1)) c.has_moved-moved.ensures) c.step_at.ensures.count c.in-Ok.ensures.stepped

pub returns-in-Ok-clause-idle : goal.returns-in-Ok-clause-idle
returns-in-Ok-clause-idle g c = idle_within c.has_moved-moved.result c.idle_turns.result c.args.idle.now c.idle_turns.ensures (omega (arith, c.requires.idle, c.if-idle-eq-IDLE_TURNS.false))

pub returns-in-Ok-clause-less : goal.returns-in-Ok-clause-less
returns-in-Ok-clause-less g c =
    λ _. less_left c.has_moved-moved.result c.idle_turns.result c.args.idle.now _ _ c.idle_turns.ensures (omega (arith, c.requires.idle, c.if-idle-eq-IDLE_TURNS.false)) (rw c.has_moved-moved.ensures c.in-Ok.ensures.burned)

pub returns-in-Err-clause-stopped : goal.returns-in-Err-clause-stopped
returns-in-Err-clause-stopped g c =
    λ order start first told h.
    come_stop order start first told c.args.tasks.now c.step_at.new.tasks _ c.args.turns.now c.next_among-place.new.self c.args.idle.now c.next_among-place.result
    c.in-Err.stop.fault h c.requires.some
    (omega (arith, c.requires.idle, c.if-idle-eq-IDLE_TURNS.false)) (c.next_among-place.ensures.place c.requires.some) (c.next_among-place.ensures.among c.requires.some)
    c.step_at.ensures.count c.in-Err.ensures.met

pub returns-in-Err-clause-within : goal.returns-in-Err-clause-within
returns-in-Err-clause-within g c = let w = c.next_among-place.ensures.within c.requires.some in omega (arith, w, c.in-Err.ensures.within, c.step_at.ensures.count)
