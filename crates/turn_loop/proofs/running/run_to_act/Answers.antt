use Rattle.std.proofs.Common.{ap, sym, Ok, subst}
use Rattle.turn_loop.specs.Come.{HasCome}
use Rattle.turn_loop.proofs.Coming.{come_act, failed_acting}
use Rattle.turn_loop.proofs.running.run_to_act.Goals as goal

pub returns-in-Ok-true-clause-come : goal.returns-in-Ok-true-clause-come
returns-in-Ok-true-clause-come g c = λ order start first come.
    come_act g.T.TakesTurns c.turns.all c.act.new.self c.turns.turns c.turns.idle (c.in-Ok-true.ensures.acted (ap Ok c.in-Ok-true.field-0-test)) order start first (c.turns.invariant.come order start first come)

pub returns-in-Err-clause-failed : goal.returns-in-Err-clause-failed
returns-in-Err-clause-failed g c = λ order start first come.
    failed_acting g.T.TakesTurns c.turns.all c.act.new.self c.turns.turns c.turns.idle c.in-Err.fault c.in-Err.ensures.failed order start first (c.turns.invariant.come order start first come)

pub returns-in-Ok-false-advance-clause-come : goal.returns-in-Ok-false-advance-clause-come
returns-in-Ok-false-advance-clause-come g c = λ order start first come.
    let waits = c.in-Ok-false.ensures.waits (ap Ok c.in-Ok-false.field-0-test) in
    (rw c.in-Ok-false-advance.field-0-test at c.in-Ok-false-advance.ensures.come) order start first (subst (λ x. g.T.TakesTurns.waits x) (sym waits.1) waits.0)
    (subst (λ x. HasCome g.T.TakesTurns order start first c.turns.turns c.turns.idle x) (sym waits.1) (c.turns.invariant.come order start first come))

pub returns-in-Err-advance-clause-failed : goal.returns-in-Err-advance-clause-failed
returns-in-Err-advance-clause-failed g c = λ order start first come.
    let waits = c.in-Ok-false.ensures.waits (ap Ok c.in-Ok-false.field-0-test) in
    c.in-Err-advance.ensures.failed order start first (subst (λ x. g.T.TakesTurns.waits x) (sym waits.1) waits.0)
    (subst (λ x. HasCome g.T.TakesTurns order start first c.turns.turns c.turns.idle x) (sym waits.1) (c.turns.invariant.come order start first come))
