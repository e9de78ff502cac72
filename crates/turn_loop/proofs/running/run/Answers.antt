use Rattle.std.proofs.Common.{arith}
use Rattle.turn_loop.proofs.Coming.{come_first}
use Rattle.turn_loop.proofs.running.run.Goals as goal

pub acts-init : goal.acts-init
acts-init g c = record {
  ready = c.requires.ready;
  idle = omega arith;
  come = λ order start next. come_first g.T.TakesTurns order start c.args.all.now c.args.turns.now next;
}

pub acts-preserved : goal.acts-preserved
acts-preserved g c = record {
  ready = c.in-Ok-true.ensures.ready;
  idle = c.run_to_act.ensures.idle;
  come = λ order start next. (rw c.in-Ok-true.field-0-test at c.in-Ok-true.ensures.come) order start c.args.all.now (c.acts.invariant.come order start next);
}

pub returns-in-Ok-false-clause-ended : goal.returns-in-Ok-false-clause-ended
returns-in-Ok-false-clause-ended g c = λ order start next. (rw c.in-Ok-false.field-0-test at c.in-Ok-false.ensures.come) order start c.args.all.now (c.acts.invariant.come order start next)

pub returns-in-Err-clause-failed : goal.returns-in-Err-clause-failed
returns-in-Err-clause-failed g c = λ order start next. c.in-Err.ensures.failed order start c.args.all.now (c.acts.invariant.come order start next)
