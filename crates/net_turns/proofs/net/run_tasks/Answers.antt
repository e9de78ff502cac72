use Rattle.std.proofs.Common.{◌∙◌, refl, ap, arith, Ok, length}
use Rattle.net_turns.proofs.Stepping.{framed_same, framed_trans}
use Rattle.net_turns.proofs.Tries.{goes_same, goes_more, ended_more, faulted_more, none_ended}
use Rattle.net_turns.proofs.Turning.{come_first, run_without, none_by, some_by}
use Rattle.net_turns.proofs.net.run_tasks.Goals as goal

pub turns-init : goal.turns-init
turns-init g c = record {
  some = some_by (length c.args.tasks.now) c.is_empty.result c.is_empty.ensures c.if-is_empty.false;
  count = refl;
  ready = c.requires.ready;
  frames = framed_same c.args.tasks.now;
  goes = λ m net. goes_same m c.args.tasks.now _ net;
  come = λ order start next. come_first order start c.args.tasks.now _ c.args.turns.now 0 refl next;
  idle = omega arith;
  steps = refl;
}

pub turns-preserved : goal.turns-preserved
turns-preserved g c = record {
  some = c.turns.invariant.some;
  count = c.advance.ensures.count ∙ c.turns.invariant.count;
  ready = c.in-Ok-true.ensures.ready;
  frames = framed_trans c.args.tasks.now c.turns.tasks c.advance.new.tasks c.turns.invariant.count c.turns.invariant.frames c.advance.ensures.frames;
  goes = λ m net.
      let h = c.turns.invariant.goes m net in
      goes_more m h.now c.advance.new.tasks _ h.goes_on ((rw c.in-Ok-true.field-0-test at c.in-Ok-true.ensures.goes) h.now h.net);
  come = λ order start next. (rw c.in-Ok-true.field-0-test at c.in-Ok-true.ensures.come) order start c.args.tasks.now _ (c.turns.invariant.come order start next);
  idle = c.advance.ensures.idle;
  steps = c.advance.ensures.steps ∙ c.turns.invariant.steps;
}

pub turns-smaller : goal.turns-smaller
turns-smaller g c = c.in-Ok-true.ensures.less (ap Ok c.in-Ok-true.field-0-test)

pub returns-then-is_empty-clause-ended : goal.returns-then-is_empty-clause-ended
returns-then-is_empty-clause-ended g c = λ m net. none_ended m c.args.tasks.now c.args.steps.now _ (none_by (length c.args.tasks.now) c.is_empty.result c.is_empty.ensures c.if-is_empty.true) net

pub returns-then-is_empty-clause-by_turns : goal.returns-then-is_empty-clause-by_turns
returns-then-is_empty-clause-by_turns g c =
    λ order start next. run_without order start c.args.tasks.now _ c.args.turns.now (none_by (length c.args.tasks.now) c.is_empty.result c.is_empty.ensures c.if-is_empty.true) next

pub returns-then-is_empty-clause-frames : goal.returns-then-is_empty-clause-frames
returns-then-is_empty-clause-frames g c = framed_same c.args.tasks.now

pub returns-in-Ok-false-clause-ended : goal.returns-in-Ok-false-clause-ended
returns-in-Ok-false-clause-ended g c =
    λ m net.
    let h = c.turns.invariant.goes m net in
    ended_more m h.now c.advance.new.tasks c.advance.new.steps _ h.goes_on ((rw c.in-Ok-false.field-0-test at c.in-Ok-false.ensures.goes) h.now h.net)

pub returns-in-Ok-false-clause-frames : goal.returns-in-Ok-false-clause-frames
returns-in-Ok-false-clause-frames g c = framed_trans c.args.tasks.now c.turns.tasks c.advance.new.tasks c.turns.invariant.count c.turns.invariant.frames c.advance.ensures.frames

pub returns-in-Err-clause-faulted : goal.returns-in-Err-clause-faulted
returns-in-Err-clause-faulted g c =
    λ m net.
    let h = c.turns.invariant.goes m net in
    faulted_more m h.now c.advance.new.tasks c.in-Err.stop.task c.in-Err.stop.fault h.goes_on (c.in-Err.ensures.faulted h.now h.net)

pub returns-in-Err-clause-frames : goal.returns-in-Err-clause-frames
returns-in-Err-clause-frames g c = framed_trans c.args.tasks.now c.turns.tasks c.advance.new.tasks c.turns.invariant.count c.turns.invariant.frames c.advance.ensures.frames

pub returns-in-Ok-false-clause-by_turns : goal.returns-in-Ok-false-clause-by_turns
returns-in-Ok-false-clause-by_turns g c =
    λ order start next. (rw c.in-Ok-false.field-0-test at c.in-Ok-false.ensures.come) order start c.args.tasks.now _ (c.turns.invariant.come order start next)

pub returns-in-Err-clause-by_turns : goal.returns-in-Err-clause-by_turns
returns-in-Err-clause-by_turns g c = λ order start next. c.in-Err.ensures.stopped order start c.args.tasks.now _ (c.turns.invariant.come order start next)
