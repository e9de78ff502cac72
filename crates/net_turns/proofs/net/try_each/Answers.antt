use Rattle.std.proofs.Common.{◌<◌, ◌∙◌, refl, arith}
use Rattle.task_pads.proofs.Lists.{set_length}
use Rattle.net_turns.specs.Rests.{has_moved}
use Rattle.net_turns.specs.Turns.{none, one}
use Rattle.net_turns.proofs.Stepping.{framed_same, framed_trans}
use Rattle.net_turns.proofs.Turning.{tried_all}
use Rattle.net_turns.proofs.Tries.{burned_both, goes_any, faulted_more, none_tried, more_tried, all_tried}
use Rattle.net_turns.proofs.net.try_each.Goals as goal

pub loop-place-init : goal.loop-place-init
loop-place-init g c = record {
  count = refl;
  ready = c.requires.ready;
  frames = framed_same c.args.tasks.now;
  goes = λ m net. none_tried m c.args.tasks.now c.args.steps.now _ net;
  steps = refl;
  burned = omega arith;
  within = omega arith;
  tried = none;
}

pub loop-place-preserved : goal.loop-place-preserved
loop-place-preserved g c = record {
  count = c.step_at.ensures.count ∙ c.loop-place.invariant.count;
  ready = c.in-Ok.ensures.ready;
  frames = framed_trans c.args.tasks.now c.loop-place.tasks c.step_at.new.tasks c.loop-place.invariant.count c.loop-place.invariant.frames c.step_at.ensures.frames;
  goes = λ m net. rw c.has_moved-moved.ensures (more_tried (record { counts = λ outlet was sent. (g.met.O.Outlet g.world.𝓛 g.world.𝓜 g.world.𝓡 ((λ s x. x), (λ x. x), (λ x. x), λ x. x)).counts outlet was sent; bounded = λ outlet. (g.met.O.Outlet g.world.𝓛 g.world.𝓜 g.world.𝓡 ((λ s x. x), (λ x. x), (λ x. x), λ x. x)).bounded outlet })
      c.loop-place.place c.loop-place.moved c.in-Ok.step m c.loop-place.tasks c.step_at.new.tasks c.loop-place.steps _ _
      (omega (arith, c.loop-place-test.true, c.loop-place.invariant.count, c.loop-place.invariant.steps, c.requires.steps)) (c.loop-place.invariant.goes m net) c.in-Ok.ensures.stepped);
  steps = set_length c.loop-place.steps c.loop-place.place c.in-Ok.step ∙ c.loop-place.invariant.steps;
  burned = rw c.has_moved-moved.ensures (burned_both c.loop-place.moved (has_moved c.in-Ok.step) _ _ _ c.loop-place.invariant.burned c.in-Ok.ensures.burned);
  within = omega (arith, c.loop-place-test.true, c.loop-place.invariant.count);
  tried = rw c.has_moved-moved.ensures (one c.loop-place.place c.loop-place.moved c.in-Ok.step c.loop-place.tasks c.step_at.new.tasks _ _ c.loop-place.invariant.tried c.in-Ok.ensures.stepped);
}

pub returns-in-Err-clause-faulted : goal.returns-in-Err-clause-faulted
returns-in-Err-clause-faulted g c =
    λ m net.
    let h = goes_any (λ k. k < c.loop-place.place) c.loop-place.moved m c.loop-place.tasks c.loop-place.steps _ (c.loop-place.invariant.goes m net) in
    faulted_more m h.now c.step_at.new.tasks c.in-Err.stop.task c.in-Err.stop.fault h.goes_on (c.in-Err.ensures.faulted h.now h.net)

pub returns-in-Err-clause-frames : goal.returns-in-Err-clause-frames
returns-in-Err-clause-frames g c = framed_trans c.args.tasks.now c.loop-place.tasks c.step_at.new.tasks c.loop-place.invariant.count c.loop-place.invariant.frames c.step_at.ensures.frames

pub returns-clause-goes : goal.returns-clause-goes
returns-clause-goes g c =
    λ m net. all_tried c.loop-place.place c.loop-place.moved m c.loop-place.tasks c.loop-place.steps _ (omega (arith, c.loop-place-test.false, c.loop-place.invariant.count)) (c.loop-place.invariant.goes m net)

pub returns-clause-tried : goal.returns-clause-tried
returns-clause-tried g c =
    tried_all c.args.tasks.now c.loop-place.tasks _ _ c.loop-place.place c.loop-place.moved
    (omega (arith, c.loop-place-test.false, c.loop-place.invariant.count, c.loop-place.invariant.within)) c.loop-place.invariant.tried

pub returns-in-Err-clause-met : goal.returns-in-Err-clause-met
returns-in-Err-clause-met g c = record {
  place = c.loop-place.place;
  within = omega (arith, c.loop-place-test.true, c.loop-place.invariant.count);
  moved = c.loop-place.moved;
  was = c.loop-place.tasks;
  tells = _;
  tried = c.loop-place.invariant.tried;
  met = c.in-Err.ensures.met;
}
