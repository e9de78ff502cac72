use Rattle.std.proofs.lemmas.Option.{slice_get-get_or}
use Rattle.net_turns.proofs.Places.{set_there}
use Rattle.net_turns.proofs.Readies.{net_ready}
use Rattle.net_turns.proofs.Stepping.{framed_set, net_burned, net_faulted, net_goes}
use Rattle.net_turns.proofs.net.step_at.Goals as goal
use Rattle.gst_value.proofs.Places.{set_at}

pub step-requires-clause-ready : goal.step-requires-clause-ready
step-requires-clause-ready g c κs within =
    c.requires.ready.ready c.args.place _ (slice_get-get_or c.args.tasks.now c.args.place c.index-tasks-place.result c.requires.place)

pub returns-in-Ok-clause-stepped : goal.returns-in-Ok-clause-stepped
returns-in-Ok-clause-stepped g c =
    let at = slice_get-get_or c.args.tasks.now c.args.place c.index-tasks-place.result c.requires.place in
    record {
      others = λ k ne. set_there c.args.tasks.now c.args.place k c.step.new.self ne;
      before = _;
      at = at;
      after = c.step.new.self;
      at_after = set_at c.args.tasks.now c.args.place _ c.step.new.self at;
      stepped = record { ready = c.in-Ok.ensures.frame.1.0; lanes = c.in-Ok.ensures.frame.1.1; steps = c.in-Ok.ensures.steps; why = c.in-Ok.ensures.why; frame = c.step.ensures.frame.0; burns = c.in-Ok.ensures.counts };
    }

pub returns-in-Ok-clause-goes : goal.returns-in-Ok-clause-goes
returns-in-Ok-clause-goes g c = λ m net. net_goes (record { counts = λ outlet was sent. (g.met.O.Outlet g.world.𝓛 g.world.𝓜 g.world.𝓡 ((λ s x. x), (λ x. x), (λ x. x), λ x. x)).counts outlet was sent; bounded = λ outlet. (g.met.O.Outlet g.world.𝓛 g.world.𝓜 g.world.𝓡 ((λ s x. x), (λ x. x), (λ x. x), λ x. x)).bounded outlet })
    m c.args.tasks.now _ _ _ c.args.place c.in-Ok.step net (returns-in-Ok-clause-stepped g c)

pub returns-in-Ok-clause-frames : goal.returns-in-Ok-clause-frames
returns-in-Ok-clause-frames g c =
    framed_set c.args.tasks.now c.args.place _ c.step.new.self (slice_get-get_or c.args.tasks.now c.args.place c.index-tasks-place.result c.requires.place) c.step.ensures.frame.0

pub returns-in-Ok-clause-burned : goal.returns-in-Ok-clause-burned
returns-in-Ok-clause-burned g c =
    net_burned c.args.tasks.now c.args.place _ c.step.new.self c.in-Ok.step (slice_get-get_or c.args.tasks.now c.args.place c.index-tasks-place.result c.requires.place) c.in-Ok.ensures.counts

pub returns-in-Err-clause-met : goal.returns-in-Err-clause-met
returns-in-Err-clause-met g c =
    let at = slice_get-get_or c.args.tasks.now c.args.place c.index-tasks-place.result c.requires.place in
    record {
      others = λ k ne. set_there c.args.tasks.now c.args.place k c.step.new.self ne;
      before = _;
      at = at;
      after = c.step.new.self;
      at_after = set_at c.args.tasks.now c.args.place _ c.step.new.self at;
      over = _;
      failed = c.in-Err.ensures.faults.failed;
      cause = c.in-Err.ensures.faults.cause;
      frame = c.step.ensures.frame.0;
    }

pub returns-in-Err-clause-faulted : goal.returns-in-Err-clause-faulted
returns-in-Err-clause-faulted g c = λ m net. net_faulted m c.args.tasks.now _ _ c.args.place c.in-Err.fault net (returns-in-Err-clause-met g c)

pub returns-in-Err-clause-frames : goal.returns-in-Err-clause-frames
returns-in-Err-clause-frames g c =
    framed_set c.args.tasks.now c.args.place _ c.step.new.self (slice_get-get_or c.args.tasks.now c.args.place c.index-tasks-place.result c.requires.place) c.step.ensures.frame.0

pub returns-in-Ok-clause-ready : goal.returns-in-Ok-clause-ready
returns-in-Ok-clause-ready g c = net_ready c.args.tasks.now _ _ _ c.args.place _ c.requires.ready (returns-in-Ok-clause-stepped g c)
