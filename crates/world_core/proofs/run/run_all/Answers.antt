use Rattle.std.proofs.Common.{◌∙◌, ap, length, arith}
use Rattle.world_core.proofs.Whole.{whole_again}
use Rattle.world_core.proofs.run.run_all.Goals as goal

pub run_tasks-requires-clause-ready : goal.run_tasks-requires-clause-ready
run_tasks-requires-clause-ready g c κs within = rw c.deref_mut.ensures.value c.requires.ready

pub run_tasks-requires-clause-steps : goal.run_tasks-requires-clause-steps
run_tasks-requires-clause-steps g c κs within = rw (c.deref_mut.ensures.value, c.deref_mut-2.ensures.value) c.requires.steps

pub returns-clause-ended : goal.returns-clause-ended
returns-clause-ended g c =
    rw (
      whole_again c.args.tasks.now.items c.run_tasks.new.tasks c.args.tasks.now.len (omega (arith, c.args.tasks.now.ok.0))
          (c.run_tasks.ensures.count ∙ ap length c.deref_mut.ensures.value),
      ← c.deref_mut.ensures.value,
      whole_again c.args.steps.now.items c.run_tasks.new.steps c.args.steps.now.len (omega (arith, c.args.steps.now.ok.0))
          (c.run_tasks.ensures.steps ∙ ap length c.deref_mut-2.ensures.value),
    )
    c.run_tasks.ensures.ended

pub returns-clause-faulted : goal.returns-clause-faulted
returns-clause-faulted g c =
    rw (
      whole_again c.args.tasks.now.items c.run_tasks.new.tasks c.args.tasks.now.len (omega (arith, c.args.tasks.now.ok.0))
          (c.run_tasks.ensures.count ∙ ap length c.deref_mut.ensures.value),
      ← c.deref_mut.ensures.value,
    )
    c.run_tasks.ensures.faulted

pub returns-clause-turned : goal.returns-clause-turned
returns-clause-turned g c =
    rw (
      whole_again c.args.tasks.now.items c.run_tasks.new.tasks c.args.tasks.now.len (omega (arith, c.args.tasks.now.ok.0))
          (c.run_tasks.ensures.count ∙ ap length c.deref_mut.ensures.value),
      ← c.deref_mut.ensures.value,
    )
    (c.run_tasks.new.turns, c.run_tasks.ensures.by_turns c.args.turns 0 (c.new-turns.ensures.among (length c.deref_mut.result.now)))

pub returns-clause-frames : goal.returns-clause-frames
returns-clause-frames g c =
    rw (
      whole_again c.args.tasks.now.items c.run_tasks.new.tasks c.args.tasks.now.len (omega (arith, c.args.tasks.now.ok.0))
          (c.run_tasks.ensures.count ∙ ap length c.deref_mut.ensures.value),
      ← c.deref_mut.ensures.value,
    )
    c.run_tasks.ensures.frames

pub returns-clause-count : goal.returns-clause-count
returns-clause-count g c =
    rw (
      whole_again c.args.tasks.now.items c.run_tasks.new.tasks c.args.tasks.now.len (omega (arith, c.args.tasks.now.ok.0))
          (c.run_tasks.ensures.count ∙ ap length c.deref_mut.ensures.value),
      ← c.deref_mut.ensures.value,
    )
    c.run_tasks.ensures.count
