use Rattle.std.proofs.Common.{◌∙◌, ap, length, refl, arith}
use Rattle.world_core.proofs.Whole.{whole_again}
use Rattle.world_core.proofs.running.RunningMemInletMemOutletTakesTurns.step.Goals as goal

pub returns-in-Ok-clause-stepped : goal.returns-in-Ok-clause-stepped
returns-in-Ok-clause-stepped g c = record {
  step = c.in-Ok.step;
  stepped = rw (
    whole_again c.args.self.now.tasks.items c.step_at.new.tasks c.args.self.now.tasks.len (omega (arith, c.args.self.now.tasks.ok.0)) (c.step_at.ensures.count ∙ ap length c.deref_mut.ensures.value),
    ← c.deref_mut.ensures.value,
  )
      c.in-Ok.ensures.stepped;
  moved_is = c.has_moved.ensures;
  control = record { graph = refl; feeds = refl; commands = refl; entries = refl };
  keeps = record { script = refl; turns = record { taking = refl; removed = refl } };
}

pub returns-in-Err-clause-failed : goal.returns-in-Err-clause-failed
returns-in-Err-clause-failed g c = (
  rw (
    whole_again c.args.self.now.tasks.items c.step_at.new.tasks c.args.self.now.tasks.len (omega (arith, c.args.self.now.tasks.ok.0)) (c.step_at.ensures.count ∙ ap length c.deref_mut.ensures.value),
    ← c.deref_mut.ensures.value,
  )
      c.in-Err.ensures.met,
  c.in-Err.ensures.within,
  record { graph = refl; feeds = refl; commands = refl; entries = refl },
  record { script = refl; turns = record { taking = refl; removed = refl } },
)
