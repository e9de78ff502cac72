use Rattle.std.proofs.Common.{◌≡◌, ◌∙◌, ap, length, refl, sym, arith}
use Rattle.std.specs.Prelude.{vec_len}
use Rattle.gst_value.proofs.Results.{on_ok}
use Rattle.world_core.proofs.Whole.{whole_again}
use Rattle.world_core.proofs.running.RunningMemInletMemOutletTakesTurns.try_each.Goals as goal

pub try_each-requires-clause-steps : goal.try_each-requires-clause-steps
try_each-requires-clause-steps g c κs within =
    let fitted : vec_len c.fit.new.steps ≡ c.len.result = on_ok c.fit.result (vec_len c.fit.new.steps ≡ c.len.result) (sym c.is_err.ensures.value ∙ c.if-is_err.false) c.fit.ensures in
    omega (arith, ap length c.deref_mut-2.ensures.value, c.fit.new.steps.ok.0, fitted, c.len.ensures, c.args.self.now.tasks.ok.0, ap length c.deref_mut.ensures.value)

pub returns-in-Ok-clause-ready : goal.returns-in-Ok-clause-ready
returns-in-Ok-clause-ready g c = (
  rw (whole_again c.args.self.now.tasks.items c.try_each.new.tasks c.args.self.now.tasks.len (omega (arith, c.args.self.now.tasks.ok.0)) (c.try_each.ensures.count ∙ ap length c.deref_mut.ensures.value))
      c.in-Ok.ensures.ready,
  c.requires.ready.1,
  c.requires.ready.2,
)

pub returns-in-Ok-clause-tried : goal.returns-in-Ok-clause-tried
returns-in-Ok-clause-tried g c = record {
  tried = rw (
    whole_again c.args.self.now.tasks.items c.try_each.new.tasks c.args.self.now.tasks.len (omega (arith, c.args.self.now.tasks.ok.0)) (c.try_each.ensures.count ∙ ap length c.deref_mut.ensures.value),
    ← c.deref_mut.ensures.value,
  )
      c.in-Ok.ensures.tried;
  answered = rw (
    whole_again c.args.self.now.tasks.items c.try_each.new.tasks c.args.self.now.tasks.len (omega (arith, c.args.self.now.tasks.ok.0)) (c.try_each.ensures.count ∙ ap length c.deref_mut.ensures.value),
    whole_again c.fit.new.steps.items c.try_each.new.steps c.fit.new.steps.len (omega (arith, c.fit.new.steps.ok.0)) (c.try_each.ensures.steps ∙ ap length c.deref_mut-2.ensures.value),
  )
      (
      let fitted : vec_len c.fit.new.steps ≡ c.len.result = on_ok c.fit.result (vec_len c.fit.new.steps ≡ c.len.result) (sym c.is_err.ensures.value ∙ c.if-is_err.false) c.fit.ensures in
      omega (arith, c.try_each.ensures.steps, c.try_each.ensures.count, ap length c.deref_mut-2.ensures.value, c.fit.new.steps.ok.0, fitted, c.len.ensures, c.args.self.now.tasks.ok.0, ap length c.deref_mut.ensures.value)
      );
  advanced = rw (
    whole_again c.args.self.now.tasks.items c.try_each.new.tasks c.args.self.now.tasks.len (omega (arith, c.args.self.now.tasks.ok.0)) (c.try_each.ensures.count ∙ ap length c.deref_mut.ensures.value),
    ← c.deref_mut.ensures.value,
    whole_again c.fit.new.steps.items c.try_each.new.steps c.fit.new.steps.len (omega (arith, c.fit.new.steps.ok.0)) (c.try_each.ensures.steps ∙ ap length c.deref_mut-2.ensures.value),
  )
      c.in-Ok.ensures.goes;
  control = record { graph = refl; feeds = refl; commands = refl; entries = refl };
  keeps = record { script = refl; turns = record { taking = refl; removed = refl } };
}

pub returns-in-Err-clause-failed : goal.returns-in-Err-clause-failed
returns-in-Err-clause-failed g c = (
  rw (
    whole_again c.args.self.now.tasks.items c.try_each.new.tasks c.args.self.now.tasks.len (omega (arith, c.args.self.now.tasks.ok.0)) (c.try_each.ensures.count ∙ ap length c.deref_mut.ensures.value),
    ← c.deref_mut.ensures.value,
  )
      c.in-Err.ensures.met,
  rw (whole_again c.args.self.now.tasks.items c.try_each.new.tasks c.args.self.now.tasks.len (omega (arith, c.args.self.now.tasks.ok.0)) (c.try_each.ensures.count ∙ ap length c.deref_mut.ensures.value))
      c.in-Err.ensures.within,
  record { graph = refl; feeds = refl; commands = refl; entries = refl },
  record { script = refl; turns = record { taking = refl; removed = refl } },
)
