use Rattle.std.proofs.Common.{subst, ◌∙◌}
use Rattle.net_task.specs.Tries.{PadsTry}
use Rattle.net_task.proofs.Closed.{on_ok_of, if_ok, if_err, ok_at, err_at}
use Rattle.net_task.proofs.Stepping.{asked_burns, asked_failed, asked_lanes, asked_steps, asked_why}
use Rattle.net_task.proofs.task.Task.step.Goals as goal

pub returns-in-Ok-Idle-clause-steps : goal.returns-in-Ok-Idle-clause-steps
returns-in-Ok-Idle-clause-steps g c = if_ok c.ask_head.result _ (λ step q. asked_steps _ _ _ c.args.self.now c.try_pads.new.self c.ask_head.new.self (subst (PadsTry _ _ c.args.self.now c.try_pads.new.self) c.in-Ok-Idle.field-0-is c.in-Ok-Idle.ensures.tries) c.in-Ok-Idle.ensures.frame
    step (ok_at c.ask_head.result _ step q c.ask_head.ensures.asks))

pub returns-in-Ok-Idle-clause-why : goal.returns-in-Ok-Idle-clause-why
returns-in-Ok-Idle-clause-why g c = if_ok c.ask_head.result _ (λ step q. asked_why _ _ _ c.args.self.now c.try_pads.new.self c.ask_head.new.self (subst (PadsTry _ _ c.args.self.now c.try_pads.new.self) c.in-Ok-Idle.field-0-is c.in-Ok-Idle.ensures.tries) c.in-Ok-Idle.ensures.frame
    step (ok_at c.ask_head.result _ step q c.ask_head.ensures.asks))

pub returns-in-Ok-Idle-clause-faults : goal.returns-in-Ok-Idle-clause-faults
returns-in-Ok-Idle-clause-faults g c = if_err c.ask_head.result _ (λ fault q. asked_failed _ _ _ c.args.self.now c.try_pads.new.self c.ask_head.new.self (subst (PadsTry _ _ c.args.self.now c.try_pads.new.self) c.in-Ok-Idle.field-0-is c.in-Ok-Idle.ensures.tries) c.in-Ok-Idle.ensures.frame
    fault (err_at c.ask_head.result _ fault q c.ask_head.ensures.faults))

pub returns-in-Ok-Idle-clause-counts : goal.returns-in-Ok-Idle-clause-counts
returns-in-Ok-Idle-clause-counts g c = if_ok c.ask_head.result _ (λ step q. asked_burns _ _ _ c.args.self.now c.try_pads.new.self c.ask_head.new.self (subst (PadsTry _ _ c.args.self.now c.try_pads.new.self) c.in-Ok-Idle.field-0-is c.in-Ok-Idle.ensures.tries) c.in-Ok-Idle.ensures.frame
    step (ok_at c.ask_head.result _ step q c.ask_head.ensures.asks))

pub returns-in-Ok-Idle-clause-frame : goal.returns-in-Ok-Idle-clause-frame
returns-in-Ok-Idle-clause-frame g c = (
  c.ask_head.ensures.frame ∙ c.in-Ok-Idle.ensures.frame,
  on_ok_of c.ask_head.result _ (λ step q. (
    (ok_at c.ask_head.result _ step q c.ask_head.ensures.asks).ready,
    asked_lanes _ _ _ c.args.self.now c.try_pads.new.self c.ask_head.new.self (subst (PadsTry _ _ c.args.self.now c.try_pads.new.self) c.in-Ok-Idle.field-0-is c.in-Ok-Idle.ensures.tries) c.in-Ok-Idle.ensures.frame
        step (ok_at c.ask_head.result _ step q c.ask_head.ensures.asks),
  )),
)
