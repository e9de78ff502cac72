use Rattle.net_task.proofs.Stepping.{all_tried, parts_failed, parts_moved_by, source_fault}
use Rattle.net_task.proofs.task.Task.try_pads.Goals as goal
use Rattle.gst_value.proofs.Results.{handed_on}

pub returns-in_err-tried-clause-faults : goal.returns-in_err-tried-clause-faults
returns-in_err-tried-clause-faults g c = handed_on c.from_residual.result c.in_err-tried.field-0.0 _ c.from_residual.ensures.1 (parts_failed _ _ c.args.self.now c.try_parts.new.self c.in_err-tried.field-0.0 c.in_err-tried.ensures.faults)

pub returns-in-Moved-clause-tries : goal.returns-in-Moved-clause-tries
returns-in-Moved-clause-tries g c = parts_moved_by _ _ c.args.self.now c.try_parts.new.self c.in_ok-tried.tried c.in-Moved.is c.try_parts.ensures.head c.in_ok-tried.ensures.tries

pub returns-in_err-next-clause-faults : goal.returns-in_err-next-clause-faults
returns-in_err-next-clause-faults g c = handed_on c.from_residual-in_err-next.result c.in_err-next.field-0.0 _ c.from_residual-in_err-next.ensures.1
    (source_fault _ _ (g.O.Outlet.tells c.try_head.new.lanes) c.args.self.now c.try_parts.new.self c.try_head.new.self c.in_ok-tried.tried c.in_default.not-Moved c.in_ok-tried.ensures.tries c.try_parts.ensures.frame c.try_parts.ensures.head c.in_err-next.field-0.0 c.in_err-next.ensures.faults)

pub returns-clause-tries : goal.returns-clause-tries
returns-clause-tries g c =
    all_tried _ _ _ c.args.self.now c.try_parts.new.self c.try_head.new.self c.in_ok-tried.tried c.in_default.not-Moved c.in_ok-tried.ensures.tries c.try_parts.ensures.frame c.try_parts.ensures.head c.in_ok-next.next c.with_next.result c.in_ok-next.ensures.tries c.with_next.ensures
