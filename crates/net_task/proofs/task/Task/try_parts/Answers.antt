use Rattle.std.proofs.Common.{◌∙◌, ◌+◌, ap, arith, refl, sym}
use Rattle.net_task.specs.Frame.{TaskFrame, frame_of}
use Rattle.net_task.specs.Reasons.{IsFirst}
use Rattle.net_task.specs.Tries.{IsFirstOf, IsOfAny, IsOfPart}
use Rattle.net_task.proofs.SoFar.{WasBefore, before_all, done_so, fails_so, first_all, idle_so, more_so, moved_so, one_before, same_many}
use Rattle.net_task.proofs.task.Task.try_parts.Goals as goal
use Rattle.gst_value.proofs.Results.{handed_on}

pub loop-place-init : goal.loop-place-init
loop-place-init g c = (idle_so _ c.args.self.now _ refl refl c.requires.ready, c.len-place-end.ensures ∙ c.args.self.now.parts.ok.0, omega arith)

pub returns-in_err-try_part-clause-faults : goal.returns-in_err-try_part-clause-faults
returns-in_err-try_part-clause-faults g c = handed_on c.from_residual.result c.in_err-try_part.field-0.0 _ c.from_residual.ensures.1
    (fails_so _ _ _ c.args.self.now c.loop-place.self c.try_part.new.self (WasBefore (frame_of c.args.self.now) c.loop-place.place) (λ m. IsFirstOf _ m (frame_of c.loop-place.self) c.loop-place.place) (λ m. IsFirst _ m (frame_of c.args.self.now))
    c.loop-place.tried c.in_err-try_part.field-0.0 c.loop-place.invariant.0 c.in_err-try_part.ensures.faults
    (λ m t p w. first_all _ _ (frame_of c.args.self.now) (frame_of c.loop-place.self) m c.loop-place.place c.loop-place.tried c.loop-place.invariant.0.frame c.loop-place.invariant.0.table t p w))

pub returns-in_err-try_part-clause-frame : goal.returns-in_err-try_part-clause-frame
returns-in_err-try_part-clause-frame g c = c.try_part.ensures.frame ∙ c.loop-place.invariant.0.frame

pub returns-in-Moved-clause-tries : goal.returns-in-Moved-clause-tries
returns-in-Moved-clause-tries g c =
    moved_so _ _ _ c.args.self.now c.loop-place.self c.try_part.new.self (WasBefore (frame_of c.args.self.now) c.loop-place.place) (IsOfPart (frame_of c.loop-place.self) c.loop-place.place) (IsOfAny (frame_of c.args.self.now))
    (λ m. IsFirstOf _ m (frame_of c.loop-place.self) c.loop-place.place) (λ m. IsFirst _ m (frame_of c.args.self.now))
    c.loop-place.tried c.in_ok-try_part.field-0 c.with_next-tried.result c.loop-place.invariant.0 c.in_ok-try_part.ensures.tries c.with_next-tried.ensures c.in-Moved.is
    (λ m t p w. first_all _ _ (frame_of c.args.self.now) (frame_of c.loop-place.self) m c.loop-place.place c.loop-place.tried c.loop-place.invariant.0.frame c.loop-place.invariant.0.table t p w)

pub returns-in-Moved-clause-frame : goal.returns-in-Moved-clause-frame
returns-in-Moved-clause-frame g c = c.try_part.ensures.frame ∙ c.loop-place.invariant.0.frame

pub loop-place-preserved : goal.loop-place-preserved
loop-place-preserved g c = (
  more_so _ _ _ c.args.self.now c.loop-place.self c.try_part.new.self (WasBefore (frame_of c.args.self.now) c.loop-place.place) (IsOfPart (frame_of c.loop-place.self) c.loop-place.place) (WasBefore (frame_of c.args.self.now) (c.loop-place.place + 1))
      (λ m. IsFirstOf _ m (frame_of c.loop-place.self) c.loop-place.place) c.loop-place.tried c.in_ok-try_part.field-0 c.with_next-tried.result c.loop-place.invariant.0 c.in_ok-try_part.ensures.tries c.try_part.ensures.frame c.try_part.ensures.head
      c.with_next-tried.ensures c.in_default.not-Moved (one_before (frame_of c.args.self.now) (frame_of c.loop-place.self) c.loop-place.place c.loop-place.invariant.0.frame),
  c.loop-place.invariant.1 ∙ sym (same_many g.O.Outlet c.loop-place.self.parts.items c.try_part.new.self.parts.items (ap (λ (f : TaskFrame). f.parts) c.try_part.ensures.frame)),
  (let v = c.try_part.ensures.from in let w = c.loop-place.invariant.2 in omega (arith, v, w)),
)

pub returns-clause-tries : goal.returns-clause-tries
returns-clause-tries g c =
    let v = c.loop-place-test.false in
    let w = c.loop-place.invariant.1 in
    done_so _ _ c.args.self.now c.loop-place.self (WasBefore (frame_of c.args.self.now) c.loop-place.place) (IsOfAny (frame_of c.args.self.now)) (λ m. IsFirst _ m (frame_of c.args.self.now)) c.loop-place.tried c.loop-place.invariant.0
    (before_all g.O.Outlet c.loop-place.self.parts.items (frame_of c.args.self.now) c.loop-place.place (ap (λ (f : TaskFrame). f.parts) c.loop-place.invariant.0.frame) (omega (arith, v, w)))

pub returns-clause-frame : goal.returns-clause-frame
returns-clause-frame g c = c.loop-place.invariant.0.frame

pub try_part-requires-clause-from : goal.try_part-requires-clause-from
try_part-requires-clause-from g c = λ κs w. c.loop-place.invariant.2
