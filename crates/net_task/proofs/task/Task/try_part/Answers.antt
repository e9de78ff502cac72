use Rattle.std.proofs.Common.{◌∙◌, ◌≡◌, ◌<◌, ◌+◌, List, ap, arith, inl, length, refl, subst, sym}
use Rattle.task_pads.proofs.Lists.{some_at}
use Rattle.task_pads.specs.declared.pad.Pad.{Pad}
use Rattle.task_parts.specs.declared.part.Part.{Part}
use Rattle.gst_value.proofs.Basics.{some_same}
use Rattle.net_task.specs.Failed.{at_head, memory, no_memory}
use Rattle.net_task.specs.Frame.{TaskFrame, WireAt, frame_of}
use Rattle.net_task.specs.Tries.{IsAtPort, IsFirstOf, IsOfPart}
use Rattle.net_task.proofs.Asking.{settled, settled_frame}
use Rattle.net_task.proofs.SoFar.{PadsAre, WasBelow, below_all, done_so, fails_so, first_of, has_port, idle_below, more_so, moved_so, one_below, pads_are, pads_counted, parts_within, settled_idle, settled_so, settled_then}
use Rattle.net_task.proofs.task.Task.try_part.Goals as goal
use Rattle.gst_value.proofs.Results.{handed_on, on_ok}

pub returns-then-is_err-clause-faults : goal.returns-then-is_err-clause-faults
returns-then-is_err-clause-faults g c = rw c.out_of_memory.ensures (record {
  cause = memory;
  table = refl;
  fails = λ m a. record {
    origin = at_head;
    fails = λ k. no_memory at_head (settled g.I.Inlet g.O.Outlet c.args.self.now.head c.args.self.now.parts.items c.settle.new.parts.items c.args.place c.settle.ensures.settled c.settle.ensures.shape m a, refl);
    first = inl refl;
  };
})

pub returns-then-is_err-clause-frame : goal.returns-then-is_err-clause-frame
returns-then-is_err-clause-frame g c = settled_frame g.O.Outlet c.args.self.now.head c.args.self.now.parts.items c.settle.new.parts.items c.args.place c.settle.ensures.settled c.settle.ensures.shape

pub loop-port-init : goal.loop-port-init
loop-port-init g c =
    let within = parts_within c.args.self.now.parts.items c.settle.new.parts.items c.args.place c.settle.ensures.shape (subst (λ n. c.args.place < n) c.args.self.now.parts.ok.0 c.requires.place) in
    let pads = subst (λ (ps : List (Pad g.row.O.Denot)). PadsAre c.settle.new.parts.items c.args.place (length ps)) (sym c.pads-port-end.ensures)
    (pads_counted c.settle.new.parts.items c.args.place c.index-2.result.now within c.index-2.ensures) in
    let filled = on_ok c.settle.result _ (sym c.is_err.ensures.value ∙ c.if-is_err.false) c.settle.ensures.all in
    let here = some_at c.settle.new.parts.items c.args.place c.index.result.now within c.index.ensures in
    let idle = c.first_waiting-first.ensures.idle in (
      settled_so _ c.args.self.now _ c.args.place (WasBelow (frame_of c.args.self.now) c.args.place c.first_waiting-first.result) refl c.settle.ensures.settled c.settle.ensures.shape c.requires.ready
          (λ m a. idle_below g.I.Inlet g.O.Outlet m c.args.self.now.head c.settle.new.parts.items (frame_of c.args.self.now) c.args.place c.first_waiting-first.result c.index.result.now
          (settled_frame g.O.Outlet c.args.self.now.head c.args.self.now.parts.items c.settle.new.parts.items c.args.place c.settle.ensures.settled c.settle.ensures.shape)
          here (filled c.index.result.now here) idle a),
      pads,
      filled,
      omega arith,
      (let same : pads.part ≡ c.index.result.now = some_same (sym pads.at ∙ here) in
          let most = c.first_waiting-first.ensures.within in
          let count = ap (λ (x : Part g.row.E.Denot g.row.O.Denot _). length x.pads.items) same in
          let many = pads.many in
          omega (arith, most, count, many)),
    )

pub try_pad-requires-clause-at : goal.try_pad-requires-clause-at
try_pad-requires-clause-at g c = λ κs w. has_port c.loop-port.self.parts.items c.args.place _ c.loop-port.port c.loop-port.invariant.1 c.loop-port-test.true

pub returns-in_err-try_pad-clause-faults : goal.returns-in_err-try_pad-clause-faults
returns-in_err-try_pad-clause-faults g c = handed_on c.from_residual.result c.in_err-try_pad.field-0.0 _ c.from_residual.ensures.1
    (fails_so _ _ _ c.args.self.now c.loop-port.self c.try_pad.new.self (WasBelow (frame_of c.args.self.now) c.args.place c.loop-port.port) (λ m. IsAtPort (frame_of c.loop-port.self) c.args.place c.loop-port.port) (λ m. IsFirstOf _ m (frame_of c.args.self.now) c.args.place)
    c.loop-port.tried c.in_err-try_pad.field-0.0 c.loop-port.invariant.0 c.in_err-try_pad.ensures.faults
    (λ m t p w. first_of _ (frame_of c.args.self.now) (frame_of c.loop-port.self) m c.args.place c.loop-port.port c.loop-port.tried c.loop-port.invariant.0.frame t p w))

pub returns-in_err-try_pad-clause-frame : goal.returns-in_err-try_pad-clause-frame
returns-in_err-try_pad-clause-frame g c = c.try_pad.ensures.frame ∙ c.loop-port.invariant.0.frame

pub returns-in-Moved-clause-tries : goal.returns-in-Moved-clause-tries
returns-in-Moved-clause-tries g c =
    moved_so _ _ _ c.args.self.now c.loop-port.self c.try_pad.new.self (WasBelow (frame_of c.args.self.now) c.args.place c.loop-port.port) (WireAt (frame_of c.loop-port.self) c.args.place c.loop-port.port) (IsOfPart (frame_of c.args.self.now) c.args.place)
    (λ m. IsAtPort (frame_of c.loop-port.self) c.args.place c.loop-port.port) (λ m. IsFirstOf _ m (frame_of c.args.self.now) c.args.place)
    c.loop-port.tried c.in_ok-try_pad.field-0 c.with_next-tried.result c.loop-port.invariant.0 c.in_ok-try_pad.ensures.tries c.with_next-tried.ensures c.in-Moved.is
    (λ m t p w. first_of _ (frame_of c.args.self.now) (frame_of c.loop-port.self) m c.args.place c.loop-port.port c.loop-port.tried c.loop-port.invariant.0.frame t p w)

pub returns-in-Moved-clause-frame : goal.returns-in-Moved-clause-frame
returns-in-Moved-clause-frame g c = c.try_pad.ensures.frame ∙ c.loop-port.invariant.0.frame

pub loop-port-preserved : goal.loop-port-preserved
loop-port-preserved g c = (
  more_so _ _ _ c.args.self.now c.loop-port.self c.try_pad.new.self (WasBelow (frame_of c.args.self.now) c.args.place c.loop-port.port) (WireAt (frame_of c.loop-port.self) c.args.place c.loop-port.port) (WasBelow (frame_of c.args.self.now) c.args.place (c.loop-port.port + 1))
      (λ m. IsAtPort (frame_of c.loop-port.self) c.args.place c.loop-port.port) c.loop-port.tried c.in_ok-try_pad.field-0 c.with_next-tried.result c.loop-port.invariant.0 c.in_ok-try_pad.ensures.tries c.try_pad.ensures.frame c.try_pad.ensures.head
      c.with_next-tried.ensures c.in_default.not-Moved (one_below (frame_of c.args.self.now) (frame_of c.loop-port.self) c.args.place c.loop-port.port c.loop-port.invariant.0.frame),
  pads_are g.O.Outlet c.loop-port.self.parts.items c.try_pad.new.self.parts.items c.args.place _ (ap (λ (f : TaskFrame). f.parts) c.try_pad.ensures.frame) c.loop-port.invariant.1,
  settled_then c.try_pad.new.self.parts.items c.args.place c.loop-port.tried c.in_ok-try_pad.field-0 c.with_next-tried.result c.with_next-tried.ensures c.in_default.not-Moved c.in_ok-try_pad.ensures.settled,
  (let v = c.try_pad.ensures.from in let w = c.loop-port.invariant.3 in omega (arith, v, w)),
  (let more = c.loop-port-test.true in omega (arith, more)),
)

pub returns-clause-tries : goal.returns-clause-tries
returns-clause-tries g c =
    let v = c.loop-port-test.false in
    let w = c.loop-port.invariant.4 in
    done_so _ _ c.args.self.now c.loop-port.self (WasBelow (frame_of c.args.self.now) c.args.place c.loop-port.port) (IsOfPart (frame_of c.args.self.now) c.args.place) (λ m. IsFirstOf _ m (frame_of c.args.self.now) c.args.place) c.loop-port.tried c.loop-port.invariant.0
    (λ wire z. subst (λ n. WasBelow (frame_of c.args.self.now) c.args.place n wire) (omega (arith, v, w)) (below_all g.O.Outlet c.loop-port.self.parts.items (frame_of c.args.self.now) c.args.place _ (ap (λ (f : TaskFrame). f.parts) c.loop-port.invariant.0.frame) c.loop-port.invariant.1 wire z))

pub returns-clause-frame : goal.returns-clause-frame
returns-clause-frame g c = c.loop-port.invariant.0.frame

pub invariant_of-self-clause-idle : goal.invariant_of-self-clause-idle
invariant_of-self-clause-idle g c = settled_idle c.args.self.now.from c.args.place c.args.self.now.parts.items c.settle.new.parts.items c.requires.from c.settle.ensures.settled c.args.self.now.idle

pub try_pad-requires-clause-from : goal.try_pad-requires-clause-from
try_pad-requires-clause-from g c = λ κs w. let v = c.requires.from in let z = c.loop-port.invariant.3 in omega (arith, v, z)

pub returns-in_err-try_pad-clause-from : goal.returns-in_err-try_pad-clause-from
returns-in_err-try_pad-clause-from g c = let v = c.try_pad.ensures.from in let w = c.loop-port.invariant.3 in omega (arith, v, w)

pub returns-in-Moved-clause-from : goal.returns-in-Moved-clause-from
returns-in-Moved-clause-from g c = let v = c.try_pad.ensures.from in let w = c.loop-port.invariant.3 in omega (arith, v, w)

pub returns-clause-from : goal.returns-clause-from
returns-clause-from g c = c.loop-port.invariant.3
