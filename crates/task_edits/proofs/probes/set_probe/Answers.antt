use Rattle.std.proofs.Common.{ap, refl}
use Rattle.task_edits.specs.Changes.{ProbedBy}
use Rattle.task_edits.proofs.Acts.{changed_as, changed_left, probe_closed, probe_ready, probe_tied}
use Rattle.task_edits.proofs.probes.set_probe.Goals as goal

pub new-requires-clause-closed : goal.new-requires-clause-closed
new-requires-clause-closed g c κs within =
    probe_closed c.args.task.head c.probe_in.new.head c.args.task.parts.items c.probe_in.new.parts.items c.args.probe c.args.pad
    (changed_as (ProbedBy c.args.probe) (Unit {0}) c.args.pad c.args.task.head _ _ c.probe_in.new.head c.args.task.parts.items _ _ c.probe_in.new.parts.items c.into_parts-head.ensures.head (ap (λ (v : _). v.items) c.into_parts-head.ensures.parts) refl refl c.probe_in.ensures)
    c.args.task.closed

pub returns-clause-changed : goal.returns-clause-changed
returns-clause-changed g c =
    changed_as (ProbedBy c.args.probe) (Unit {0}) c.args.pad c.args.task.head _ _ c.new.result.head c.args.task.parts.items _ _ c.new.result.parts.items c.into_parts-head.ensures.head (ap (λ (v : _). v.items) c.into_parts-head.ensures.parts) c.new.ensures.head
    (ap (λ (v : _). v.items) c.new.ensures.parts) c.probe_in.ensures

pub returns-clause-ties : goal.returns-clause-ties
returns-clause-ties g c = λ m t.
    probe_tied g.I.Inlet g.O.Outlet c.args.task.head c.new.result.head c.args.task.parts.items c.new.result.parts.items c.args.probe c.args.pad (returns-clause-changed g c) m t

pub returns-clause-ready : goal.returns-clause-ready
returns-clause-ready g c = λ tells r.
    probe_ready g.I.Inlet g.O.Outlet tells c.args.task.head c.new.result.head c.args.task.parts.items c.new.result.parts.items c.args.probe c.args.pad (returns-clause-changed g c) r

pub returns-clause-moves : goal.returns-clause-moves
returns-clause-moves g c =
    changed_left g.I.Inlet c.args.task.head c.new.result.head c.args.task.parts.items c.new.result.parts.items (ProbedBy c.args.probe) (Unit {0}) c.args.pad (λ was is by. by.counted) (returns-clause-changed g c)
