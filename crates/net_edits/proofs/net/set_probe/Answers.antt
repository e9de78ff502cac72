use Rattle.std.proofs.Common.{List, refl, subst}
use Rattle.net_task.specs.declared.task.Task.{Task}
use Rattle.net_edits.specs.Nets.{NoneHas, TaskHas}
use Rattle.net_edits.proofs.Acts.{left_set, probed_stands, probed_ready, size_set}
use Rattle.net_edits.proofs.net.set_probe.Goals as goal

pub returns-in-Some-clause-stands : goal.returns-in-Some-clause-stands
returns-in-Some-clause-stands g c = λ m tells stands.
    probed_stands c.args.tasks.now.items c.probe_at.new.tasks.items c.in-Some.place c.args.pad c.args.probe
    (subst (λ (ts : List (Task _ _ _ _ _ _ _ _ _)). TaskHas ts c.args.pad c.in-Some.place) c.as_slice.ensures.value c.in-Some.ensures.there) c.probe_at.ensures m tells stands

pub returns-in-Some-clause-ready : goal.returns-in-Some-clause-ready
returns-in-Some-clause-ready g c = λ tells ready. probed_ready c.args.tasks.now.items c.probe_at.new.tasks.items c.in-Some.place c.args.pad c.args.probe c.probe_at.ensures tells ready

pub returns-in-Some-clause-moves : goal.returns-in-Some-clause-moves
returns-in-Some-clause-moves g c = left_set c.args.tasks.now.items c.probe_at.new.tasks.items c.in-Some.place c.args.pad _ _ c.probe_at.ensures.at c.probe_at.ensures.set c.probe_at.ensures.moves

pub returns-in-Some-clause-count : goal.returns-in-Some-clause-count
returns-in-Some-clause-count g c = size_set c.args.tasks.now.items c.probe_at.new.tasks.items c.in-Some.place c.args.pad _ c.probe_at.ensures.set

pub returns-in-Some-clause-probed : goal.returns-in-Some-clause-probed
returns-in-Some-clause-probed g c = λ done. (c.in-Some.place, subst (λ (ts : List (Task _ _ _ _ _ _ _ _ _)). TaskHas ts c.args.pad c.in-Some.place) c.as_slice.ensures.value c.in-Some.ensures.there, c.probe_at.ensures)

pub returns-in-None-clause-none : goal.returns-in-None-clause-none
returns-in-None-clause-none g c = λ none. (subst (λ (ts : List (Task _ _ _ _ _ _ _ _ _)). NoneHas ts c.args.pad) c.as_slice.ensures.value (c.in-None.ensures.none refl), refl)
