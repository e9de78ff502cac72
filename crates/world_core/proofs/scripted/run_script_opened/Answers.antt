use Rattle.std.proofs.Common.{◌∙◌, List, Some, ap, refl, subst}
use Rattle.graph_core.specs.Elements.{Made}
use Rattle.graph_parts.specs.Filled.{AreFilled}
use Rattle.graph_tasks.specs.Planned.{planned}
use Rattle.lane_core.specs.Lane.{Lane}
use Rattle.world_core.proofs.ScriptBegun.{begins_so, script_there}
use Rattle.world_core.proofs.scripted.run_script_opened.Goals as goal

pub fill-elements-requires-clause-blanks : goal.fill-elements-requires-clause-blanks
fill-elements-requires-clause-blanks g c κs within = rw (c.elements.ensures, c.requires.prepared.5.edited.elements) c.requires.prepared.4.blanks_are

pub into_tasks-tasks-requires-clause-there : goal.into_tasks-tasks-requires-clause-there
into_tasks-tasks-requires-clause-there g c κs within =
    script_there _ _ _ _ g.S.Source g.K.Sink c.requires.prepared.0 c.requires.prepared.2 (planned c.args.prepared.plan) c.args.prepared.control.lanes c.requires.prepared.3 c.args.ends.items
    c.requires.prepared.6.0 c.requires.prepared.6.1 c.requires.prepared.6.2 c.fill-elements.result.elements.items c.fill-elements.result.sources.items c.fill-elements.result.left.items
    (subst (λ (made : List Made). AreFilled g.S.Source g.K.Sink made c.args.ends.items c.fill-elements.result.elements.items c.fill-elements.result.sources.items c.fill-elements.result.left.items)
    (c.elements.ensures ∙ c.requires.prepared.5.edited.elements) c.fill-elements.ensures)
    record { ports = λ x. refl; stands = λ x behavior took is. is; count = λ x. refl; gave = λ x owed given is. is }

pub new-run-requires-clause-unanswered : goal.new-run-requires-clause-unanswered
new-run-requires-clause-unanswered g c κs within = c.requires.prepared.5.unanswered

pub new-run-requires-clause-room : goal.new-run-requires-clause-room
new-run-requires-clause-room g c κs within = c.requires.prepared.5.room

pub run_to_end-requires-clause-begun : goal.run_to_end-requires-clause-begun
run_to_end-requires-clause-begun g c κs within = (
  c.requires.prepared.0,
  c.requires.prepared.1,
  c.requires.prepared.6.0,
  begins_so _ _ _ _ g.S.Source g.K.Sink c.requires.prepared.0 c.requires.prepared.2 (planned c.args.prepared.plan) c.args.prepared.control.lanes c.requires.prepared.3 c.args.ends.items
      c.requires.prepared.6.0 c.requires.prepared.6.1 c.requires.prepared.6.2 c.fill-elements.result.elements.items c.fill-elements.result.sources.items c.fill-elements.result.left.items
      (subst (λ (made : List Made). AreFilled g.S.Source g.K.Sink made c.args.ends.items c.fill-elements.result.elements.items c.fill-elements.result.sources.items c.fill-elements.result.left.items)
      (c.elements.ensures ∙ c.requires.prepared.5.edited.elements) c.fill-elements.ensures)
      (record { ports = λ x. refl; stands = λ x behavior took is. is; count = λ x. refl; gave = λ x owed given is. is }) c.runs_begin.ensures c.requires.prepared.1 c.args.prepared.control c.requires.prepared.5
      c.into_tasks-tasks.result.items c.into_tasks-tasks.ensures.tasks c.new-run.result (ap (λ tasks. tasks.items) c.new-run.ensures.tasks.0) (ap (λ (lanes : List Lane). Some lanes) c.new-run.ensures.tasks.2)
      c.new-run.ensures.control.0 c.new-run.ensures.control.1 c.new-run.ensures.script.0 c.new-run.ensures.script.1 c.new-run.ensures.probes c.new-run.ensures.unasked c.new-run.ensures.notes.0 c.into_tasks-tasks.new.elements.items
      c.into_tasks-tasks.ensures.elements_left,
  c.requires.prepared.4.room,
)

pub returns-clause-ended : goal.returns-clause-ended
returns-clause-ended g c = λ graph script built planned_are control before after opens.
    c.run_to_end.ensures.ended graph script before
    (begins_so _ _ _ _ g.S.Source g.K.Sink graph built (planned c.args.prepared.plan) c.args.prepared.control.lanes planned_are c.args.ends.items before after opens
    c.fill-elements.result.elements.items c.fill-elements.result.sources.items c.fill-elements.result.left.items
    (subst (λ (made : List Made). AreFilled g.S.Source g.K.Sink made c.args.ends.items c.fill-elements.result.elements.items c.fill-elements.result.sources.items c.fill-elements.result.left.items)
    (c.elements.ensures ∙ control.edited.elements) c.fill-elements.ensures)
    (record { ports = λ x. refl; stands = λ x behavior took is. is; count = λ x. refl; gave = λ x owed given is. is }) c.runs_begin.ensures script c.args.prepared.control control
    c.into_tasks-tasks.result.items c.into_tasks-tasks.ensures.tasks c.new-run.result (ap (λ tasks. tasks.items) c.new-run.ensures.tasks.0) (ap (λ (lanes : List Lane). Some lanes) c.new-run.ensures.tasks.2)
    c.new-run.ensures.control.0 c.new-run.ensures.control.1 c.new-run.ensures.script.0 c.new-run.ensures.script.1 c.new-run.ensures.probes c.new-run.ensures.unasked c.new-run.ensures.notes.0 c.into_tasks-tasks.new.elements.items
    c.into_tasks-tasks.ensures.elements_left)

pub returns-clause-located : goal.returns-clause-located
returns-clause-located g c = λ graph script built planned_are control before after opens.
    c.run_to_end.ensures.located graph script before
    (begins_so _ _ _ _ g.S.Source g.K.Sink graph built (planned c.args.prepared.plan) c.args.prepared.control.lanes planned_are c.args.ends.items before after opens
    c.fill-elements.result.elements.items c.fill-elements.result.sources.items c.fill-elements.result.left.items
    (subst (λ (made : List Made). AreFilled g.S.Source g.K.Sink made c.args.ends.items c.fill-elements.result.elements.items c.fill-elements.result.sources.items c.fill-elements.result.left.items)
    (c.elements.ensures ∙ control.edited.elements) c.fill-elements.ensures)
    (record { ports = λ x. refl; stands = λ x behavior took is. is; count = λ x. refl; gave = λ x owed given is. is }) c.runs_begin.ensures script c.args.prepared.control control
    c.into_tasks-tasks.result.items c.into_tasks-tasks.ensures.tasks c.new-run.result (ap (λ tasks. tasks.items) c.new-run.ensures.tasks.0) (ap (λ (lanes : List Lane). Some lanes) c.new-run.ensures.tasks.2)
    c.new-run.ensures.control.0 c.new-run.ensures.control.1 c.new-run.ensures.script.0 c.new-run.ensures.script.1 c.new-run.ensures.probes c.new-run.ensures.unasked c.new-run.ensures.notes.0 c.into_tasks-tasks.new.elements.items
    c.into_tasks-tasks.ensures.elements_left)
