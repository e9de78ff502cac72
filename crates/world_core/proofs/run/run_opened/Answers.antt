use Rattle.std.proofs.Common.{refl}
use Rattle.graph_tasks.specs.Planned.{planned}
use Rattle.world_core.proofs.Beginning.{all_there, as_many, begins}
use Rattle.world_core.proofs.run.run_opened.Goals as goal

pub fill-elements-requires-clause-blanks : goal.fill-elements-requires-clause-blanks
fill-elements-requires-clause-blanks g c κs within = rw c.elements.ensures c.requires.reserved.blanks_are

pub into_tasks-tasks-requires-clause-there : goal.into_tasks-tasks-requires-clause-there
into_tasks-tasks-requires-clause-there g c κs within =
    all_there _ _ _ _ g.S.Source g.K.Sink c.args.graph.now c.requires.built (planned c.args.prepared.plan) c.args.prepared.lanes c.requires.planned
    c.args.ends.items c.requires.opened.0 c.requires.opened.1 c.requires.opened.2 c.fill-elements.result.elements.items c.fill-elements.result.sources.items
    c.fill-elements.result.left.items (rw (← c.elements.ensures) c.fill-elements.ensures)
    record { ports = λ x. refl; stands = λ x behavior took is. is; count = λ x. refl; gave = λ x owed given is. is }

pub run_made-requires-clause-started : goal.run_made-requires-clause-started
run_made-requires-clause-started g c κs within = (
  c.requires.opened.0,
  begins _ _ _ _ g.S.Source g.K.Sink c.args.graph.now c.requires.built (planned c.args.prepared.plan) c.args.prepared.lanes c.requires.planned
      c.args.ends.items c.requires.opened.0 c.requires.opened.1 c.requires.opened.2 c.fill-elements.result.elements.items c.fill-elements.result.sources.items
      c.fill-elements.result.left.items (rw (← c.elements.ensures) c.fill-elements.ensures) c.into_tasks-tasks.result.items c.into_tasks-tasks.new.elements.items _
      c.into_tasks-tasks.ensures.tasks c.into_tasks-tasks.ensures.elements_left refl,
)

pub run_made-requires-clause-steps : goal.run_made-requires-clause-steps
run_made-requires-clause-steps g c κs within =
    as_many _ _ c.args.graph.now (planned c.args.prepared.plan) c.args.prepared.lanes c.requires.planned
    c.fill-elements.result.elements.items c.fill-elements.result.sources.items c.into_tasks-tasks.result.items c.into_tasks-tasks.ensures.tasks
    c.args.prepared.steps.items c.requires.steps

pub returns-clause-ended : goal.returns-clause-ended
returns-clause-ended g c =
    λ before after opens.
    c.run_made.ensures.ended before
    (begins _ _ _ _ g.S.Source g.K.Sink c.args.graph.now c.requires.built (planned c.args.prepared.plan) c.args.prepared.lanes c.requires.planned
    c.args.ends.items before after opens c.fill-elements.result.elements.items c.fill-elements.result.sources.items c.fill-elements.result.left.items
    (rw (← c.elements.ensures) c.fill-elements.ensures) c.into_tasks-tasks.result.items c.into_tasks-tasks.new.elements.items _ c.into_tasks-tasks.ensures.tasks
    c.into_tasks-tasks.ensures.elements_left refl)

pub returns-clause-located : goal.returns-clause-located
returns-clause-located g c =
    λ before after opens.
    c.run_made.ensures.located before
    (begins _ _ _ _ g.S.Source g.K.Sink c.args.graph.now c.requires.built (planned c.args.prepared.plan) c.args.prepared.lanes c.requires.planned
    c.args.ends.items before after opens c.fill-elements.result.elements.items c.fill-elements.result.sources.items c.fill-elements.result.left.items
    (rw (← c.elements.ensures) c.fill-elements.ensures) c.into_tasks-tasks.result.items c.into_tasks-tasks.new.elements.items _ c.into_tasks-tasks.ensures.tasks
    c.into_tasks-tasks.ensures.elements_left refl)

pub returns-clause-turned : goal.returns-clause-turned
returns-clause-turned g c =
    λ before after opens.
    c.run_made.ensures.turned before
    (begins _ _ _ _ g.S.Source g.K.Sink c.args.graph.now c.requires.built (planned c.args.prepared.plan) c.args.prepared.lanes c.requires.planned
    c.args.ends.items before after opens c.fill-elements.result.elements.items c.fill-elements.result.sources.items c.fill-elements.result.left.items
    (rw (← c.elements.ensures) c.fill-elements.ensures) c.into_tasks-tasks.result.items c.into_tasks-tasks.new.elements.items _ c.into_tasks-tasks.ensures.tasks
    c.into_tasks-tasks.ensures.elements_left refl)
