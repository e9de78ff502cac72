use Rattle.graph_core.proofs.LinkedOnce.{linked_once}
use Rattle.world_core.proofs.run.prepare.Goals as goal

pub returns-clause-planned : goal.returns-clause-planned
returns-clause-planned g c =
    let wired = c.in_ok-tasks.ensures c.requires.built.sound (linked_once c.requires.built.tree c.args.graph.now c.requires.built.line) in
    record { bags = wired.bags; bags_are = wired.are; wired = rw (c.in_ok-new.ensures, c.lanes.view_is) wired.tasks }

pub returns-clause-reserved : goal.returns-clause-reserved
returns-clause-reserved g c =
    record { room = c.in_ok-counts_for.ensures; blanks_are = c.in_ok-new-2.ensures; openings_are = c.in_ok-openings_of.ensures }
