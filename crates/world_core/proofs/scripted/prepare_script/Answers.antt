use Rattle.std.proofs.Common.{[], arith, sym}
use Rattle.graph_core.specs.Graph.{made as made_in, links as links_in}
use Rattle.graph_core.proofs.LinkedOnce.{linked_once}
use Rattle.world_core.proofs.scripted.prepare_script.Goals as goal

pub returns-clause-planned : goal.returns-clause-planned
returns-clause-planned g c =
    let wired = c.in_ok-tasks.ensures c.requires.built.sound (linked_once c.requires.built.tree c.args.graph c.requires.built.line) in
    record { bags = wired.bags; bags_are = wired.are; wired = rw c.in_ok-plan.ensures wired.tasks }

pub returns-clause-reserved : goal.returns-clause-reserved
returns-clause-reserved g c =
    record { room = c.in_ok-counts.ensures; blanks_are = c.in_ok-blanks.ensures; openings_are = c.in_ok-openings.ensures }

pub returns-clause-control : goal.returns-clause-control
returns-clause-control g c = record {
  edited = c.in_ok-graph.ensures.edited;
  feeds = c.in_ok-feeds.ensures (made_in c.args.graph) (links_in c.args.graph) (λ p. []) (sym c.count.ensures.count);
  script_is = c.into_vec-script.ensures;
  probes = rw (← c.into_vec-script.ensures, ← c.as_slice.ensures.value) c.in_ok-probes.ensures;
  unanswered = c.in_ok-entries.ensures.items;
  room = omega (arith, c.in_ok-entries.ensures.capacity, c.len.ensures);
}
