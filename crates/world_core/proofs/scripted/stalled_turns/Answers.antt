use Rattle.std.proofs.Common.{◌∙◌}
use Rattle.graph_core.specs.Elements.{all_made}
use Rattle.graph_edits.specs.Graph.{made}
use Rattle.world_core.proofs.ScriptEnds.{told_turns}
use Rattle.world_core.proofs.scripted.stalled_turns.Goals as goal

pub returns : goal.returns
returns g c =
    told_turns (all_made c.elements.result.now) (made c.args.ended.now.graph) c.args.ended.now.tasks.items c.deref.result.now c.args.ended.now.steps.items c.deref-2.result.now c.args.ended.now.taking
    c.min-taking.result c.len.result c.elements.ensures c.deref.ensures.value c.deref-2.ensures.value c.requires.answered c.min-taking.ensures (c.len.ensures ∙ c.args.ended.now.tasks.ok.0)
    c.stalled_tasks.result c.stalled_tasks.ensures
