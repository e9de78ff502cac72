use Rattle.std.proofs.Common.{sym, ap, ◌∙◌}
use Rattle.graph_tasks.specs.Plan.{without}
use Rattle.graph_tasks.specs.Wired.{source_in}
use Rattle.graph_tasks.proofs.Takes.{without_none}
use Rattle.graph_tasks.proofs.making.head_from.Goals as goal

pub returns-in-Inlets-clause-left : goal.returns-in-Inlets-clause-left
returns-in-Inlets-clause-left g c = sym (without_none c.args.sources.now.items) ∙ ap (λ head. without (source_in head) c.args.sources.now.items) (sym c.in-Inlets.is)
