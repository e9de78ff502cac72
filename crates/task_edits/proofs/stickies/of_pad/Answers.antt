use Rattle.std.proofs.lemmas.Result.{IfOk-weaker}
use Rattle.task_edits.proofs.StickyLists.{sticky_all}
use Rattle.task_edits.proofs.stickies.of_pad.Goals as goal

pub returns-in-Ok-clause-all : goal.returns-in-Ok-clause-all
returns-in-Ok-clause-all g c = IfOk-weaker c.as_items.result _ _ (λ items all h crossed. sticky_all h c.in-Ok.events items (c.in-Ok.ensures h crossed) all) c.as_items.ensures.all
