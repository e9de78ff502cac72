use Rattle.std.proofs.Common.{◌∙◌, List, subst, sym}
use Rattle.net_edits.specs.Seeing.{SeesPad}
use Rattle.net_task.specs.declared.task.Task.{Task}
use Rattle.world_core.proofs.Watched.{still_waits}
use Rattle.world_core.proofs.running.Running.is_waiting.Goals as goal

pub returns-in-At : goal.returns-in-At
returns-in-At g c = λ is.
    still_waits c.args.self.now c.in-At.pad c.in-At.buffers c.see_pad.result c.in-At.is c.requires.watched
    (subst (λ (ts : List (Task _ _ _ _ _ _ _ _ _)). SeesPad ts c.in-At.pad c.see_pad.result) c.deref.ensures.value c.see_pad.ensures.sees) (sym c.waits_yet.ensures ∙ is)
