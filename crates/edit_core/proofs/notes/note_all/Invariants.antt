use Rattle.std.proofs.Common.{take}
use Rattle.flow_model.specs.Moment.{Moment}
use Rattle.graph_edits.specs.Edited.{Edited}
use Rattle.edit_core.specs.Notes.{IsCurrent}
use Rattle.edit_core.proofs.Passing.{AreNotedIn}
use Rattle.edit_core.proofs.notes.note_all.Given as goal

-- the elements so far are noted
abbrev pub invariant-loop-element : goal.invariant-loop-element
invariant-loop-element g l = (e : Edited) (m : Moment) (tells : _) → IsCurrent l.fn.graph l.fn.feeds l.fn.tasks e m tells → AreNotedIn e m.history l.fn.start l.notes.items (take l.element-index l.order)
