use Rattle.std.proofs.Common.{List, refl, subst, sym, ◌∙◌}
use Rattle.net_task.specs.declared.task.Task.{Task}
use Rattle.net_edits.specs.Inside.{HasInside}
use Rattle.edit_acts.specs.Undoing.{LeadsNoneInside}
use Rattle.edit_acts.proofs.undoing.room_to_undo.Goals as goal

pub returns-in_ok-room_to_split-in-Some-clause-room : goal.returns-in_ok-room_to_split-in-Some-clause-room
returns-in_ok-room_to_split-in-Some-clause-room g c = record {
  place = c.in-Some.ensures.leads.0;
  sink = c.in-Some.to.pad;
  leads = subst (λ (ts : List (Task _ _ _ _ _ _ _ _ _)). HasInside ts c.args.pad c.in-Some.ensures.leads.0 c.in-Some.to) (c.as_slice.ensures.value ∙ sym c.in_ok-room_to_split-in-Some.ensures.items) c.in-Some.ensures.leads.1;
  split = c.in_ok-room_to_split-in-Some.ensures.room;
  row = c.in_ok-room_to_split-in-Some.ensures.pads;
}

pub returns-in-None-clause-room : goal.returns-in-None-clause-room
returns-in-None-clause-room g c = subst (λ (ts : List (Task _ _ _ _ _ _ _ _ _)). LeadsNoneInside ts c.args.pad) c.as_slice.ensures.value (c.in-None.ensures.none refl)
