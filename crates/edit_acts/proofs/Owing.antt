-- At a moment at which tasks stand EOS is the last item that is owed to a source pad, and nothing is flushed.
use Rattle.std.proofs.Common.{◌≡◌, ℕ, List, Option, sym, ap, ◌∙◌, subst, refl}
use Rattle.gst_item.specs.Sticky.{has_flush_stop}
use Rattle.flow_model.proofs.Prefixes.{prefix_append}
use Rattle.lane_core.specs.Lane.{Lane}
use Rattle.lane_core.specs.declared.ends.Inlet as inlets
use Rattle.lane_core.specs.declared.ends.Outlet as outlets
use Rattle.flow_model.specs.Moment.{Moment, owed_at}
use Rattle.flow_model.specs.Pad.{Holds}
use Rattle.flow_model.specs.declared.element.TaskElement as elements
use Rattle.flow_model.specs.declared.source.TaskSource as sources
use Rattle.net_task.specs.declared.task.Task.{Task}
use Rattle.net_turns.specs.Net.{NetStands}
use Rattle.graph_edits.specs.Ended.{OwesToEos}
use Rattle.edit_core.specs.Judging.{owed_then}

module _ {S E I O L : Type 0} {s : sources.Ghosts S} {e : elements.Ghosts E} {i : inlets.Ghosts I L O} {o : outlets.Ghosts O L} (m : Moment) (tasks : List (Task S E I O L s e i o)) (tells : Option (List Lane))
    (net : NetStands m tasks tells) where
  pub owed_is : (p : ℕ) → owed_at m p 0 ≡ owed_then m p
  owed_is p = subst (λ (cuts : List (ℕ × ℕ)). Holds 0 0 cuts (owed_at m p) (m.history p) (m.waits p)) (net.plain.uncut p) ((net.cells (m.plan.owner p)).pads p refl)

  pub owes : OwesToEos m.history (owed_then m)
  owes = record {
    crossed = λ p. prefix_append (m.history p) (m.waits p);
    unflushed = λ p. ap has_flush_stop (sym (owed_is p)) ∙ net.plain.calm (m.plan.owner p) (m.plan.port p) (m.took (m.plan.owner p));
    open_before = λ p front last is. net.plain.closed (m.plan.owner p) (m.plan.port p) (m.took (m.plan.owner p)) front last (owed_is p ∙ is);
  }
