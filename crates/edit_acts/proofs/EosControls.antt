-- The link of a source pad is undone with EOS in all that control has of a run.
use Rattle.std.proofs.Common.{◌≡◌, ℕ, true, List, Option, length, subst, sym, ap, ◌∙◌}
use Rattle.lane_core.specs.Lane.{Lane}
use Rattle.lane_core.specs.declared.ends.Inlet as inlets
use Rattle.lane_core.specs.declared.ends.Outlet as outlets
use Rattle.net_edits.specs.Inside.{NotEnded}
use Rattle.net_edits.specs.Over.{AreKept}
use Rattle.net_edits.specs.declared.inside.EditFault.TheVariants as faults
use Rattle.flow_model.specs.Moment.{Moment}
use Rattle.flow_model.specs.declared.element.TaskElement as elements
use Rattle.flow_model.specs.declared.source.TaskSource as sources
use Rattle.net_task.specs.declared.task.Task.{Task}
use Rattle.net_turns.specs.Net.{NetStands}
use Rattle.net_turns.specs.declared.net.Stopped.{Stopped}
use Rattle.graph_core.specs.GraphPlan.{pad_id}
use Rattle.graph_edits.specs.Graph.{IsEdited}
use Rattle.graph_edits.specs.declared.graph.EditedGraph.{EditedGraph}
use Rattle.graph_pads.specs.declared.pad.PadPlace.{PadPlace}
use Rattle.graph_edits.specs.Edited.{Edited, unlinked_at}
use Rattle.edit_core.specs.Feeds.{AreFeeds}
use Rattle.edit_core.specs.Ways.{IsRun}
use Rattle.edit_core.specs.declared.feeds.Feeds.{Feeds}
use Rattle.edit_acts.specs.Controlled.{IsControlled, IsToUnlink}
use Rattle.edit_acts.specs.Ending.{EndsAt, IsRunEnded}
use Rattle.edit_acts.specs.Undoing.{IsRunWith}
use Rattle.edit_acts.specs.Unlinked.{EndsShort, IsEnded}
use Rattle.edit_acts.proofs.Controls.{ends_same, is_unlinked, items_is, run_with}
use Rattle.edit_acts.proofs.MoreRoom.{stays_controlled}

module _ {S E I O L : Type 0} {s : sources.Ghosts S} {e : elements.Ghosts E} {i : inlets.Ghosts I L O} {o : outlets.Ghosts O L} (graph : EditedGraph) (feeds : Feeds) (tasks : List (Task S E I O L s e i o))
    (g : Edited) (m : Moment) (tells : Option (List Lane)) (source sink : PadPlace) (items : ℕ) (w : IsToUnlink graph feeds tasks g m tells source sink true items) (pad : ℕ) (number : pad ≡ pad_id source) where
  -- the pad is one of the run, also once there is room
  pub roomy_with : (roomy : List (Task S E I O L s e i o)) → roomy ≡ tasks → IsRunWith g m roomy tells pad source
  roomy_with roomy same =
      subst (λ (ts : List (Task S E I O L s e i o)). IsRunWith g m ts tells pad source) (sym same)
      (subst (λ (p : ℕ). IsRunWith g m tasks tells p source) (sym number) (run_with graph feeds tasks g m tells source sink true items w))

  pub crossed : items ≡ length (m.history pad)
  crossed = items_is graph feeds tasks g m tells source sink true items w ∙ ap (λ (p : ℕ). length (m.history p)) (sym number)

  -- the tasks have the run in which it was undone, and so has control
  pub is_ended : (graph' : EditedGraph) (feeds' : Feeds) (tasks' : List (Task S E I O L s e i o)) → IsEdited graph' (unlinked_at source items true g) → AreFeeds feeds' (unlinked_at source items true g) m.history
      → IsRunEnded g m tasks' tells pad source → IsEnded graph' feeds' tasks' g m tells source items
  is_ended graph' feeds' tasks' edited kept ran =
      let ends : EndsAt m (pad_id source) ran.now = subst (λ (p : ℕ). EndsAt m p ran.now) number ran.ends in
      let run : IsRun (unlinked_at source (length (m.history (pad_id source))) true g) ran.now tasks' tells =
      subst (λ (p : ℕ). IsRun (unlinked_at source (length (m.history p)) true g) ran.now tasks' tells) number ran.run in
      let same = ends_same m (pad_id source) ran.now ends in
      record { now = ran.now; ends = ends; controlled = is_unlinked graph feeds tasks g m tells source sink true items w ran.now same.0 same.1 graph' feeds' tasks' edited kept run }

  -- the element behind the pad refused EOS
  pub ends_short : (graph' : EditedGraph) (feeds' : Feeds) (roomy tasks' : List (Task S E I O L s e i o)) (stopped : Stopped) → roomy ≡ tasks → NotEnded roomy tasks' pad (faults.Failed stopped)
      → IsEdited graph' (unlinked_at source items true g) → AreFeeds feeds' (unlinked_at source items true g) m.history → EndsShort graph' feeds' tasks tasks' g m source items stopped
  ends_short graph' feeds' roomy tasks' stopped same short edited kept = record {
    short = subst (λ (ts : List (Task S E I O L s e i o)). NotEnded ts tasks' (pad_id source) (faults.Failed stopped)) same
        (subst (λ (p : ℕ). NotEnded roomy tasks' p (faults.Failed stopped)) number short);
    edited = edited;
    feeds = kept;
  }

-- memory was wanting: control has the run as it was
pub wanting : {S E I O L : Type 0} {s : sources.Ghosts S} {e : elements.Ghosts E} {i : inlets.Ghosts I L O} {o : outlets.Ghosts O L} (graph : EditedGraph) (feeds : Feeds) (tasks roomy tasks' : List (Task S E I O L s e i o)) → roomy ≡ tasks → AreKept roomy tasks'
    → ((m : Moment) (tells : Option (List Lane)) → NetStands m roomy tells → NetStands m tasks' tells)
    → (g : Edited) (m : Moment) (tells : Option (List Lane)) → IsControlled graph feeds tasks g m tells → IsControlled graph feeds tasks' g m tells
wanting {S} {E} {I} {O} {L} {s} {e} {i} {o} graph feeds tasks roomy tasks' same kept stands g m tells w =
    let now : IsControlled graph feeds roomy g m tells = subst (λ (ts : List (Task S E I O L s e i o)). IsControlled graph feeds ts g m tells) (sym same) w in
    stays_controlled graph feeds roomy tasks' g m tells kept (stands m tells now.current.net) now
