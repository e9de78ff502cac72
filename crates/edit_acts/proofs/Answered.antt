-- What is answered where two tasks were joined and a pad was to be linked then.
use Rattle.std.proofs.Common.{◌≡◌, Bool, true, false, ℕ, List, Option, Result, Ok, Err, refl}
use Rattle.std.specs.Prelude.{IfOk}
use Rattle.flow_model.specs.Item.{Item}
use Rattle.gst_item.specs.Sticky.{stickies}
use Rattle.lane_core.specs.Lane.{Lane}
use Rattle.lane_core.specs.declared.ends.Inlet as inlets
use Rattle.lane_core.specs.declared.ends.Outlet as outlets
use Rattle.flow_model.specs.Moment.{Moment}
use Rattle.flow_model.specs.declared.element.TaskElement as elements
use Rattle.flow_model.specs.declared.source.TaskSource as sources
use Rattle.net_task.specs.declared.task.Task.{Task}
use Rattle.net_turns.specs.Net.{NetStands}
use Rattle.net_turns.specs.declared.net.Stopped.{Stopped}
use Rattle.net_groups.specs.Joined.{IsJoined, IsUnfed}
use Rattle.task_edits.specs.declared.inside.Inside.{Inside}
use Rattle.net_edits.specs.Inside.{CanLinkIn, IsLinkedOpened, NoneHasBoth, StandLinked}
use Rattle.graph_pads.specs.declared.pad.PadPlace.{PadPlace}
use Rattle.graph_edits.specs.Edited.{Edited}
use Rattle.edit_core.specs.Ways.{IsRun}
use Rattle.edit_acts.specs.Linking.{GoesOnLinked, MayLinkAt}
use Rattle.edit_acts.proofs.Joinable.{both_there}
use Rattle.edit_acts.proofs.Linked.{goes_on, is_unfed}

module _ {S E I O L : Type 0} {s : sources.Ghosts S} {e : elements.Ghosts E} {i : inlets.Ghosts I L O} {o : outlets.Ghosts O L} (tasks mid tasks' : List (Task S E I O L s e i o)) (pad : ℕ) (to : Inside) (opening : List Item)
    (joined : IsJoined tasks mid pad to.element) (N : Type 0) where
  -- what is told of the link
  abbrev pub Linked : Bool → Type 0
  Linked done = done ≡ true → IsLinkedOpened mid tasks' pad to opening

  abbrev pub Unlinked : Bool → Type 0
  Unlinked done = done ≡ false → NoneHasBoth mid pad to.element × N

  abbrev pub Stood : Bool → Type 0
  Stood done = done ≡ true → (m : Moment) (tells : Option (List Lane)) → NetStands m mid tells → CanLinkIn m mid pad to → opening ≡ stickies (m.history pad) → StandLinked m tasks' tells pad to

  -- and what is told of a run
  abbrev pub Runs : Bool → Type 0
  Runs done = (g : Edited) (m : Moment) (tells : Option (List Lane)) (source sink : PadPlace) → IsRun g m tasks tells → MayLinkAt g m source sink pad to opening → (done ≡ true) × GoesOnLinked g m tasks' tells source sink

  -- the joined task has the pad and the element, so nothing else is told than that it was linked
  pub linked_not : (Why : Type 0) (result : Result Bool Stopped) → IfOk result Unlinked → IfOk result (λ done. done ≡ false → Why)
  linked_not Why (Ok done) none = λ stays. absurd (both_there tasks mid pad to.element joined (none stays).0)
  linked_not Why (Err stopped) none = tt

  module _ (stays : (m : Moment) (tells : Option (List Lane)) → NetStands m tasks tells → IsUnfed tasks to.element → NetStands m mid tells) where
    runs : (done : Bool) → Linked done → Unlinked done → Stood done → Runs done
    runs true linked none stood g m tells source sink run at = (
      refl,
      goes_on g m tasks tells run source sink pad to opening at mid tasks' joined (linked refl)
          (λ can. stood refl m tells (stays m tells run.net (is_unfed g m tasks tells run source sink pad to opening at)) can at.opening_is),
    )
    runs false linked none stood g m tells source sink run at = absurd (both_there tasks mid pad to.element joined (none refl).0)

    pub linked_runs : (result : Result Bool Stopped) → IfOk result Linked → IfOk result Unlinked → IfOk result Stood → IfOk result Runs
    linked_runs (Ok done) linked none stood = runs done linked none stood
    linked_runs (Err stopped) linked none stood = tt
