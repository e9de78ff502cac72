-- What is left of a run where the link of a pad was undone, and what it led to was split off in room that was taken before.
use Rattle.std.proofs.Common.{◌≡◌, ℕ, Bool, true, false, List, Option, length, refl, sym, subst, arith, vec_capacity}
use Rattle.std.specs.Global.{Vec}
use Rattle.lane_core.specs.Lane.{Lane}
use Rattle.lane_core.specs.declared.ends.Inlet as inlets
use Rattle.lane_core.specs.declared.ends.Outlet as outlets
use Rattle.flow_model.specs.Edit.{undone}
use Rattle.flow_model.specs.Moment.{Moment}
use Rattle.flow_model.specs.declared.element.TaskElement as elements
use Rattle.flow_model.specs.declared.source.TaskSource as sources
use Rattle.net_task.specs.declared.task.Task.{Task}
use Rattle.net_turns.specs.Net.{NetReady, NetStands}
use Rattle.task_edits.specs.declared.inside.Inside.{Inside}
use Rattle.net_edits.specs.Inside.{HasInside}
use Rattle.net_groups.specs.Splits.{CannotSplit, HasRoomToSplit, IsSplit, IsSplitRoom, TookItems}
use Rattle.net_groups.specs.declared.splitting.SplitRoom.{SplitRoom}
use Rattle.graph_pads.specs.declared.pad.PadPlace.{PadPlace}
use Rattle.graph_edits.specs.Edited.{Edited, unlinked_at}
use Rattle.edit_core.specs.Ways.{InnerTookItems, IsRun}
use Rattle.edit_acts.specs.Undoing.{IsRunWith, LeadsNoneInside}
use Rattle.edit_acts.proofs.Runs.{run_on}
use Rattle.edit_acts.proofs.Spans.{undone_took}
use Rattle.edit_acts.proofs.Undone.{can_split, inner_took, kept_are, split_are, took_then}
use Rattle.edit_acts.proofs.Unlinked.{AreCut, part_back}

module _ {S E I O L : Type 0} {s : sources.Ghosts S} {e : elements.Ghosts E} {i : inlets.Ghosts I L O} {o : outlets.Ghosts O L} where
  -- what a call that splits tasks told
  pub record ToldSplit (done : Bool) (mid tasks' : List (Task S E I O L s e i o)) (element pads : ℕ) : Type 0 where
    pub stands : done ≡ true → (m : Moment) (tells : Option (List Lane)) → NetStands m mid tells → TookItems m element pads → NetStands m tasks' tells
    pub ready : done ≡ true → (tells : Option (List Lane)) → NetReady mid tells → NetReady tasks' tells
    pub split : done ≡ true → IsSplit mid tasks' element pads
    pub none : done ≡ false → CannotSplit mid element
    pub same : done ≡ false → tasks' ≡ mid

  -- the tasks are as ready, and stand where the element took items alone
  pub told_ready : (done : Bool) (mid tasks' : List (Task S E I O L s e i o)) (element pads : ℕ) → ToldSplit done mid tasks' element pads → (tells : Option (List Lane)) → NetReady mid tells → NetReady tasks' tells
  told_ready true mid tasks' element pads told tells ready = told.ready refl tells ready
  told_ready false mid tasks' element pads told tells ready = subst (λ (ts : List (Task S E I O L s e i o)). NetReady ts tells) (sym (told.same refl)) ready

  pub told_stands : (done : Bool) (mid tasks' : List (Task S E I O L s e i o)) (element pads : ℕ) → ToldSplit done mid tasks' element pads → (m : Moment) (tells : Option (List Lane)) → NetStands m mid tells
      → TookItems m element pads → NetStands m tasks' tells
  told_stands true mid tasks' element pads told m tells stands took = told.stands refl m tells stands took
  told_stands false mid tasks' element pads told m tells stands took = subst (λ (ts : List (Task S E I O L s e i o)). NetStands m ts tells) (sym (told.same refl)) stands

  -- room stays room where the link of a pad was undone
  pub room_then : (pad : ℕ) (tasks mid : Vec (Task S E I O L s e i o)) (element : ℕ) (room : SplitRoom E I O e) → AreCut pad tasks.items mid.items → vec_capacity mid ≡ vec_capacity tasks → length mid.items ≡ length tasks.items
      → HasRoomToSplit tasks element room → HasRoomToSplit mid element room
  room_then pad tasks mid element room cut capacity size has = record {
    more = let low = has.more in omega (arith, low, capacity, size, tasks.ok.0, mid.ok.0);
    beside = λ k p. let y = part_back pad tasks.items mid.items cut k element p in subst (IsSplitRoom room) y.1 (has.beside k y.0);
  }

  -- an element to which a pad leads inside of its task took items alone, also once a link was undone
  pub took_beside : (tasks : List (Task S E I O L s e i o)) (pad place : ℕ) (to : Inside) (m m' : Moment) (eos : Bool) → InnerTookItems m tasks → HasInside tasks pad place to
      → m'.plan ≡ undone pad (length (m.history pad)) eos m.plan → TookItems m' to.element 1
  took_beside tasks pad place to m m' eos took h plan = undone_took m m' pad (length (m.history pad)) eos to.element 1 plan (inner_took tasks pad place to m took h)

  module _ (g : Edited) (m : Moment) (tasks : List (Task S E I O L s e i o)) (tells : Option (List Lane)) (pad : ℕ) (source : PadPlace) (w : IsRunWith g m tasks tells pad source) (mid : List (Task S E I O L s e i o)) (cut : AreCut pad tasks mid)
      (eos : Bool) (m' : Moment) (plan : m'.plan ≡ undone pad (length (m.history pad)) eos m.plan) (history : m'.history ≡ m.history) (stands : NetStands m' mid tells) where
    pub whole_run : LeadsNoneInside tasks pad → IsRun (unlinked_at source (length (m.history pad)) eos g) m' mid tells
    whole_run none = run_on g m tasks tells pad source w eos m' plan history mid stands (kept_are g m tasks tells w.run pad mid cut none)

    pub split_run : (place : ℕ) (to : Inside) → HasInside tasks pad place to → (done : Bool) (tasks' : List (Task S E I O L s e i o)) (pads : ℕ) → pads ≡ 1 → ToldSplit done mid tasks' to.element pads
        → IsRun (unlinked_at source (length (m.history pad)) eos g) m' tasks' tells
    split_run place to h true tasks' pads one told =
        run_on g m tasks tells pad source w eos m' plan history tasks' (told.stands refl m' tells stands (subst (TookItems m' to.element) (sym one) (took_then g m tasks tells w.run pad mid cut place to h m' stands eos plan)))
        (split_are g m tasks tells w.run pad mid cut place to h m' stands eos plan tasks' pads (told.split refl))
    split_run place to h false tasks' pads one told = absurd (can_split g m tasks tells w.run pad mid cut place to h m' stands eos plan (told.none refl))
