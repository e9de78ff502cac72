-- Room to split a task, and what goes out of it.
use Rattle.std.proofs.Common.{◌≡◌, ◌≢◌, ◌⊎◌, ◌<◌, ◌≤◌, ℕ, List, length, refl, sym, ◌∙◌, subst, inl, inr, arith, vec_len}
use Rattle.std.specs.Prelude.{Result, Ok, Err, IfOk}
use Rattle.std.proofs.lemmas.Option.{slice_get_within}
use Rattle.lane_core.specs.declared.ends.Inlet as inlets
use Rattle.lane_core.specs.declared.ends.Outlet as outlets
use Rattle.flow_model.specs.Moment.{Moment}
use Rattle.flow_model.specs.declared.element.TaskElement as elements
use Rattle.flow_model.specs.declared.source.TaskSource as sources
use Rattle.task_parts.specs.declared.part.Part.{Part}
use Rattle.net_task.specs.declared.task.Task.{Task}
use Rattle.task_pads.specs.Behind.{inside}
use Rattle.net_task.specs.Frame.{IsWire, Wire, frame_of}
use Rattle.net_turns.specs.Net.{NetReady, NetStands}
use Rattle.gst_value.proofs.Basics.{some_same}
use Rattle.net_groups.specs.Behind.{AreParted, IsBehind, itself, IsEntered, flagged, unflagged}
use Rattle.net_groups.specs.Places.{IsPartOf}
use Rattle.net_groups.specs.Splits.{AreParting, CanPart, CanPartAt, CannotSplit, HasRoomAt, HasRoomBeside, IsPartedAt, IsRoom, IsSplit, IsSplitAt, IsSplitRoom, TookItems, number_in}
use Rattle.net_groups.specs.declared.splitting.Parting.{Parting}
use Rattle.net_groups.specs.declared.splitting.SplitRoom.{SplitRoom}
use Rattle.net_groups.proofs.Parting.{split_ready, split_stands}
use Rattle.net_groups.proofs.Parts.{can_part, not_ahead, split_told, told_parts}

-- there is room for fewer
less_room : {E I O : Type 0} {e : elements.Ghosts E} (room : SplitRoom E I O e) (count most : ℕ) → count ≤ most → IsSplitRoom room most → IsSplitRoom room count
less_room room count most less r = record {
  flags = (r.flags.0, let a = r.flags.1 in omega (arith, a, less));
  halves = record {
    kept = (r.halves.kept.0, let a = r.halves.kept.1 in omega (arith, a, less));
    gone = (r.halves.gone.0, let a = r.halves.gone.1 in omega (arith, a, less));
    size = r.halves.size;
    bare = r.halves.bare;
  };
}

module _ {S E I O L : Type 0} {s : sources.Ghosts S} {e : elements.Ghosts E} {i : inlets.Ghosts I L O} {o : outlets.Ghosts O L} where
  pub room_all : {X : Type 0} (r : Result (SplitRoom E I O e) X) (tasks : List (Task S E I O L s e i o)) (n most : ℕ) → IfOk r (λ room. IsSplitRoom room most) → ((j : ℕ) (p : IsPartOf tasks j n) → length p.task.parts.items ≤ most) → IfOk r (HasRoomBeside tasks n)
  room_all (Ok room) tasks n most is few = λ k p. less_room room (length p.task.parts.items) most (few k p) is
  room_all (Err why) tasks n most is few = tt

  -- what speaks against it, at a task that has the element
  pub cannot_split : (tasks : List (Task S E I O L s e i o)) (element k : ℕ) (p : IsPartOf tasks k element) → IsBehind p.task.parts.items element (number_in p.task.head) ⊎ IsEntered (frame_of p.task) p.task.parts.items element → CannotSplit tasks element
  cannot_split tasks element k p (inl named) = inr (inl (k, (p, named)))
  cannot_split tasks element k p (inr led) = inr (inr (k, (p, led)))

  module _ (tasks : List (Task S E I O L s e i o)) (element : ℕ) (parting : Parting E I O e) (a : AreParting tasks element parting) where
    pub parting_within : parting.place < length tasks
    parting_within = slice_get_within tasks parting.place a.part.task a.part.at

    ahead : IsBehind a.part.task.parts.items element (number_in a.part.task.head) → ⊥
    ahead = not_ahead o a.part.task.head a.part.task.parts.items parting.flags.items element a.part.place a.apart.size a.apart.tell a.part.is a.part.task.closed a.apart.ahead

    pub can_part_at : CanPartAt tasks parting.place parting.flags.items element
    can_part_at task at =
        subst (λ (t : Task S E I O L s e i o). CanPart t.head t.parts.items parting.flags.items element) (some_same (sym a.part.at ∙ at))
        (can_part o a.part.task.head a.part.task.parts.items parting.flags.items element a.part.place a.apart.size a.apart.tell a.part.is a.part.task.closed a.apart.free ahead)

    pub room_at : HasRoomAt tasks parting.place parting.halves
    room_at task at = subst (λ (t : Task S E I O L s e i o). IsRoom parting.halves (length t.parts.items) (vec_len parting.halves.rows)) (some_same (sym a.part.at ∙ at)) a.room

    module _ (tasks' : List (Task S E I O L s e i o)) (pads : ℕ) (z : IsPartedAt tasks tasks' parting.place parting.flags.items element pads) where
      same : a.part.task ≡ z.was
      same = some_same (sym a.part.at ∙ z.at)

      split_at : IsSplitAt tasks tasks' parting.place element pads
      split_at = split_told tasks tasks' parting.place element pads parting.flags.items z
          (subst (λ (t : Task S E I O L s e i o). AreParted (λ (part : Part E O e). IsBehind t.parts.items element part.number) t.parts.items (unflagged parting.flags.items t.parts.items) (flagged parting.flags.items t.parts.items)) same
          (told_parts o a.part.task.head a.part.task.parts.items parting.flags.items element a.part.place a.apart.size a.apart.tell a.part.is a.part.task.closed))
          (subst (λ (t : Task S E I O L s e i o). IsBehind t.parts.items element (number_in t.head) → ⊥) same ahead)

      pub split_is : IsSplit tasks tasks' element pads
      split_is = (parting.place, a.part, split_at)

      -- no pad of the task leads to the element
      unled : (wire : Wire) (port : ℕ) → IsWire (frame_of split_at.was) wire → wire.leads ≢ inside element port
      unled wire port is leads =
          a.apart.free (record {
            wire = wire;
            is = subst (λ (t : Task S E I O L s e i o). IsWire (frame_of t) wire) (some_same (sym split_at.at ∙ a.part.at)) is;
            to = element;
            port = port;
            leads = leads;
            behind = itself;
            from = inl refl;
          })

      -- the net of which the task was split stands, and is ready
      pub splits_stand : (m : Moment) (tells : _) → NetStands m tasks tells → TookItems m element pads → NetStands m tasks' tells
      splits_stand m tells stands items = split_stands tasks tasks' parting.place element pads split_at a.part unled m tells stands items

      pub splits_ready : (tells : _) → NetReady tasks tells → NetReady tasks' tells
      splits_ready tells ready = split_ready tasks tasks' parting.place element pads split_at a.part unled tells ready
