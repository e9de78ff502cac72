-- Room in a row of a task stays, and so does a lane that no task uses, where the link of a pad was undone and a task was split.
use Rattle.std.proofs.Common.{◌≡◌, ◌≢◌, ◌⊎◌, ℕ, Bool, true, false, List, [], ◌∷◌, Some, refl, sym, ap, ◌∙◌, subst, inl, inr}
use Rattle.std.specs.Prelude.{slice_get, slice_set}
use Rattle.std.proofs.lemmas.Bool.{cases_eq}
use Rattle.inlet_row.specs.Row.{ForLanes}
use Rattle.inlet_row.specs.declared.feeding.Feeding.{Feeding}
use Rattle.lane_core.specs.declared.ends.Inlet as inlets
use Rattle.lane_core.specs.declared.ends.Outlet as outlets
use Rattle.flow_model.specs.declared.element.TaskElement as elements
use Rattle.flow_model.specs.declared.source.TaskSource as sources
use Rattle.task_pads.specs.Behind.{end_in, goes, nowhere, over}
use Rattle.task_pads.specs.declared.pad.Behind.{Behind}
use Rattle.task_pads.specs.declared.pad.Behind.TheVariants.{Nothing, Element, Lane as OverLane}
use Rattle.task_pads.specs.declared.pad.Pad.{Pad}
use Rattle.task_pads.proofs.Lists.{set_there}
use Rattle.task_parts.specs.declared.head.Head.{Head}
use Rattle.task_parts.specs.declared.head.Head.TheVariants.{Source, Inlets}
use Rattle.task_parts.specs.declared.part.Part.{Part}
use Rattle.gst_value.proofs.Basics.{some_same}
use Rattle.gst_value.proofs.Places.{set_at}
use Rattle.net_task.specs.declared.task.Task.{Task}
use Rattle.net_task.specs.Frame.{IsWire, Room, Wire, frame_in, frame_of, head_frame, head_wire, room_in, wire_of}
use Rattle.net_task.specs.Ready.{LeadsInto}
use Rattle.net_turns.specs.Net.{HasRow}
use Rattle.task_edits.specs.Leads.{NoInlet}
use Rattle.task_edits.proofs.Wiring.{wire_pad}
use Rattle.net_edits.specs.Over.{HasRoomAt, NoneIsOf}
use Rattle.net_groups.specs.Splits.{IsSplitAt}
use Rattle.net_groups.proofs.Halves.{Found, found}
use Rattle.net_groups.proofs.Lists.{append_first}
use Rattle.net_groups.proofs.Within.{gone_within, kept_within}
use Rattle.edit_acts.proofs.Fits.{all_wires, none_some}
use Rattle.edit_acts.proofs.Undoes.{ToldSplit}
use Rattle.edit_acts.proofs.Unlinked.{AreCut}

module _ {O L : Type 0} (o : outlets.Ghosts O L) where
  -- a pad that leads nowhere leads into no lane
  no_lane : (behind : Behind O) → goes behind ≡ nowhere → (room : Room) → room_in (end_in o behind) ≡ Some room → ⊥
  no_lane Nothing to room is = none_some room is
  no_lane (Element number hint pad) to room is = none_some room is
  no_lane (OverLane lane element pad from outlet) to room is = absurd (let clash : over lane element pad from ≡ nowhere = to in cc)

module _ {S E I O L : Type 0} {s : sources.Ghosts S} {e : elements.Ghosts E} (o : outlets.Ghosts O L) where
  pad_of : (head : Head S I O s) (parts : List (Part E O e)) (wire : Wire) → IsWire (frame_in o head parts) wire → (pad : Pad O) × (wire_of o pad ≡ wire)
  pad_of head parts wire (IsWire.of_part j k x) = let z = wire_pad o head parts j k wire x in (z.0, z.2)
  pad_of (Source head) parts wire (IsWire.of_head is) = (head.pad, some_same is)
  pad_of (Inlets head) parts wire (IsWire.of_head is) = absurd (none_some wire is)

  nowhere_into : (head : Head S I O s) (parts : List (Part E O e)) (wire : Wire) → IsWire (frame_in o head parts) wire → wire.leads ≡ nowhere → (place : ℕ) → LeadsInto wire place → ⊥
  nowhere_into head parts wire is to place into =
      let z = pad_of head parts wire is in
      no_lane o z.0.behind (ap (λ (w : Wire). w.leads) z.1 ∙ to) into.room (ap (λ (w : Wire). w.room) z.1 ∙ into.room_is)

module _ {S E I O L : Type 0} {s : sources.Ghosts S} {e : elements.Ghosts E} {i : inlets.Ghosts I L O} {o : outlets.Ghosts O L} where
  -- ---- where the link of a pad was undone

  pub cut_room : (undone : ℕ) (tasks mid : List (Task S E I O L s e i o)) → AreCut undone tasks mid → (place element port more : ℕ) → HasRoomAt tasks place element port more → HasRoomAt mid place element port more
  cut_room undone tasks mid cut place element port more has =
      let row = has.has in
      let y = cut.on place row.fed.task row.fed.at in
      record { row = has.row; has = record { head = row.head; fed = record { task = y.is; at = y.at; head_is = y.cut.was_fed row.head row.fed.head_is }; number = row.number; at = row.at }; room = has.room }

  pub cut_none : (undone : ℕ) (tasks mid : List (Task S E I O L s e i o)) → AreCut undone tasks mid → (place : ℕ) → NoneIsOf tasks place → NoneIsOf mid place
  cut_none undone tasks mid cut place none = record { no_pad = no_pad; no_row = λ k task at. no_row k task at task.head refl }
    where
      no_pad : (k : ℕ) (task : Task S E I O L s e i o) (wire : Wire) → slice_get mid k ≡ Some task → IsWire (frame_of task) wire → LeadsInto wire place → ⊥
      no_pad k task wire at is into = let y = cut.back k task at in go y.was y.at (y.cut.frame.wires wire is)
        where
          go : (was : Task S E I O L s e i o) → slice_get tasks k ≡ Some was → IsWire (frame_of was) wire ⊎ (wire.leads ≡ nowhere) → ⊥
          go was at (inl it) = none.no_pad k was wire at it into
          go was at (inr to) = nowhere_into o task.head task.parts.items wire is to place into

      no_row : (k : ℕ) (task : Task S E I O L s e i o) → slice_get mid k ≡ Some task → (head : Head S I O s) → task.head ≡ head → NoInlet i task.head place
      no_row k task at (Source head) is = subst (λ (h : Head S I O s). NoInlet i h place) (sym is) tt
      no_row k task at (Inlets head) is =
          let y = cut.back k task at in
          subst (λ (h : Head S I O s). NoInlet i h place) (sym is) (subst (λ (h : Head S I O s). NoInlet i h place) (y.cut.fed head is) (none.no_row k y.was y.at))

  -- ---- where what is behind an element was split off

  module _ (mid tasks' : List (Task S E I O L s e i o)) (place element pads : ℕ) (z : IsSplitAt mid tasks' place element pads) where
    stays_at : (k : ℕ) (t : Task S E I O L s e i o) → slice_get (slice_set mid place z.is) k ≡ Some t → slice_get tasks' k ≡ Some t
    stays_at k t at = ap (λ (ts : List (Task S E I O L s e i o)). slice_get ts k) z.list ∙ append_first (slice_set mid place z.is) (z.fresh ∷ []) k t at

    split_at_room : (k n port more : ℕ) → HasRoomAt mid k n port more → HasRoomAt tasks' k n port more
    split_at_room k n port more has = go (cases_eq k place)
      where
        row : HasRow mid k n port has.row
        row = has.has

        go : (k ≡ place) ⊎ (k ≡ place → ⊥) → HasRoomAt tasks' k n port more
        go (inl same) =
            let one : row.fed.task ≡ z.was = some_same (sym row.fed.at ∙ ap (λ (x : ℕ). slice_get mid x) same ∙ z.at) in
            record {
              row = has.row;
              has = record {
                head = row.head;
                fed = record {
                  task = z.is;
                  at = ap (λ (x : ℕ). slice_get tasks' x) same ∙ stays_at place z.is (set_at mid place z.was z.is z.at);
                  head_is = z.head ∙ ap (λ (t : Task S E I O L s e i o). t.head) (sym one) ∙ row.fed.head_is;
                };
                number = row.number;
                at = row.at;
              };
              room = has.room;
            }
        go (inr other) = record {
          row = has.row;
          has = record { head = row.head; fed = record { task = row.fed.task; at = stays_at k row.fed.task (set_there mid place k z.is other ∙ row.fed.at); head_is = row.fed.head_is }; number = row.number; at = row.at };
          room = has.room;
        }

    split_at_none : (lane : ℕ) → NoneIsOf mid lane → NoneIsOf tasks' lane
    split_at_none lane none = record { no_pad = λ k task wire at is into. no_pad k task wire is into (found mid tasks' place element pads z k task at); no_row = λ k task at. no_row k task (found mid tasks' place element pads z k task at) }
      where
        Came : ℕ → Task S E I O L s e i o → Type 0
        Came k t = Found mid tasks' place element pads z k t

        no_pad : (k : ℕ) (task : Task S E I O L s e i o) (wire : Wire) → IsWire (frame_of task) wire → LeadsInto wire lane → Came k task → ⊥
        no_pad k task wire is into (Found.at_first same task_is) =
            none.no_pad place z.was wire z.at
            (all_wires o z.was.head z.is.head (kept_within z.parted) (λ w there. ap (λ (h : Head S I O s). head_wire (head_frame o h)) (sym z.head) ∙ there) wire (subst (λ (t : Task S E I O L s e i o). IsWire (frame_of t) wire) task_is is)) into
        no_pad k task wire is into (Found.at_other else within at) = none.no_pad k task wire at is into
        no_pad k task wire is into (Found.at_last same task_is) =
            none.no_pad place z.was wire z.at
            (all_wires o z.was.head z.fresh.head (gone_within z.parted) (λ w there. absurd (none_some w (ap (λ (h : Head S I O s). head_wire (head_frame o h)) (sym z.fed_is) ∙ there))) wire
            (subst (λ (t : Task S E I O L s e i o). IsWire (frame_of t) wire) task_is is)) into

        bare : NoInlet i z.fresh.head lane
        bare = subst (λ (h : Head S I O s). NoInlet i h lane) (sym z.fed_is) (λ port row at. subst (λ (feeds : List (Feeding I)). ForLanes (λ inlet. lane ≢ i.place inlet) feeds) (sym (z.bare port row at)) tt)

        no_row : (k : ℕ) (task : Task S E I O L s e i o) → Came k task → NoInlet i task.head lane
        no_row k task (Found.at_first same task_is) = subst (λ (t : Task S E I O L s e i o). NoInlet i t.head lane) (sym task_is) (subst (λ (h : Head S I O s). NoInlet i h lane) (sym z.head) (none.no_row place z.was z.at))
        no_row k task (Found.at_other else within at) = none.no_row k task at
        no_row k task (Found.at_last same task_is) = subst (λ (t : Task S E I O L s e i o). NoInlet i t.head lane) (sym task_is) bare

  -- a call that splits the task with an element was made
  pub split_room : (done : Bool) (mid tasks' : List (Task S E I O L s e i o)) (element pads : ℕ) → ToldSplit done mid tasks' element pads → (k n port more : ℕ) → HasRoomAt mid k n port more → HasRoomAt tasks' k n port more
  split_room true mid tasks' element pads told k n port more has = let y = told.split refl in split_at_room mid tasks' y.0 element pads y.2 k n port more has
  split_room false mid tasks' element pads told k n port more has = subst (λ (ts : List (Task S E I O L s e i o)). HasRoomAt ts k n port more) (sym (told.same refl)) has

  pub split_none : (done : Bool) (mid tasks' : List (Task S E I O L s e i o)) (element pads : ℕ) → ToldSplit done mid tasks' element pads → (lane : ℕ) → NoneIsOf mid lane → NoneIsOf tasks' lane
  split_none true mid tasks' element pads told lane none = let y = told.split refl in split_at_none mid tasks' y.0 element pads y.2 lane none
  split_none false mid tasks' element pads told lane none = subst (λ (ts : List (Task S E I O L s e i o)). NoneIsOf ts lane) (sym (told.same refl)) none
