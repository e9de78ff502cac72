-- Tasks are ready behind a step of one of them.
use Rattle.std.proofs.Common.{◌≡◌, ◌≢◌, ◌⊎◌, ℕ, List, Option, None, Some, refl, sym, ap, ◌∙◌, subst, inl, inr}
use Rattle.std.specs.Prelude.{slice_get}
use Rattle.std.proofs.lemmas.Bool.{cases_eq}
use Rattle.lane_core.specs.Lane.{Lane}
use Rattle.lane_core.specs.declared.ends.Inlet as inlets
use Rattle.lane_core.specs.declared.ends.Outlet as outlets
use Rattle.flow_model.specs.declared.element.TaskElement as elements
use Rattle.flow_model.specs.declared.source.TaskSource as sources
use Rattle.inlet_row.specs.declared.row.InletRow.{InletRow}
use Rattle.task_pads.specs.Behind.{LaneEnd}
use Rattle.task_pads.specs.Pads.{end_of, number_of}
use Rattle.task_parts.specs.declared.head.Head.{Head}
use Rattle.task_parts.specs.declared.head.Head.TheVariants.{Source, Inlets}
use Rattle.task_parts.specs.declared.step.Step.{Step}
use Rattle.net_task.specs.declared.task.Task.{Task}
use Rattle.net_task.specs.Frame.{Room, TaskFrame, Wire, by_inlets, frame_of, head_frame, room_in}
use Rattle.net_task.specs.Ready.{IntoLane, IsReady, RowKept, RowsGoOn}
use Rattle.net_turns.specs.Net.{LaneOut, NetReady, SendsInto}
use Rattle.net_turns.specs.Turns.{IsStepped}
use Rattle.net_turns.proofs.Places.{some_before}
use Rattle.net_turns.proofs.Owners.{wire_pad}
use Rattle.net_turns.proofs.Keeping.{lane_out, ready_still}
use Rattle.net_turns.proofs.Wired.{BecameRow, HeadsGo, IsOther, kept_row, wired_still}
use Rattle.gst_value.proofs.Basics.{some_same}

pub number_same : {n k a b : ℕ} → by_inlets n a ≡ by_inlets k b → n ≡ k
number_same e = cc

pub size_same : {n k a b : ℕ} → by_inlets n a ≡ by_inlets k b → a ≡ b
size_same e = cc

room_some : (found : Option LaneEnd) (room : Room) → room_in found ≡ Some room → (end : LaneEnd) × (found ≡ Some end) × (end.place ≡ room.place)
room_some None room e = absurd cc
room_some (Some end) room e = (end, refl, ap (λ (one : Room). one.place) (some_same e))

module _ {S I O L : Type 0} {s : sources.Ghosts S} (i : inlets.Ghosts I L O) (o : outlets.Ghosts O L) where
  -- each row goes on, forth and back
  heads_go : (head head' : Head S I O s) → head_frame o head' ≡ head_frame o head → RowsGoOn i head head' → HeadsGo i head head'
  heads_go (Source head) (Source head') frame h = tt
  heads_go (Inlets head) (Inlets head') frame h = record {
    number = number_same frame;
    size = size_same frame;
    back = λ port row at. let was = h port row at in (was.0, was.1, kept_row was.2);
    forth = λ port row at.
        some_before head'.rows.items head.rows.items port row ((is : InletRow I) × (slice_get head'.rows.items port ≡ Some is) × BecameRow i row is) (sym (size_same frame)) at
        (λ is here.
        let was = h port is here in
        (is, here, kept_row (subst (λ (one : InletRow I). RowKept i one is) (some_same (sym was.1 ∙ at)) was.2)));
  }
  heads_go (Source head) (Inlets head') frame h = absurd h
  heads_go (Inlets head) (Source head') frame h = absurd h

module _ {S E I O L : Type 0} {s : sources.Ghosts S} {e : elements.Ghosts E} {i : inlets.Ghosts I L O} {o : outlets.Ghosts O L} where
  pub net_ready : (was is : List (Task S E I O L s e i o)) (tells tells' : Option (List Lane)) (place : ℕ) (step : Step) → NetReady was tells → IsStepped place step was is tells tells' → NetReady is tells'
  net_ready was is tells tells' place step net h = record {
    wired = wired_still was is place h.before h.after other net.wired;
    ready = λ k task at. ready k task at (cases_eq k place);
  }
    where
      other : IsOther was is place h.before h.after
      other = record {
        at = h.at;
        others = h.others;
        at_after = h.at_after;
        frame = h.stepped.frame;
        head = heads_go i o h.before.head h.after.head (ap (λ (f : TaskFrame). f.head) h.stepped.frame) h.stepped.lanes.rows;
      }

      -- no other task sends into a lane of the one that was stepped
      apart : (k : ℕ) (task : Task S E I O L s e i o) → slice_get was k ≡ Some task → k ≢ place → (n p from a port : ℕ) → LaneOut (frame_of task) p n from a port → IntoLane (frame_of h.before) n → ⊥
      apart k task at ne n p from a port out into =
          let w = wire_pad o h.before.head h.before.parts.items into.0 into.1 in
          let end = room_some (end_of o w.0) into.2.room (sym (ap (λ (one : Wire). one.room) w.2) ∙ into.2.room_is) in
          let way = lane_out h.before w.0 w.1 end.0 end.1 in
          let mine : SendsInto was place (number_of w.0) n way.from way.n way.port =
          record { task = h.before; at = h.at; out = subst (λ (q : ℕ). LaneOut (frame_of h.before) (number_of w.0) q way.from way.n way.port) (end.2 ∙ into.2.place_is) way.out } in
          ne (net.wired.one_sends k place p (number_of w.0) n from way.from a way.n port way.port (record { task = task; at = at; out = out }) mine).0

      ready : (k : ℕ) (task : Task S E I O L s e i o) → slice_get is k ≡ Some task → (k ≡ place) ⊎ (k ≡ place → ⊥) → IsReady tells' task
      ready k task at (inl here) = subst (λ (u : Task S E I O L s e i o). IsReady tells' u) (some_same (sym h.at_after ∙ ap (λ j. slice_get is j) (sym here) ∙ at)) h.stepped.ready
      ready k task at (inr ne) =
          let at_was = sym (h.others k ne) ∙ at in
          ready_still task tells tells' h.stepped.lanes.table.lanes
          (λ pad end of_task here.
          let way = lane_out task pad of_task end here in
          h.stepped.lanes.table.rooms end.place end.limits end.count (apart k task at_was ne end.place _ way.from way.n way.port way.out))
          (net.ready k task at_was)
