-- Pads that lead over lanes to a sink pad, found and not found.
use Rattle.std.proofs.Common.{◌≡◌, ℕ, List, Some, refl, sym, ap, ◌∙◌}
use Rattle.std.specs.Prelude.{slice_get}
use Rattle.lane_core.specs.declared.ends.Outlet as outlets
use Rattle.flow_model.specs.declared.element.TaskElement as elements
use Rattle.flow_model.specs.declared.source.TaskSource as sources
use Rattle.task_pads.specs.Behind.{end_in, goes, over}
use Rattle.task_pads.specs.declared.pad.Behind.{Behind}
use Rattle.task_pads.specs.declared.pad.Behind.TheVariants as behinds
use Rattle.task_pads.specs.declared.pad.Pad.{Pad}
use Rattle.task_pads.specs.Pads.{goes_of, rest_of}
use Rattle.task_parts.specs.declared.head.Head.{Head}
use Rattle.task_parts.specs.declared.head.Head.TheVariants.{Source, Inlets}
use Rattle.task_parts.specs.declared.part.Part.{Part}
use Rattle.net_task.specs.Frame.{IsWire, PartFrame, Room, Wire, frame_in, head_frame, head_wire, of_head as wire_head, of_part as wire_part, part_frame, room_in, wire_of}
use Rattle.net_turns.specs.Net.{LaneOut}
use Rattle.gst_value.proofs.Basics.{none_some, some_same}
use Rattle.gst_value.proofs.Places.{map_got}
use Rattle.net_groups.proofs.Wiring.{pad_wire}
use Rattle.edit_acts.specs.Sent.{HeadSends, PartSends, TaskSends}

-- a lane has a place and room
lane_room : {O L : Type 0} (o : outlets.Ghosts O L) (behind : Behind O) (lane n sink from : ℕ) → goes behind ≡ over lane n sink from → (room : Room) × (room_in (end_in o behind) ≡ Some room)
lane_room o behinds.Nothing lane n sink from is = absurd cc
lane_room o (behinds.Element number hint pad) lane n sink from is = absurd cc
lane_room o (behinds.Lane number element pad at outlet) lane n sink from is = (record { place = o.place outlet; limits = o.limits outlet }, refl)

module _ {S E I O L : Type 0} {s : sources.Ghosts S} {e : elements.Ghosts E} (o : outlets.Ghosts O L) (head : Head S I O s) (parts : List (Part E O e)) (n sink : ℕ) where
  -- a pad of the task does, where it leads there
  sent_by : (pad : Pad O) (lane from : ℕ) → IsWire (frame_in o head parts) (wire_of o pad) → goes_of pad ≡ over lane n sink from → TaskSends (frame_in o head parts) n sink
  sent_by pad lane from is leads =
      let room = lane_room o (rest_of pad).behind lane n sink from leads in (
        (wire_of o pad).number,
        room.0.place,
        from,
        record { wire = wire_of o pad; is = is; number = refl; lane = lane; leads = leads; into = record { room = room.0; room_is = room.1; place_is = refl } },
      )

  pub sent_by_head : HeadSends head n sink → TaskSends (frame_in o head parts) n sink
  sent_by_head h = go head refl h
    where
      go : (one : Head S I O s) → head ≡ one → HeadSends one n sink → TaskSends (frame_in o head parts) n sink
      go (Source one) is z = sent_by one.pad z.0 z.1 (wire_head (ap (λ (h : Head S I O s). head_wire (head_frame o h)) is)) z.2
      go (Inlets one) is z = absurd z

  pub sent_by_part : (place : ℕ) → PartSends parts n sink place → TaskSends (frame_in o head parts) n sink
  sent_by_part place z = sent_by z.sends.pad z.sends.lane z.sends.from (wire_part place z.port (pad_wire o head parts place z.port z.part z.sends.pad z.at z.sends.at)) z.sends.leads

  pub not_sent : (HeadSends head n sink → ⊥) → ((place : ℕ) → PartSends parts n sink place → ⊥) → TaskSends (frame_in o head parts) n sink → ⊥
  not_sent none others sends = by sends.3 sends.3.is
    where
      by_head : (head : Head S I O s) → (HeadSends head n sink → ⊥) → (out : LaneOut (frame_in o head parts) sends.0 sends.1 sends.2 n sink) → head_wire (head_frame o head) ≡ Some out.wire → ⊥
      by_head (Source one) none out at = none (out.lane, sends.2, ap (λ (w : Wire). w.leads) (some_same at) ∙ out.leads)
      by_head (Inlets one) none out at = none_some at

      by : (out : LaneOut (frame_in o head parts) sends.0 sends.1 sends.2 n sink) → IsWire (frame_in o head parts) out.wire → ⊥
      by out (wire_part j k w) =
          let a = map_got (part_frame o) parts j w.part w.at in
          let b = map_got (wire_of o) a.0.pads.items k out.wire (ap (λ (one : PartFrame). slice_get one.wires k) (sym a.2) ∙ w.pad_at) in
          others j (record {
            part = a.0;
            at = a.1;
            port = k;
            sends = record { pad = b.0; at = b.1; lane = out.lane; from = sends.2; leads = ap (λ (x : Wire). x.leads) (sym b.2) ∙ out.leads };
          })
      by out (wire_head at) = by_head head none out at
