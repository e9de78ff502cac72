-- Pads that lead over lanes to an element, found and not found.
use Rattle.std.proofs.Common.{◌≡◌, ℕ, List, Some, refl, sym, ap, ◌∙◌, subst}
use Rattle.std.specs.Prelude.{slice_get}
use Rattle.lane_core.specs.declared.ends.Inlet as inlets
use Rattle.lane_core.specs.declared.ends.Outlet as outlets
use Rattle.flow_model.specs.declared.element.TaskElement as elements
use Rattle.flow_model.specs.declared.source.TaskSource as sources
use Rattle.task_pads.specs.Behind.{over, end_in, goes}
use Rattle.task_pads.specs.declared.pad.Behind.{Behind}
use Rattle.task_pads.specs.declared.pad.Behind.TheVariants as behinds
use Rattle.task_pads.specs.Pads.{rest_of}
use Rattle.task_parts.specs.declared.head.Head.{Head}
use Rattle.task_parts.specs.declared.head.Head.TheVariants.{Source, Inlets}
use Rattle.task_parts.specs.declared.head.InletHead.{InletHead}
use Rattle.task_parts.specs.declared.part.Part.{Part}
use Rattle.net_task.specs.declared.task.Task.{Task}
use Rattle.net_task.specs.Frame.{PartFrame, Room, Wire, IsWire, of_part as wire_part, of_head as wire_head, frame_in, frame_of, head_frame, head_wire, part_frame, room_in, wire_of}
use Rattle.net_turns.specs.Net.{IsFed, SendsInto}
use Rattle.gst_value.proofs.Basics.{none_some, some_same}
use Rattle.gst_value.proofs.Places.{map_got}
use Rattle.net_groups.specs.Lanes.{HeadSends, PartSends, Sends, SendsAt, SendsTo, SendsToHead}
use Rattle.net_groups.proofs.Wiring.{a_pad, pad_wire}

module _ {S E I O L : Type 0} {s : sources.Ghosts S} {e : elements.Ghosts E} (o : outlets.Ghosts O L) (head : Head S I O s) (parts : List (Part E O e)) (n : ℕ) where
  pub sent_by_head : HeadSends head n → Sends (frame_in o head parts) n
  sent_by_head h = go head h
    where
      go : (head : Head S I O s) → HeadSends head n → Sends (frame_in o head parts) n
      go (Source one) z = record { wire = wire_of o one.pad; is = wire_head refl; lane = z.0; port = z.1; from = z.2; leads = z.3 }
      go (Inlets one) z = absurd z

  pub sent_by_part : (place : ℕ) → PartSends parts n place → Sends (frame_in o head parts) n
  sent_by_part place z = record {
    wire = wire_of o z.lead.pad;
    is = wire_part place z.port (pad_wire o head parts place z.port z.part z.lead.pad z.at z.lead.at);
    lane = z.lead.lane;
    port = z.lead.sink;
    from = z.lead.from;
    leads = z.lead.leads;
  }

  pub not_sent : (HeadSends head n → ⊥) → ((place : ℕ) → PartSends parts n place → ⊥) → Sends (frame_in o head parts) n → ⊥
  not_sent none others z = by z.is
    where
      by_head : (head : Head S I O s) → (HeadSends head n → ⊥) → head_wire (head_frame o head) ≡ Some z.wire → ⊥
      by_head (Source one) none at = none (z.lane, z.port, z.from, ap (λ (w : Wire). w.leads) (some_same at) ∙ z.leads)
      by_head (Inlets one) none at = none_some at

      by : IsWire (frame_in o head parts) z.wire → ⊥
      by (wire_part j k w) =
          let a = map_got (part_frame o) parts j w.part w.at in
          let b = map_got (wire_of o) a.0.pads.items k z.wire (ap (λ (one : PartFrame). slice_get one.wires k) (sym a.2) ∙ w.pad_at) in
          others j (record {
            part = a.0;
            at = a.1;
            port = k;
            lead = record { pad = b.0; at = b.1; lane = z.lane; sink = z.port; from = z.from; leads = ap (λ (x : Wire). x.leads) (sym b.2) ∙ z.leads };
          })
      by (wire_head at) = by_head head none at

-- a lane has a place and room
lane_room : {O L : Type 0} (o : outlets.Ghosts O L) (behind : Behind O) (lane n port from : ℕ) → goes behind ≡ over lane n port from → (room : Room) × (room_in (end_in o behind) ≡ Some room)
lane_room o behinds.Nothing lane n port from is = absurd cc
lane_room o (behinds.Element number hint pad) lane n port from is = absurd cc
lane_room o (behinds.Lane number element pad at outlet) lane n port from is = (record { place = o.place outlet; limits = o.limits outlet }, refl)

module _ {S E I O L : Type 0} {s : sources.Ghosts S} {e : elements.Ghosts E} {i : inlets.Ghosts I L O} {o : outlets.Ghosts O L} (tasks : List (Task S E I O L s e i o)) where
  -- where a pad leads over a lane it sends into one
  pub sends_into : (k n : ℕ) → SendsAt tasks k n → SendsTo tasks k n
  sends_into k n z =
      let wire = z.sends.wire in
      let pad = a_pad o z.task.head z.task.parts.items wire z.sends.is in
      let room = lane_room o (rest_of pad.0).behind z.sends.lane n z.sends.port z.sends.from (ap (λ (w : Wire). w.leads) (sym pad.1) ∙ z.sends.leads) in (
        wire.number,
        room.0.place,
        z.sends.from,
        z.sends.port,
        record {
          task = z.task;
          at = z.at;
          out = record { wire = wire; is = z.sends.is; number = refl; lane = z.sends.lane; leads = z.sends.leads; into = record { room = room.0; room_is = ap (λ (w : Wire). w.room) pad.1 ∙ room.1; place_is = refl } };
        },
      )

  pub into_sends : (k p place from n port : ℕ) → SendsInto tasks k p place from n port → SendsAt tasks k n
  into_sends k p place from n port x = record { task = x.task; at = x.at; sends = record { wire = x.out.wire; is = x.out.is; lane = x.out.lane; port = port; from = from; leads = x.out.leads } }

  -- the element that the head of the task at a place feeds
  pub head_sent : (k j : ℕ) (task was : Task S E I O L s e i o) → slice_get tasks k ≡ Some task → slice_get tasks j ≡ Some was → SendsToHead (frame_of task) was.head → (head : InletHead I) × IsFed tasks j head × SendsAt tasks k head.number
  head_sent k j task was at at' sends = go was.head refl sends
    where
      go : (head : Head S I O s) → was.head ≡ head → SendsToHead (frame_of task) head → (head : InletHead I) × IsFed tasks j head × SendsAt tasks k head.number
      go (Source one) is sends = absurd sends
      go (Inlets one) is sends = (one, record { task = was; at = at'; head_is = is }, record { task = task; at = at; sends = sends })

  pub head_not_sent : (k j : ℕ) (task was : Task S E I O L s e i o) → slice_get tasks k ≡ Some task → slice_get tasks j ≡ Some was → (SendsToHead (frame_of task) was.head → ⊥) → (head : InletHead I) → IsFed tasks j head → SendsAt tasks k head.number → ⊥
  head_not_sent k j task was at at' none head fed sends =
      none (subst (λ (h : Head S I O s). SendsToHead (frame_of task) h) (sym (ap (λ (t : Task S E I O L s e i o). t.head) (some_same (sym at' ∙ fed.at)) ∙ fed.head_is))
      (subst (λ (t : Task S E I O L s e i o). Sends (frame_of t) head.number) (some_same (sym sends.at ∙ at)) sends.sends))
