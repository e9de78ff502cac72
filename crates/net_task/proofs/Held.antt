-- A pad of a task that is tried: how it is wired, and why an item waits on there.
use Rattle.std.proofs.Common.{◌≡◌, ◌++◌, ℕ, List, drop, map, Some, Option, refl, sym, ap, ◌∙◌, subst}
use Rattle.std.specs.Prelude.{slice_get, None}
use Rattle.flow_model.specs.Item.{Item}
use Rattle.lane_core.specs.Lane.{Lane}
use Rattle.lane_core.specs.declared.ends.Outlet as outlets
use Rattle.flow_model.specs.Moment.{Moment}
use Rattle.flow_model.specs.declared.element.TaskElement as elements
use Rattle.flow_model.specs.declared.source.TaskSource as sources
use Rattle.task_pads.specs.declared.pad.Pad.{Pad}
use Rattle.task_pads.specs.declared.pad.Behind.{Behind}
use Rattle.task_pads.specs.declared.pad.Behind.TheVariants as behinds
use Rattle.task_pads.specs.declared.crossing.Crossing.{Crossing}
use Rattle.task_pads.specs.declared.crossing.Crossing.TheVariants.{Idle, To, Gone, Full, AtProbe, NotLinked, BehindEos, AtLimit, OutOfMemory}
use Rattle.task_pads.specs.Behind.{Goes, LaneEnd, nowhere, inside, over, WentIn, SentIn, goes, end_in, place_in}
use Rattle.pad_core.specs.declared.probe.Probe.{Probe}
use Rattle.task_pads.specs.Pads.{PadShape, Seen, end_of, goes_of, number_of, pad_shape, probe_of, rest_of, seen, waiting_of}
use Rattle.task_pads.specs.Crossing.{IsCrossing, IsFull, IsStopped, IsAtProbe, IsBehindEos, WentAway}
use Rattle.task_parts.specs.declared.part.Part.{Part}
use Rattle.task_parts.specs.declared.head.Head.{Head}
use Rattle.task_parts.specs.declared.step.Step.TheVariants as steps
use Rattle.task_parts.specs.Part.{PadSet}
use Rattle.task_parts.specs.Moved.{PartSet}
use Rattle.net_task.specs.Frame.{PartFrame, Room, Wire, WireAt, frame_in, part_frame, room_in, wire_of}
use Rattle.net_task.specs.Ready.{LeadsInto}
use Rattle.net_task.specs.Ties.{PadLinked}
use Rattle.net_task.specs.Reasons.{PadHolds}
use Rattle.task_pads.proofs.Lists.{map_set}
use Rattle.gst_value.proofs.Basics.{some_same}
use Rattle.gst_value.proofs.Places.{map_get}

-- all from the place of its lane on went into a pad's lane
went : {O L : Type 0} (o : outlets.Ghosts O L) (b : Behind O) (lane element pad from : ℕ) (h : List Item) → goes b ≡ over lane element pad from → SentIn o b h → WentIn o b (drop from h)
went o behinds.Nothing lane element pad from h g s = absurd cc
went o (behinds.Element number hint port) lane element pad from h g s = absurd cc
went o (behinds.Lane other to port at outlet) lane element pad from h g s = let same : at ≡ from = cc in subst (λ k. o.sent outlet (drop k h)) same s.1

end_nowhere : {O L : Type 0} (o : outlets.Ghosts O L) (b : Behind O) → goes b ≡ nowhere → end_in o b ≡ None
end_nowhere o behinds.Nothing g = refl
end_nowhere o (behinds.Element number hint pad) g = refl
end_nowhere o (behinds.Lane lane element pad from outlet) g = absurd cc

abbrev wire_by : ℕ → Goes → Option Room → Option Probe → Wire
wire_by number leads room probe = record { number = number; leads = leads; room = room; probe = probe }

module _ {O L : Type 0} (o : outlets.Ghosts O L) where
  -- a pad of the same shape, with the same room and the same probe, is wired as it was
  pub same_wire : (pad pad' : Pad O) → pad_shape pad' ≡ pad_shape pad → room_in (end_of o pad') ≡ room_in (end_of o pad) → probe_of pad' ≡ probe_of pad → wire_of o pad' ≡ wire_of o pad
  same_wire pad pad' shape room probe =
      ap (λ (z : PadShape). wire_by z.number z.goes (room_in (end_of o pad')) (probe_of pad')) shape
      ∙ ap (λ (z : Option Room). wire_by (number_of pad) (goes_of pad) z (probe_of pad')) room
      ∙ ap (λ (z : Option Probe). wire_by (number_of pad) (goes_of pad) (room_in (end_of o pad)) z) probe

  gone_room : (tells tells' : Option (List Lane)) (was is : Pad O) (x : Item) (sibling : _) (g : Goes) → goes_of was ≡ g → goes_of is ≡ g → WentAway o x (seen was) (seen is) sibling tells tells' g → room_in (end_of o is) ≡ room_in (end_of o was)
  gone_room tells tells' was is x sibling nowhere p q w = ap room_in (end_nowhere o (rest_of is).behind q ∙ sym (end_nowhere o (rest_of was).behind p))
  gone_room tells tells' was is x sibling (inside n k) p q w = absurd w
  gone_room tells tells' was is x sibling (over lane n k from) p q w = ap room_in w.2 ∙ sym (ap room_in w.1)

  -- no try of a pad changes the room of its lane
  pub came_room : (tells tells' : Option (List Lane)) (was is : Pad O) (sibling : _) (crossing : Crossing) → IsCrossing o was is tells tells' sibling crossing → room_in (end_of o is) ≡ room_in (end_of o was)
  came_room tells tells' was is sibling Idle x = ap (λ (z : Seen O). room_in (end_in o z.behind)) x.1
  came_room tells tells' was is sibling (To number hint pad) x = ap (λ b. room_in (end_in o b)) x.0.behind
  came_room tells tells' was is sibling Gone x = gone_room tells tells' was is x.item sibling (goes_of was) refl x.leads x.way
  came_room tells tells' was is sibling (Full lane) x = ap room_in x.is ∙ sym (ap room_in x.was)
  came_room tells tells' was is sibling (AtProbe command) x = ap room_in x.stands.end
  came_room tells tells' was is sibling NotLinked x = ap room_in x.0.stands.end
  came_room tells tells' was is sibling BehindEos x = ap room_in x.stands.end
  came_room tells tells' was is sibling AtLimit x = ap (λ (z : Seen O). room_in (end_in o z.behind)) x.2
  came_room tells tells' was is sibling OutOfMemory x = ap (λ (z : Seen O). room_in (end_in o z.behind)) x.1

  -- the item that waits first at a pad waits on, for want of room
  pub full_holds : (tells tells' : Option (List Lane)) (m : Moment) (was is : Pad O) (lane : ℕ) (more : List Item) → PadLinked o m was → m.waits (number_of was) ≡ waiting_of was ++ more → IsFull o (seen was) (seen is) lane tells tells'
      → PadHolds tells m (wire_of o was) (steps.NeedsRoom lane)
  full_holds tells tells' m was is lane more linked waits f = record {
    item = f.item;
    rest = f.rest ++ more;
    waits = waits ∙ ap (λ (xs : List Item). xs ++ more) f.waited;
    held = record {
      element = f.element;
      pad = f.pad;
      from = f.from;
      leads = f.to;
      room = record { place = f.end.place; limits = f.end.limits };
      room_is = ap room_in f.was;
      full = λ got b. f.holds (drop f.from (m.history (number_of was))) got (went o (rest_of was).behind lane f.element f.pad f.from (m.history (number_of was)) f.to linked.sent) b;
    };
  }

  -- at a probe
  pub probe_holds : (tells tells' : Option (List Lane)) (m : Moment) (was is : Pad O) (command : ℕ) (more : List Item) → PadLinked o m was → m.waits (number_of was) ≡ waiting_of was ++ more
      → IsStopped o (seen was) (seen is) (IsAtProbe o (seen was) command) tells tells' → PadHolds tells m (wire_of o was) (steps.AtProbe command)
  probe_holds tells tells' m was is command more linked waits f =
      let w = f.why (m.history (number_of was)) linked.crossed in
      record { item = f.item; rest = f.rest ++ more; waits = waits ∙ ap (λ (xs : List Item). xs ++ more) f.waited; held = record { buffer = w.1; probe = w.2 } }

  -- behind an EOS
  pub ended_holds : (tells tells' : Option (List Lane)) (m : Moment) (was is : Pad O) (more : List Item) → PadLinked o m was → m.waits (number_of was) ≡ waiting_of was ++ more
      → IsStopped o (seen was) (seen is) (IsBehindEos o) tells tells' → PadHolds tells m (wire_of o was) steps.Ended
  ended_holds tells tells' m was is more linked waits f =
      record { item = f.item; rest = f.rest ++ more; waits = waits ∙ ap (λ (xs : List Item). xs ++ more) f.waited; held = f.why (m.history (number_of was)) linked.crossed }

  -- the lane of a pad stands at a place
  pub leads_into : (pad : Pad O) (place : ℕ) → place_in (end_of o pad) ≡ Some place → LeadsInto (wire_of o pad) place
  leads_into pad place q = go (end_of o pad) refl q
    where
      go : (end : Option LaneEnd) → end_of o pad ≡ end → place_in end ≡ Some place → LeadsInto (wire_of o pad) place
      go None same w = absurd cc
      go (Some end) same w = record { room = record { place = end.place; limits = end.limits }; room_is = ap room_in same; place_is = some_same w }

module _ {E O L : Type 0} {e : elements.Ghosts E} (o : outlets.Ghosts O L) where
  -- an element of which a pad is another now that is wired alike
  pub wire_set : (was is : Part E O e) (port : ℕ) (pad pad' : Pad O) → PadSet was is port pad pad' → wire_of o pad' ≡ wire_of o pad → part_frame o is ≡ part_frame o was
  wire_set was is port pad pad' set same =
      ap (λ n. frame_by n (e.file is.element) (map (wire_of o) is.pads.items)) set.number
      ∙ ap (λ (z : E). frame_by was.number (e.file z) (map (wire_of o) is.pads.items)) set.element
      ∙ ap (λ (ws : List Wire). frame_by was.number (e.file was.element) ws) (ap (λ (ps : List (Pad O)). map (wire_of o) ps) set.set ∙ map_set (wire_of o) was.pads.items port pad pad' set.at same)
    where
      frame_by : ℕ → Option (Option (List ℕ)) → List Wire → PartFrame
      frame_by n f ws = record { number = n; file = f; wires = ws }

  pub frames_set : (parts parts' : List (Part E O e)) (place : ℕ) (was is : Part E O e) → PartSet parts parts' place was is → part_frame o is ≡ part_frame o was → map (part_frame o) parts' ≡ map (part_frame o) parts
  frames_set parts parts' place was is set same = ap (λ (ps : List (Part E O e)). map (part_frame o) ps) set.set ∙ map_set (part_frame o) parts place was is set.at same

module _ {S E I O L : Type 0} {s : sources.Ghosts S} {e : elements.Ghosts E} (o : outlets.Ghosts O L) (head : Head S I O s) where
  -- the wire of a pad of an element
  pub wire_at : (parts : List (Part E O e)) (place port : ℕ) (part : Part E O e) (pad : Pad O) → slice_get parts place ≡ Some part → slice_get part.pads.items port ≡ Some pad → WireAt (frame_in o head parts) place port (wire_of o pad)
  wire_at parts place port part pad at pad_at = record { part = part_frame o part; at = map_get (part_frame o) parts place part at; pad_at = map_get (wire_of o) part.pads.items port pad pad_at }

  pub wire_is : (parts : List (Part E O e)) (place port : ℕ) (part : Part E O e) (pad : Pad O) (wire : Wire) → slice_get parts place ≡ Some part → slice_get part.pads.items port ≡ Some pad → WireAt (frame_in o head parts) place port wire → wire ≡ wire_of o pad
  wire_is parts place port part pad wire at pad_at w =
      let same : w.part ≡ part_frame o part = some_same (sym w.at ∙ map_get (part_frame o) parts place part at) in
      some_same (sym w.pad_at ∙ ap (λ (z : PartFrame). slice_get z.wires port) same ∙ map_get (wire_of o) part.pads.items port pad pad_at)
