-- The tasks of a graph have the elements of its bags, and keep them.
use Rattle.std.proofs.Common.{◌≡◌, ℕ, Bool, List, Option, None, Some, if◌then◌else◌, length, refl, sym, ap, ◌∙◌, subst, arith}
use Rattle.std.specs.Prelude.{slice_get}
use Rattle.std.specs.Option.{option_map_or}
use Rattle.std.proofs.lemmas.List.{length-map}
use Rattle.std.proofs.lemmas.Option.{slice_get_within}
use Rattle.el_settings.specs.Asked.{sink_pads}
use Rattle.flow_model.specs.declared.element.TaskElement as elements
use Rattle.flow_model.specs.declared.source.TaskSource as givers
use Rattle.graph_parts.specs.Links.{link_to}
use Rattle.graph_parts.specs.declared.bag.Bag.{Bag}
use Rattle.graph_parts.specs.declared.bag.BagElement.{BagElement}
use Rattle.graph_parts.specs.declared.bag.BagHead.{BagHead}
use Rattle.graph_parts.specs.declared.bag.BagLink.TheVariants as links_of
use Rattle.graph_core.specs.Elements.{Made}
use Rattle.graph_pads.specs.Links.{sink_behind}
use Rattle.graph_pads.specs.declared.pad.PadLink.{PadLink}
use Rattle.graph_pads.specs.declared.pad.PadPlace.{PadPlace}
use Rattle.graph_tasks.specs.Frames.{HaveBags, IsFrameOf, IsHeadFrame, IsPartFrame, IsWireOf, RoomBy, goes_by}
use Rattle.graph_tasks.specs.Tasks.{AreTasks, IsHeadOf, IsPadOf, IsPartOf, IsTaskOf, LeadsTo, sink_count}
use Rattle.lane_core.specs.Lane.{Lane}
use Rattle.lane_core.specs.declared.ends.Inlet as inlets
use Rattle.lane_core.specs.declared.ends.Outlet as outlets
use Rattle.graph_core.specs.GraphPlan.{sink_count as sinks_in, sink_at as place_at}
use Rattle.net_task.specs.Frame.{PartFrame, TaskFrame, Wire, frame_of, head_frame, part_frame, room_in, wire_of}
use Rattle.net_task.specs.declared.task.Task.{Task}
use Rattle.net_turns.specs.Rests.{AllFramed}
use Rattle.task_pads.specs.Behind.{nowhere, inside, end_in, goes}
use Rattle.task_pads.specs.Pads.{end_of, goes_of}
use Rattle.task_pads.specs.declared.pad.Behind.{Behind}
use Rattle.task_pads.specs.declared.pad.Behind.TheVariants as behinds
use Rattle.task_pads.specs.declared.pad.Pad.{Pad}
use Rattle.task_parts.specs.declared.head.Head.{Head}
use Rattle.task_parts.specs.declared.part.Part.{Part}
use Rattle.gst_value.proofs.Places.{found_at as got_within, map_got}

-- the sink pads of an element
sinks_same : (made : List Made) (n : ℕ) → sink_count made n ≡ sinks_in (slice_get made n)
sinks_same made n = by (slice_get made n)
  where
    by : (found : Option Made) → option_map_or (λ (m : Made). sink_pads m.settings) found 0 ≡ sinks_in found
    by None = refl
    by (Some m) = refl

module _ {O L : Type 0} (o : outlets.Ghosts O L) where
  -- a pad that leads over no lane has none
  nowhere_none : (behind : Behind O) → goes behind ≡ nowhere → room_in (end_in o behind) ≡ None
  nowhere_none behinds.Nothing leads = refl
  nowhere_none (behinds.Element number hint pad) leads = refl
  nowhere_none (behinds.Lane lane element pad from outlet) leads = absurd (cc)

  inside_none : (behind : Behind O) (d p : ℕ) → goes behind ≡ inside d p → room_in (end_in o behind) ≡ None
  inside_none behinds.Nothing d p leads = refl
  inside_none (behinds.Element number hint pad) d p leads = refl
  inside_none (behinds.Lane lane element pad from outlet) d p leads = absurd (cc)

module _ {O L : Type 0} (o : outlets.Ghosts O L) (made : List Made) (links : List PadLink) where
  -- a pad leads where the graph tells
  leads_is : (pad : Pad O) (found : Option PadPlace) → LeadsTo o made links pad found
      → (goes_of pad ≡ goes_by (link_to made found)) × RoomBy made links (link_to made found) (room_in (end_of o pad))
  leads_is pad found (LeadsTo.nothing leads) = (leads, nowhere_none o pad.behind leads)
  leads_is pad found (LeadsTo.element sink inner leads) =
      subst (λ (b : Bool). let link = (if b then links_of.Lane sink.element sink.pad else links_of.Element sink.element sink.pad) in
      (goes_of pad ≡ goes_by link) × RoomBy made links link (room_in (end_of o pad)))
      (sym inner) (leads, inside_none o pad.behind sink.element sink.pad leads)
  leads_is pad found (LeadsTo.lane sink outer into) =
      subst (λ (b : Bool). let link = (if b then links_of.Lane sink.element sink.pad else links_of.Element sink.element sink.pad) in
      (goes_of pad ≡ goes_by link) × RoomBy made links link (room_in (end_of o pad)))
      (sym outer) (into.goes, (record { place = into.end.place; limits = into.end.limits }, ap room_in into.is, into.place, into.room))

  wire_is : (n k : ℕ) (pad : Pad O) → IsPadOf o made links n k pad → IsWireOf made links n k (wire_of o pad)
  wire_is n k pad is =
      let to = leads_is pad (sink_behind links (place_at n k)) is.leads in
      record { number = is.number; leads = to.0; room = to.1; unprobed = is.unprobed }

  module _ {E : Type 0} {e : elements.Ghosts E} where
    part_is : (ends : List (Option E)) (cell : BagElement) (part : Part E O e) → IsPartOf o made links ends cell part
        → IsPartFrame made links cell.element (part_frame o part)
    part_is ends cell part is = record {
      number = is.number;
      all = length-map part.pads.items (wire_of o) ∙ is.all;
      wires = λ k wire at.
          let pad = map_got (wire_of o) part.pads.items k wire at in
          subst (λ (w : Wire). IsWireOf made links cell.element k w) (sym pad.2) (wire_is cell.element k pad.0 (is.pads k pad.0 pad.1));
    }

module _ {S I O L : Type 0} {s : givers.Ghosts S} (i : inlets.Ghosts I L O) (o : outlets.Ghosts O L) (made : List Made) (links : List PadLink) where
  head_is : (files : List (Option S)) (bag : BagHead) (head : Head S I O s) → IsHeadOf i o made links files bag head
      → IsHeadFrame made links bag (head_frame o head)
  head_is files bag head (IsHeadOf.from_source cell own number file given one pad) = (number, one, wire_is o made links cell.element 0 own.pad pad)
  head_is files bag head (IsHeadOf.from_inlets n own number count rows) = (number, count ∙ sinks_same made n)

module _ {S E I O L : Type 0} {s : givers.Ghosts S} {e : elements.Ghosts E} (i : inlets.Ghosts I L O) (o : outlets.Ghosts O L)
    (made : List Made) (links : List PadLink) where
  task_is : (ends : List (Option E)) (files : List (Option S)) (bag : Bag) (task : Task S E I O L s e i o) → IsTaskOf i o made links ends files bag task
      → IsFrameOf made links bag (frame_of task)
  task_is ends files bag task is = record {
    head = head_is i o made links files bag.head task.head is.head;
    count = length-map task.parts.items (part_frame o) ∙ is.count;
    parts = λ place cell frame at to.
        let part = map_got (part_frame o) task.parts.items place frame to in
        subst (λ (f : PartFrame). IsPartFrame made links cell.element f) (sym part.2)
        (part_is o made links ends cell part.0 (is.parts place cell part.0 at part.1));
  }

  -- there is a task for each bag
  pub tasks_have : (ends : List (Option E)) (files : List (Option S)) (bags : List Bag) (tasks : List (Task S E I O L s e i o)) (table : List Lane)
      → AreTasks i o made links ends files bags tasks table → HaveBags made links bags tasks
  tasks_have ends files bags tasks table are =
      record { count = are.count; each = λ k bag task at to. task_is ends files bag task (are.each k bag task at to) }

  -- and so it is behind steps
  pub tasks_keep : (bags : List Bag) (was is : List (Task S E I O L s e i o)) → HaveBags made links bags was → length is ≡ length was → AllFramed was is
      → HaveBags made links bags is
  tasks_keep bags was is have size framed = record {
    count = size ∙ have.count;
    each = λ k bag task at to.
        let w = slice_get_within is k task to in
        let before = got_within was k (omega (arith, w, size)) in
        subst (λ (f : TaskFrame). IsFrameOf made links bag f) (sym (framed k before.0 task before.1 to)) (have.each k bag before.0 at before.1);
  }
